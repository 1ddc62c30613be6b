use Rattle.std.proofs.Common.{◌∷◌, [], ◌++◌, ◌∙◌, ap₂, sym, zero-add}
use Rattle.std.proofs.lemmas.List.FromFn.{map-range_with_len_more}
use Rattle.archive_bench.specs.Archives.{archive_at}
use Rattle.archive_bench.proofs.put.Put.archives.Goals as goal

pub loop-index-preserved : goal.loop-index-preserved
loop-index-preserved c =
    let index = c.loop-index.index in
    c.in_ok-push.ensures.items
    ∙ ap₂ (λ before new. before ++ new ∷ []) c.loop-index.invariant c.in_ok-archive.ensures
    ∙ sym (map-range_with_len_more (archive_at c.args.self.now) 0 index index (zero-add index))
