use Rattle.std.proofs.Common.{◌+◌, ◌∙◌, ap, ap₂, length, sym, ℕ}
use Rattle.std.proofs.lemmas.List.FromFn.{length-map-range_with_len}
use Rattle.archive_bench.specs.Archives.{archive_at}
use Rattle.archive_bench.proofs.measure.costs_from.Goals as goal

pub k_from-k_archives-requires-clause-count : goal.k_from-k_archives-requires-clause-count
k_from-k_archives-requires-clause-count g c =
    let put = c.args.put.now in
    ap length c.requires.archives ∙ length-map-range_with_len (archive_at put) 0 (put.policy.k + put.policy.m) ∙ sym (ap₂ (λ (k m : ℕ). k + m) c.from-code.ensures.0 c.from-code.ensures.1)
