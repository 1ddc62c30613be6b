use Rattle.std.proofs.Common.{rules, ◌≡◌, arith, sym, ◌∙◌, refl}
use Rattle.std.proofs.lemmas.List.{take_all}
use Rattle.std.proofs.lemmas.Slice.{overwrites}
use Rattle.md5.specs.Md5.{digest_bytes}
use Rattle.md5.proofs.Absorbing.{digest_more}
use Rattle.sw_md5.proofs.last.digest_of.Goals as goal

pub loop-index-init : goal.loop-index-init
unfolding digest_bytes
loop-index-init c = record { long = refl; bytes = refl }

pub loop-index-preserved : goal.loop-index-preserved
loop-index-preserved c = record {
  long = search (rules, overwrites);
  bytes = digest_more c.loop-index.digest c.args.state _ c.loop-index.index _ c.loop-index.invariant.bytes (omega arith)
      (c.copy_from_slice.ensures.after ∙ c.to_le_bytes.ensures);
}

pub returns : goal.returns
returns c =
    let done : c.loop-index.index ≡ 4 = omega arith in
    let words = rw done at c.loop-index.invariant.bytes in
    sym (take_all 16 c.loop-index.digest (omega arith)) ∙ words
