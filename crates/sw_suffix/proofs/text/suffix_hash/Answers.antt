use Rattle.std.proofs.Common.{◌∙◌, List, ℕ, ap, take, subst}
use Rattle.md5.specs.Md5.{Holds, md5}
use Rattle.sw_suffix.specs.Suffix.{suffix_text}
use Rattle.sw_suffix.proofs.Texts.{suffix_text-more, suffix_text-whole}
use Rattle.sw_suffix.proofs.text.suffix_hash.Goals as goal

pub loop-place-preserved : goal.loop-place-preserved
loop-place-preserved c =
    subst (λ (text : List ℕ). Holds c.add_line.new.hasher text)
    (suffix_text-more c.args.floors.now c.loop-place.place-index c.loop-place-item.result c.loop-place-test.true c.loop-place-item.is)
    (c.add_line.ensures (suffix_text (take c.loop-place.place-index c.args.floors.now)) c.loop-place.invariant)

pub returns : goal.returns
returns c = c.finalize.ensures (suffix_text (take c.loop-place.place-index c.args.floors.now)) c.loop-place.invariant
    ∙ ap md5 (suffix_text-whole c.args.floors.now c.loop-place.place-index c.loop-place-test.false)
