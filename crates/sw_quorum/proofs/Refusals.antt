-- Answers that refuse a write by a floor.
use Rattle.std.specs.Prelude.{◌≡◌, Bool, true, false, Option, Some}
use Rattle.std.proofs.Common.{ap, refl, sym, ◌∙◌}
use Rattle.sw_hashdir.specs.declared.floor.Floor.{Floor}
use Rattle.sw_message.specs.declared.reply.Reply.{Reply}
use Rattle.sw_message.specs.declared.reply.Reply.TheVariants as reply
use Rattle.sw_quorum.specs.Answers.{forbidden_if}
use Rattle.sw_quorum.specs.declared.verdict.Verdict.TheVariants.{Done, Forbidden}

-- the answer tells of this floor, which forbids the write
abbrev pub IsRefusal : (Floor → Bool) → Option Reply → Floor → Type 0
IsRefusal forbids answer floor = (answer ≡ Some (reply.Superseded floor)) × (forbids floor ≡ true)

forbidden-by : (b : Bool) (told floor : Floor) → forbidden_if b told ≡ Forbidden floor → (b ≡ true) × (told ≡ floor)
forbidden-by true told floor is = (refl, cc)
forbidden-by false told floor is = absurd (cc)

pub refusal : (forbids : Floor → Bool) (told floor : Floor) → forbidden_if (forbids told) told ≡ Forbidden floor → IsRefusal forbids (Some (reply.Superseded told)) floor
refusal forbids told floor is =
    let known = forbidden-by (forbids told) told floor is in
    (ap (λ floor. Some (reply.Superseded floor)) known.1, ap forbids (sym known.1) ∙ known.0)

-- a refusal is not done
pub not-done : (b : Bool) (floor : Floor) → forbidden_if b floor ≡ Done → ⊥
not-done true floor is = cc
not-done false floor is = cc
