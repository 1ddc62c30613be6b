-- Rules that are tried one after another: the first that is broken gives the fault.
use Rattle.std.proofs.Common.{◌≡◌, Bool, true, false, cond, Option, Some, None, refl}
use Rattle.std.specs.Option.{option_or}

-- where there is no fault, a rule is kept, and there is none after it
pub kept : {A : Type 0} (broken : Bool) (fault : A) (later : Option A) → cond broken (Some fault) later ≡ None → (broken ≡ false) × (later ≡ None)
kept true fault later h = absurd (cc)
kept false fault later h = (refl, h)

-- a rule that is kept gives no fault where there is none after it
pub passed : {A : Type 0} (broken : Bool) (fault : A) (later : Option A) → broken ≡ false → later ≡ None → cond broken (Some fault) later ≡ None
passed true fault later h none = absurd (cc)
passed false fault later h none = none

-- where there is no fault, none of the first rules is broken, nor of those after them
pub neither : {A : Type 0} (first later : Option A) → option_or first later ≡ None → (first ≡ None) × (later ≡ None)
neither (Some fault) later h = absurd (cc)
neither None later h = (refl, h)
