-- What was written of an answer, and what was counted.
use Rattle.std.proofs.Common.{◌≡◌, ℕ, List, [], take, Option, Result, Ok, Err, IsErrOf, OnOk, inl, inr, refl, sym, subst}
use Rattle.std.specs.Io.KnownBytes.{Appends}
use Rattle.std.proofs.KnownBytes.{Appends-nil}
use Rattle.sw_words.specs.Counts.{one_more}
use Rattle.sw_io.specs.Whole.{AppendsProperFront}
use Rattle.sw_httpwrite.specs.declared.write.WriteEnd.{WriteEnd}
use Rattle.sw_httpwrite.specs.declared.write.WriteEnd.TheVariants.{NoMemory, WriteFault}
use Rattle.sw_serve.specs.Serving.{IsFront}

-- all of it, less than all, where that was counted, or nothing
pub written_front : (result : Result (Unit {0}) WriteEnd) (written written' : Option (List ℕ)) (faults faults' : ℕ) (whole : List ℕ) → OnOk result (Appends written written' whole)
    → (IsErrOf result WriteFault → AppendsProperFront written written' whole) → (IsErrOf result NoMemory → written' ≡ written)
    → OnOk result (faults' ≡ faults) → (IsErrOf result WriteFault → faults' ≡ one_more faults) → (IsErrOf result NoMemory → faults' ≡ faults)
    → (front : List ℕ) × Appends written written' front × IsFront faults faults' front whole
written_front (Ok done) written written' faults faults' whole all part none quiet counted same = (whole, all, inl (quiet, inl refl))
written_front (Err WriteFault) written written' faults faults' whole all part none quiet counted same =
    let some = part refl in
    (take some.0 whole, some.1, inr (counted refl, (some.0, some.2, refl)))
written_front (Err NoMemory) written written' faults faults' whole all part none quiet counted same =
    ([], subst (λ (w : Option (List ℕ)). Appends written w []) (sym (none refl)) (Appends-nil written), inl (same refl, inr refl))
