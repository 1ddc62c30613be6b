-- One device call of a disk that tells nothing.
use Rattle.std.proofs.Common.{◌≡◌, inr, ℕ, List, [], ◌∷◌, Option, Some, None, refl, ap, ◌∙◌, arith}
use Rattle.std.proofs.lemmas.Option.{same_Some}
use Rattle.sw_words.specs.Counts.{one_more}
use Rattle.sw_disk.specs.Calls.{Call, Do}
use Rattle.sw_disk.specs.Runs.{Runs}
use Rattle.sw_disk.specs.declared.refusal.DiskRefusal.{DiskRefusal}
use Rattle.sw_disk.specs.declared.refusal.DiskRefusal.TheVariants.{Failed, Full, NoMemory}
use Rattle.sw_hostdisk.specs.Silent.{after_refusal, silent}

module _ {D : Type 0} (faults : D → ℕ) (call : Call) (old new : D) where
  -- a call that goes well
  pub done : faults new ≡ faults old → Runs (λ disk. silent (faults disk)) (λ disk since folder image. Unit {0}) (call ∷ []) None old new
  done same = record {
    steps = Do call ∷ [];
    rest = [];
    split = refl;
    all = λ _. refl;
    some = λ reason not. cc;
    told = refl;
    later = omega arith;
    nothing_else = λ t folder image before left. inr tt;
    keeps = λ exact t folder image before left. tt;
    failed = λ not. cc;
    quiet = λ not. same;
  }

  is_counted : (reason : DiskRefusal) → reason ≡ Failed → after_refusal reason (faults old) ≡ one_more (faults old)
  is_counted Failed is = refl
  is_counted (Full need free) is = cc
  is_counted NoMemory is = cc

  is_not : (reason : DiskRefusal) → (reason ≡ Failed → ⊥) → after_refusal reason (faults old) ≡ faults old
  is_not Failed not = absurd (not refl)
  is_not (Full need free) not = refl
  is_not NoMemory not = refl

  -- a call that is refused
  pub refused : (reason : DiskRefusal) → faults new ≡ after_refusal reason (faults old) → Runs (λ disk. silent (faults disk)) (λ disk since folder image. Unit {0}) (call ∷ []) (Some reason) old new
  refused reason counts = record {
    steps = [];
    rest = call ∷ [];
    split = refl;
    all = λ none. cc;
    some = λ other is none. cc;
    told = refl;
    later = omega arith;
    nothing_else = λ t folder image before left. inr tt;
    keeps = λ exact t folder image before left. tt;
    failed = λ is. counts ∙ is_counted reason (same_Some _ _ is);
    quiet = λ not. counts ∙ is_not reason (λ is. not (ap Some is));
  }
