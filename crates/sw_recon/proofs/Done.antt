-- What was done about entries stays so, and one entry more is done.
use Rattle.std.proofs.Common.{inl, inr, ℕ, ◌+◌, List, [], ◌∷◌, ◌++◌, Option, Some, refl, ap}
use Rattle.sw_hashdir.specs.declared.entry.Entry.{Entry}
use Rattle.sw_ring.proofs.Among.{Contains-cons}
use Rattle.sw_message.specs.Transcript.{Closed, Step}
use Rattle.sw_message.specs.declared.message.Msg.{Msg}
use Rattle.sw_message.specs.declared.miss.Miss.{Miss}
use Rattle.sw_message.specs.declared.reply.Reply.{Reply}
use Rattle.sw_recon.specs.Causes.{AreDone, IsCovered, WasKept, WasMissed, WasRemoved, WasStored, WasTold}
use Rattle.sw_recon.specs.Revert.{Begun, kept_as}
use Rattle.sw_recon.specs.Sends.{IsUncovered}
use Rattle.sw_recon.specs.declared.kept.KeptCause.{KeptCause}
use Rattle.sw_recon.specs.declared.kept.KeptCause.TheVariants.{Missed, NoMark, NotDurable}
use Rattle.sw_recon.specs.declared.kept.KeptEntry.{KeptEntry}

-- ---- it stays so

module _ (past : List Step) (step : Step) where
  pub told-later : (device : ℕ) (msg : Msg) (answer : Option Reply) → WasTold past device msg answer → WasTold (step ∷ past) device msg answer
  told-later device msg answer (ticket, there) = (ticket, Contains-cons (Closed (record { ticket = ticket; device = device; msg = msg }) answer) step past there)

  module _ (begun : Begun) where
    missed-later : (entry : Entry) (how : Miss) → WasMissed begun past entry how → WasMissed begun (step ∷ past) entry how
    missed-later entry how was = record { below = was.below; device = was.device; msg = was.msg; about = was.about; answer = was.answer; told = told-later was.device was.msg was.answer was.told; miss = was.miss }

    pub uncovered-later : (entry : Entry) → IsUncovered begun past entry → IsUncovered begun (step ∷ past) entry
    uncovered-later entry is = record { listing = is.listing; told = told-later _ _ _ is.told; not_covered = is.not_covered }

    pub stored-later : (entry : Entry) → WasStored begun past entry → WasStored begun (step ∷ past) entry
    stored-later entry was = record { durable = was.durable; bytes = was.bytes; told = told-later _ _ _ was.told }

    kept-later : (entry : Entry) (cause : KeptCause) → WasKept begun past entry cause → WasKept begun (step ∷ past) entry cause
    kept-later entry NotDurable (below, plain, listing, told, none) = (below, plain, listing, told-later _ _ _ told, none)
    kept-later entry NoMark (below, stored, told) = (below, stored-later entry stored, told-later _ _ _ told)
    kept-later entry (Missed how) (inl above) = inl above
    kept-later entry (Missed how) (inr was) = inr (missed-later entry how was)

    pub covered-later : (entry : Entry) → IsCovered begun past entry → IsCovered begun (step ∷ past) entry
    covered-later entry is = record { below = is.below; msg = is.msg; given = is.given; told = told-later _ is.msg (Some is.given) is.told; place = is.place; shows = is.shows }

    pub done-later : (entries : List Entry) (removed : ℕ) (kept : List KeptEntry) → AreDone begun past entries removed kept → AreDone begun (step ∷ past) entries removed kept
    done-later [] removed kept done = done
    done-later (entry ∷ entries) removed kept (inl (cause, rest, is, was, more)) = inl (cause, rest, is, kept-later entry cause was, done-later entries removed rest more)
    done-later (entry ∷ entries) removed kept (inr (fewer, is, was, more)) = inr (fewer, is, (covered-later entry was.0, told-later _ _ _ was.1), done-later entries fewer kept more)

-- ---- one entry more

module _ (begun : Begun) (past : List Step) (entry : Entry) where
  pub done-kept : (cause : KeptCause) → WasKept begun past entry cause → (entries : List Entry) (removed : ℕ) (kept : List KeptEntry) → AreDone begun past entries removed kept
      → AreDone begun past (entries ++ entry ∷ []) removed (kept ++ kept_as entry cause ∷ [])
  done-kept cause was [] removed kept (none, nothing) = inl (cause, [], ap (λ (these : List KeptEntry). these ++ kept_as entry cause ∷ []) nothing, was, (none, refl))
  done-kept cause was (first ∷ entries) removed kept (inl (other, rest, is, so, more)) =
      inl (other, rest ++ kept_as entry cause ∷ [], ap (λ (these : List KeptEntry). these ++ kept_as entry cause ∷ []) is, so, done-kept cause was entries removed rest more)
  done-kept cause was (first ∷ entries) removed kept (inr (fewer, is, so, more)) = inr (fewer, is, so, done-kept cause was entries fewer kept more)

  pub done-removed : WasRemoved begun past entry → (entries : List Entry) (removed : ℕ) (kept : List KeptEntry) → AreDone begun past entries removed kept → AreDone begun past (entries ++ entry ∷ []) (removed + 1) kept
  done-removed was [] removed kept (none, nothing) = inr (0, ap (λ n. n + 1) none, was, (refl, nothing))
  done-removed was (first ∷ entries) removed kept (inl (other, rest, is, so, more)) = inl (other, rest, is, so, done-removed was entries removed rest more)
  done-removed was (first ∷ entries) removed kept (inr (fewer, is, so, more)) = inr (fewer + 1, ap (λ n. n + 1) is, so, done-removed was entries fewer kept more)
