-- Each failure in a history is counted by the disk, also behind a mount or a reply.
use Rattle.std.proofs.Common.{◌≡◌, ◌≢◌, inl, inr, ℕ, Bool, true, false, List, ◌∷◌, Option, None, Some, refl, sym, subst, arith}
use Rattle.std.proofs.lemmas.Bool.{cases_lt}
use Rattle.sw_words.specs.Counts.{last_count, one_more}
use Rattle.sw_message.specs.declared.message.Msg.{Msg}
use Rattle.sw_message.specs.declared.reply.Reply.{Reply}
use Rattle.sw_message.specs.declared.reply.Reply.TheVariants.{DiskFault, NoMemory}
use Rattle.sw_objsrv.specs.declared.fault.MountFault.{MountFault}
use Rattle.sw_objsrv.specs.declared.fault.MountFault.TheVariants as fault
use Rattle.sw_view.specs.declared.event.Event.{Event}
use Rattle.sw_view.specs.declared.event.Event.TheVariants.{Faulted, Handled}
use Rattle.sw_cell.specs.Calling.{remounted_events, replied_events, shown}
use Rattle.sw_cell.specs.Locked.{AreCounted}

-- a failure that was counted, too
one_counted : (msg : Msg) (events : List Event) (faults : ℕ) → AreCounted events faults → AreCounted (Faulted msg ∷ events) (one_more faults)
one_counted msg events faults (inl few) = elim (cases_lt faults last_count) [ inl less ↦ inl (omega (arith, few, less)) | inr last ↦ inr (omega (arith, last)) ]
one_counted msg events faults (inr last) = inr (omega (arith, last))

-- over a disk that tells nothing none is shown
shown_counted : (tells : Bool) (msg : Msg) (events : List Event) (faults : ℕ) → AreCounted events faults → AreCounted (shown tells (Faulted msg) ∷ events) (one_more faults)
shown_counted true msg events faults counted = one_counted msg events faults counted
shown_counted false msg events faults (inl few) = elim (cases_lt faults last_count) [ inl less ↦ inl (omega (arith, few, less)) | inr last ↦ inr (omega (arith, last)) ]
shown_counted false msg events faults (inr last) = inr (omega (arith, last))

-- behind a mount
pub mount_counted : (tells : Bool) (msg : Msg) (reason : Option MountFault) (events : List Event) (faults faults' : ℕ) → (reason ≡ Some fault.Failed → faults' ≡ one_more faults) → (reason ≢ Some fault.Failed → faults' ≡ faults)
    → AreCounted events faults → AreCounted (remounted_events tells msg reason events) faults'
mount_counted tells msg None events faults faults' failed quiet counted = subst (AreCounted events) (sym (quiet (λ is. absurd (cc)))) counted
mount_counted tells msg (Some fault.NoMemory) events faults faults' failed quiet counted = subst (AreCounted events) (sym (quiet (λ is. absurd (cc)))) counted
mount_counted tells msg (Some fault.Failed) events faults faults' failed quiet counted =
    subst (AreCounted (shown tells (Faulted msg) ∷ events)) (sym (failed refl)) (shown_counted tells msg events faults counted)

-- what is no failure is none
handled_counted : (tells : Bool) (msg : Msg) (reply : Reply) (events : List Event) (faults : ℕ) → AreCounted events faults → AreCounted (shown tells (Handled msg reply) ∷ events) faults
handled_counted true msg reply events faults counted = counted
handled_counted false msg reply events faults counted = counted

-- behind a reply
pub reply_counted : (tells : Bool) (msg : Msg) (reply : Reply) (events : List Event) (faults faults' : ℕ) → (reply ≡ DiskFault → faults' ≡ one_more faults) → (reply ≢ DiskFault → faults' ≡ faults)
    → AreCounted events faults → AreCounted (replied_events tells msg reply events) faults'
reply_counted tells msg DiskFault events faults faults' failed quiet counted =
    subst (AreCounted (shown tells (Faulted msg) ∷ events)) (sym (failed refl)) (shown_counted tells msg events faults counted)
reply_counted tells msg NoMemory events faults faults' failed quiet counted = subst (AreCounted events) (sym (quiet (λ is. absurd (cc)))) counted
reply_counted tells msg reply events faults faults' failed quiet counted =
    subst (AreCounted (shown tells (Handled msg reply) ∷ events)) (sym (quiet (λ is. absurd (cc)))) (handled_counted tells msg reply events faults counted)
