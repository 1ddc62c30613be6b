-- The message of the status is handed out, and bytes with it.
use Rattle.std.proofs.Common.{◌≡◌, ℕ, false, true, List, ◌∷◌, length, None, refl, sym, ap, subst, ◌∙◌, arith}
use Rattle.std.specs.List.{slice_index}
use Rattle.sw_ring.specs.Cluster.{column_of}
use Rattle.sw_message.specs.Transcript.{Gave, Step}
use Rattle.sw_message.specs.declared.message.Msg.{Msg}
use Rattle.sw_message.specs.declared.sent.Sent.{Sent}
use Rattle.sw_recon.specs.Course.{Course}
use Rattle.sw_recon.specs.Inside.{revert_seen}
use Rattle.sw_recon.specs.Revert.{Begun, sent_for}
use Rattle.sw_recon.specs.Standing.{MayHand, RevertModel, Stands, ends, handed, has_ended}
use Rattle.sw_recon.specs.declared.status.Status.{Status}
use Rattle.sw_recon.specs.declared.status.Status.TheVariants.{Starts, Treats}
use Rattle.sw_recon.proofs.Changes.{by_fields, stands_handed}
use Rattle.sw_recon.proofs.Handings.{may_start, may_treat, primary_there, starts}
use Rattle.sw_recon.proofs.revert.RevertJob.hand_out.Goals as goal
use Rattle.sw_recon.proofs.revert.RevertJob.hand_out.Goals.{in-Treats, in_default-status}

abbrev job : goal.Joined-self-2 → RevertModel
job c = revert_seen c.self.inside

pub primary-primary-requires : goal.primary-primary-requires
primary-primary-requires c =
    let known = c.self.invariant in
    let there = primary_there (revert_seen c.self.inside) known.0 known.1 known.2 (ap (λ (job : RevertModel). job.is_waiting) c.self.view_is ∙ c.requires.0) (ap (λ (job : RevertModel). job.unread) c.self.view_is ∙ c.requires.1)
    c.in_ok-ticket.ticket c.in_ok-ticket.ensures.ticket c.in-Treats.course c.in-Treats.is in
    let index = ap (λ (course : Course). course.entry.index) c.course.view_is in
    record { part = omega (arith, there.0, c.part.ensures); index = omega (arith, there.1, index) }

-- what is handed out, and what becomes of the revert
record Cases (c : goal.Joined-self-2) : Type 0 where
  may : (begun : Begun) (past : List Step) → Stands (job c) begun past → MayHand begun past (record { ticket = c.in_ok-ticket.ticket; device = c.match-self-2.device.0; msg = c.match-self-2.device.1 })
  after : revert_seen c.match-self-2.self-inside ≡ record (job c) { status = handed c.self.inside.status; tickets = c.hand_out.new.self; is_waiting = true }
  goes : ends (handed c.self.inside.status) ≡ false

waits : (c : goal.Joined-self-2) → (job c).is_waiting ≡ false
waits c = ap (λ (job : RevertModel). job.is_waiting) c.self.view_is ∙ c.requires.0

unread : (c : goal.Joined-self-2) → (job c).unread ≡ None
unread c = ap (λ (job : RevertModel). job.unread) c.self.view_is ∙ c.requires.1

with_status : (c : goal.Joined-self-2) (a b : Status) → a ≡ b → record (job c) { status = a; tickets = c.hand_out.new.self; is_waiting = true } ≡ record (job c) { status = b; tickets = c.hand_out.new.self; is_waiting = true }
with_status c a b same = ap (λ (status : Status). record (job c) { status = status; tickets = c.hand_out.new.self; is_waiting = true }) same

cases : (c : goal.Joined-self-2) → Cases c
cases c = elim c.match-self-2.branch [
  | in-Treats w ↦
      let course = w.in-Treats.course in
      let same : c.match-self-2.device ≡ sent_for c.self.inside.place c.self.inside.device w.primary-primary.result course.entry course.treatment =
      w.device-is ∙ w.message.ensures.message in
      record {
        may = λ begun past stands.
            subst (λ (pair : ℕ × Msg). MayHand begun past (record { ticket = c.in_ok-ticket.ticket; device = pair.0; msg = pair.1 })) (sym same)
            (may_treat (job c) begun past stands (waits c) (unread c) c.in_ok-ticket.ticket c.in_ok-ticket.ensures.ticket course w.in-Treats.is w.primary-primary.result
            (w.primary-primary.ensures ∙ ap (λ part. slice_index (column_of c.self.inside.cluster.now part) w.course.inside.entry.index) w.part.ensures
            ∙ ap (λ (one : Course). slice_index (column_of c.self.inside.cluster.now c.self.inside.place.part) one.entry.index) w.course.view_is));
        after = ap revert_seen w.self-inside-is
            ∙ with_status c _ _ (ap (λ (one : Course). Treats one) w.message.ensures.handed ∙ ap handed (sym w.in-Treats.is));
        goes = ap (λ (status : Status). ends (handed status)) w.in-Treats.is;
      }
  | in_default-status w ↦
      let is : c.self.inside.status ≡ Starts = starts c.self.inside.status c.in_default.not-Ends w.in_default-status.not-Treats in
      record {
        may = λ begun past stands.
            subst (λ (pair : ℕ × Msg). MayHand begun past (record { ticket = c.in_ok-ticket.ticket; device = pair.0; msg = pair.1 })) (sym w.device-is)
            (may_start (job c) begun past stands (waits c) (unread c) c.in_ok-ticket.ticket c.in_ok-ticket.ensures.ticket is);
        after = ap revert_seen w.self-inside-is ∙ with_status c _ _ (is ∙ ap handed (sym is));
        goes = ap (λ (status : Status). ends (handed status)) is;
      }
]

abbrev sent : goal.Joined-self-2 → Sent
sent c = record { ticket = c.in_ok-ticket.ticket; device = c.match-self-2.device.0; msg = c.match-self-2.device.1 }

stood : (c : goal.Joined-self-2) (begun : Begun) (past : List Step) → Stands (job c) begun past → Stands (revert_seen c.match-self-2.self-inside) begun (Gave (sent c) ∷ past)
stood c begun past stands =
    let case = cases c in
    subst (λ (job : RevertModel). Stands job begun (Gave (sent c) ∷ past)) (sym case.after)
    (stands_handed (job c) begun past stands (waits c) (unread c) c.hand_out.new.self (sent c) (c.in_ok-ticket.ensures.goes_on past (sent c) stands.tickets_are refl) (case.may begun past stands).next)

pub invariant_of-self-2 : goal.invariant_of-self-2
invariant_of-self-2 c = let known = c.self.invariant in (known.0, Gave (sent c) ∷ known.1, stood c known.0 known.1 known.2)

pub returns : goal.returns
returns c =
    let case = cases c in
    record {
      hands = λ begun past stands. (case.may begun past (by_fields c.self.inside c.args.self.now begun past c.self.view_is stands), ap has_ended case.after ∙ case.goes);
      goes_on = λ begun past stands. stood c begun past (by_fields c.self.inside c.args.self.now begun past c.self.view_is stands);
      count =
          let after = ap (λ (job : RevertModel). length job.tickets) case.after in
          let before = ap (λ (job : RevertModel). length job.tickets) c.self.view_is in
          (omega (arith, after, before, c.in_ok-ticket.ensures.count), omega (arith, before, c.in_ok-ticket.ensures.ticket));
      going = tt;
      refused = tt;
    }
