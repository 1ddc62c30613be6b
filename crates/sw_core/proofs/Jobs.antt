-- Syncs and reverts: what they hand out may be sent.
use Rattle.std.proofs.Common.{◌≡◌, ℕ, Bool, true, false, List, refl, sym, subst}
use Rattle.sw_message.specs.Learnt.{Learnt}
use Rattle.sw_message.specs.Transcript.{Hand, IsRun, Step, is_waiting}
use Rattle.sw_message.specs.declared.sent.Sent.{Sent}
use Rattle.sw_recon.specs.Revert as reverts
use Rattle.sw_recon.specs.Standing as revert_standing
use Rattle.sw_recon.specs.declared.status.Status.{Status}
use Rattle.sw_recon.specs.declared.status.Status.TheVariants.{Ends, Starts, Treats}
use Rattle.sw_recon.proofs.Handings.{own_handed, treats_handed}
use Rattle.sw_sync.specs.Sync as syncs
use Rattle.sw_sync.proofs.Machine as machine
use Rattle.sw_core.proofs.Warranting.{HandsWarranted}

-- ---- syncs

pub sync-hands : (begun : syncs.Begun) (learnt : Learnt) → syncs.IsBegun begun → HandsWarranted begun.cluster (syncs.IsNext begun) learnt
sync-hands begun learnt valid = λ past sent run known next.
    let hands = next.2.2 in (
      (machine.hands_of begun valid past next.0 next.2.1 sent run next.1 hands).place,
      machine.hands_warranted begun valid past next.0 next.2.1 sent learnt run next.1 hands known,
    )

-- ---- reverts

module _ (begun : reverts.Begun) (learnt : Learnt) (valid : reverts.IsBegun begun) (past : List Step) (sent : Sent) (run : IsRun (reverts.IsNext begun) past) where
  abbrev MaySend : Type 0
  MaySend = revert_standing.MayHand begun past sent

  by_status : (status : Status) → reverts.IsStatus begun past status → reverts.IsNext begun past (Hand sent) → (ticket : ℕ) → Hand sent ≡ reverts.next_at begun ticket status → MaySend
  by_status Starts is next ticket same =
      let one : sent ≡ reverts.own_message begun ticket = cc in
      subst (revert_standing.MayHand begun past) (sym one) (own_handed begun past valid run ticket (subst (λ (s : Sent). reverts.IsNext begun past (Hand s)) one next))
  by_status (Treats course) is next ticket same =
      let one : sent ≡ reverts.treat_message begun ticket course = cc in
      subst (revert_standing.MayHand begun past) (sym one) (treats_handed begun past valid run ticket course is (subst (λ (s : Sent). reverts.IsNext begun past (Hand s)) one next))
  by_status (Ends end) is next ticket same = absurd (cc)

  by_waiting : (waiting : Bool) → is_waiting past ≡ waiting → reverts.IsNext begun past (Hand sent) → reverts.next_or begun past waiting (Hand sent) → MaySend
  by_waiting true is next same = absurd (cc)
  by_waiting false is next found = by_status found.0 found.1 next _ found.2

  may_send : reverts.IsNext begun past (Hand sent) → MaySend
  may_send next = by_waiting (is_waiting past) refl next next

pub revert-hands : (begun : reverts.Begun) (learnt : Learnt) → reverts.IsBegun begun → HandsWarranted begun.cluster (reverts.IsNext begun) learnt
revert-hands begun learnt valid = λ past sent run known next. let may = may_send begun learnt valid past sent run next in (may.of.place, may.warranted learnt known)
