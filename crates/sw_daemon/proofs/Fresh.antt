-- A stage that has handed out nothing hands out a message.
use Rattle.std.proofs.Common.{◌≡◌, ◌⊎◌, inl, inr, IsTrue, Bool, true, false, List, [], ◌∷◌, ℕ, map, refl, sym, ap, ◌∙◌, true≢false}
use Rattle.sw_ring.specs.Ring.{is_among}
use Rattle.sw_message.specs.Transcript.{Over, Wait, is_waiting}
use Rattle.sw_recon.specs.Revert as reverts
use Rattle.sw_sync.specs.State.{State}
use Rattle.sw_sync.specs.Sync as syncs
use Rattle.sw_sync.specs.declared.errand.Errand.TheVariants.{Ask}
use Rattle.sw_sync.specs.declared.stage.Stage.TheVariants.{Ends}
use Rattle.sw_sync.specs.declared.sync_end.SyncEnd.{SyncEnd}
use Rattle.sw_daemon.specs.Stage.{Answered, Asks, Begun, End, IsBegun, IsEnd, IsNext, Reverted, Reverts, Synced, Syncs}

-- some device is a primary
some-primary : (devices : List ℕ) (device : ℕ) → is_among devices device ≡ true → map Ask devices ≡ [] → ⊥
some-primary [] device is none = cc
some-primary (one ∷ devices) device is none = cc

module _ (begun : syncs.Begun) (state : State) (is : syncs.IsState begun [] state) where
  began : (devices : List ℕ) → syncs.handoffs begun ≡ devices → state ≡ syncs.settled begun false (record { stage = (syncs.beginning begun).stage; due = map Ask devices })
  began devices are = is ∙ ap (λ those. syncs.settled begun false (record { stage = (syncs.beginning begun).stage; due = map Ask those })) are

  sync-due : (devices : List ℕ) → syncs.handoffs begun ≡ devices → syncs.IsBegun begun → state.due ≡ [] → ⊥
  sync-due [] are valid none = some-primary (syncs.primaries begun) begun.device valid.primary (sym (ap (λ (one : State). one.due) (began [] are)) ∙ none)
  sync-due (device ∷ devices) are valid none = let some = sym (ap (λ (one : State). one.due) (began (device ∷ devices) are)) ∙ none in cc

  sync-unended : (devices : List ℕ) → syncs.handoffs begun ≡ devices → (end : SyncEnd) → state.stage ≡ Ends end → ⊥
  sync-unended [] are end ends = let on = sym (ap (λ (one : State). one.stage) (began [] are)) ∙ ends in cc
  sync-unended (device ∷ devices) are end ends = let on = sym (ap (λ (one : State). one.stage) (began (device ∷ devices) are)) ∙ ends in cc

pub fresh-goes : (begun : Begun) → IsBegun begun → IsNext begun [] Over → ⊥
fresh-goes (Asks begun) valid is = cc
fresh-goes (Syncs begun) valid (state, is, over) = sync-due begun state is (syncs.handoffs begun) refl valid over.0
fresh-goes (Reverts begun) valid (_, is, over) = let hand = over ∙ ap (reverts.next_at begun 0) is in cc

-- nor does it wait
pub fresh-hands : (begun : Begun) → IsBegun begun → (over : Bool) → (IsNext begun [] Over × (over ≡ true)) ⊎ (IsNext begun [] Wait × IsTrue (is_waiting []) × (over ≡ false)) → ⊥
fresh-hands begun valid over (inl ends) = fresh-goes begun valid ends.0
fresh-hands begun valid over (inr waits) = true≢false (sym waits.1)

-- nor has it ended
pub fresh-unended : (begun : Begun) (end : End) → IsEnd begun [] end → ⊥
fresh-unended (Asks begun) (Answered answer) is = is.1
fresh-unended (Syncs begun) (Synced end) (waits, state, is, ends) = sync-unended begun state is (syncs.handoffs begun) refl end ends
fresh-unended (Reverts begun) (Reverted end) is = let ends = is.1 in cc
fresh-unended begun end is = is
