-- What a device adds to its history for a message is maybe a mount, and behind that the reply; and how that is counted.
use Rattle.std.proofs.Common.{◌≡◌, inl, inr, ⊎_elim, Bool, true, false, List, ◌∷◌, refl, sym, subst}
use Rattle.sw_message.specs.declared.message.Msg.{Msg}
use Rattle.sw_message.specs.declared.reply.Reply.{Reply}
use Rattle.sw_message.specs.declared.reply.Reply.TheVariants.{DiskFault, NoMemory}
use Rattle.sw_view.specs.declared.event.Event.{Event}
use Rattle.sw_view.specs.declared.event.Event.TheVariants.{Mounted}
use Rattle.sw_cell.specs.Calling.{HasReplied, IsRepliedTo, replied_events}

module _ (tells : Bool) (msg : Msg) (reply : Reply) (past events : List Event) where
  behind_fault : reply ≡ DiskFault → events ≡ replied_events tells msg DiskFault past → IsRepliedTo tells msg reply past events
  behind_fault failed is = record { middle = past; mounted = inl refl; latest = subst (λ (one : Reply). events ≡ replied_events tells msg one past) (sym failed) is }

  behind_want : reply ≡ NoMemory → events ≡ past → IsRepliedTo tells msg reply past events
  behind_want wanted is = record { middle = past; mounted = inl refl; latest = subst (λ (one : Reply). events ≡ replied_events tells msg one past) (sym wanted) is }

  pub replied_so : (is_due : Bool) → HasReplied tells is_due msg reply past events → IsRepliedTo tells msg reply past events
  replied_so false is = record { middle = past; mounted = inl refl; latest = is }
  replied_so true is = ⊎_elim
      (λ mounted. record { middle = Mounted ∷ past; mounted = inr refl; latest = mounted })
      (λ not. ⊎_elim (λ failed. behind_fault failed.0 failed.1) (λ wanted. behind_want wanted.0 wanted.1) not)
      is
