-- The place of a delete and the devices that it goes to are of its cluster.
use Rattle.std.proofs.Common.{◌≡◌, inl, ℕ, List, take, length, Some, refl, subst}
use Rattle.std.specs.List.{All, slice_get}
use Rattle.std.proofs.lemmas.List.Elements.{All-append, All-get_or, All-take}
use Rattle.std.proofs.lemmas.Option.{get_or_from_slice_get, slice_get_within}
use Rattle.sw_message.specs.Learnt.{HasOwn, Learnt, OwnDelete}
use Rattle.sw_message.specs.Message.{IsMember}
use Rattle.sw_message.specs.Running.{IsOf}
use Rattle.sw_message.specs.Transcript.{Step}
use Rattle.sw_message.specs.Warrant.{IsWarranted}
use Rattle.sw_message.specs.declared.sent.Sent.{Sent}
use Rattle.sw_quorum.specs.Answers.{missed}
use Rattle.sw_quorum.proofs.Places.{handoffs_known, part_small, place_right}
use Rattle.sw_delete.specs.Delete.{Begun, IsBegun, deletes, due, handoffs, place_of, primaries}
use Rattle.sw_delete.proofs.Transcripts.{IsDelete}

module _ (begun : Begun) where
  due_known : (past : List Step) → IsBegun begun → All (IsMember begun.cluster) (due begun past)
  due_known past valid =
      All-append (IsMember begun.cluster) (primaries begun) (take (length (missed (deletes past))) (handoffs begun)) (valid.rules.known (place_of begun).part (part_small begun.cluster begun.name))
      (All-take (IsMember begun.cluster) (length (missed (deletes past))) (handoffs begun) (handoffs_known begun.cluster (place_of begun).part))

  member : (past : List Step) (number device : ℕ) → IsBegun begun → slice_get (due begun past) number ≡ Some device → IsMember begun.cluster device
  member past number device valid is =
      subst (IsMember begun.cluster) (get_or_from_slice_get (due begun past) number device device is)
      (All-get_or (IsMember begun.cluster) (due begun past) number device (slice_get_within (due begun past) number device is) (due_known past valid))

  pub is_of : (past : List Step) (sent : Sent) → IsBegun begun → IsDelete begun past sent → IsOf begun.cluster sent.device sent.msg
  is_of past sent valid is = rw is.is (record { member = member past sent.ticket is.about valid is.found; place = place_right begun.cluster begun.name })

  pub is_warranted : (past : List Step) (sent : Sent) (learnt : Learnt) → HasOwn (OwnDelete (record { stamp = begun.stamp; name = begun.name })) learnt → IsDelete begun past sent
      → IsWarranted begun.cluster learnt sent.msg
  is_warranted past sent learnt has is = rw is.is (inl (record { stamp = begun.stamp; name = begun.name }, has, refl, refl))
