-- An operation that has handed out nothing goes on.
use Rattle.std.proofs.Common.{◌≡◌, ℕ, ◌<◌, Bool, true, false, not, ◌&&◌, if◌then◌else◌, List, [], ◌∷◌, length, map, nat_lt, Option, Some, None, is_some, refl, sym, ap, ◌∙◌, arith}
use Rattle.std.specs.List.{slice_get}
use Rattle.std.proofs.lemmas.List.{length-append, length-map}
use Rattle.sw_types.proofs.Policies.{bounds}
use Rattle.sw_ring.specs.Cluster.{ClusterModel, KeepsRules, column_of}
use Rattle.sw_ring.proofs.Roles.{column_length}
use Rattle.sw_message.specs.Transcript.{Over, Step}
use Rattle.sw_quorum.proofs.DueLaws.{over}
use Rattle.sw_quorum.proofs.Lookups.{slice_get_none}
use Rattle.sw_delete.specs.Delete as deletes
use Rattle.sw_delete.proofs.Transcripts as delete_transcripts
use Rattle.sw_delete.specs.declared.end.DeleteEnd.{DeleteEnd}
use Rattle.sw_get.specs.Get as gets
use Rattle.sw_get.specs.Round.{all_devices, ask_or}
use Rattle.sw_get.specs.declared.round_end.Going.TheVariants.{Ask, Wait}
use Rattle.sw_get.proofs.Endings.{over_ended}
use Rattle.sw_put.specs.Put as puts
use Rattle.sw_put.specs.declared.end.PutEnd.{PutEnd}
use Rattle.sw_put.proofs.Dues.{length-stores_due}
use Rattle.sw_put.proofs.Transcripts as put_transcripts
use Rattle.sw_recon.specs.Revert as reverts
use Rattle.sw_recon.proofs.Changes as revert_changes
use Rattle.sw_sync.specs.Sync as syncs
use Rattle.sw_sync.specs.State.{State}
use Rattle.sw_sync.specs.declared.errand.Errand.TheVariants as errand
use Rattle.sw_sync.proofs.Changes as sync_changes
use Rattle.sw_operation.specs.Operating.{Begun, Delete, Get, Head, IsBegun, IsNext, Put, Revert, Sync}
use Rattle.sw_operation.specs.Standing.{Stands, has_ended}
use Rattle.sw_operation.specs.declared.any_op.AnyOp.{AnyOp}
use Rattle.sw_operation.specs.declared.any_op.AnyOp.TheVariants as any

-- ---- no machine is over at its beginning

-- each partition has a primary
some-primary : (cluster : ClusterModel) (part : ℕ) → KeepsRules cluster → 0 < length (column_of cluster part)
some-primary cluster part rules = omega (arith, column_length cluster part rules, (bounds cluster.policy rules.policy).some_data)

put-goes : (begun : puts.Begun) → puts.IsBegun begun → puts.IsNext begun [] Over → ⊥
put-goes begun valid is =
    let none = (over (puts.put_message begun) (puts.due begun []) [] is).0 in
    omega (arith, none, put_transcripts.length-due begun [], length-stores_due begun (puts.stores []), some-primary begun.cluster (puts.place_of begun).part valid.rules)

delete-goes : (begun : deletes.Begun) → deletes.IsBegun begun → deletes.IsNext begun [] Over → ⊥
delete-goes begun valid is =
    let none = (over (deletes.delete_message begun) (deletes.due begun []) [] is).0 in
    omega (arith, none, length-append {A = ℕ}, some-primary begun.cluster (deletes.place_of begun).part valid.rules)

module _ (begun : gets.Begun) (valid : gets.IsBegun begun) where
  asks : (device : ℕ) (b : Bool) → gets.next_after begun [] (if not b && b then Wait else Ask device) ≡ Over → ⊥
  asks device true is = cc
  asks device false is = cc

  get-asks : (first : Option ℕ) → slice_get (all_devices (gets.devices begun)) 0 ≡ first
      → gets.next_after begun [] (ask_or begun.cluster.policy (gets.devices begun) (gets.from_in begun []) (gets.facts_in begun []) first) ≡ Over → ⊥
  get-asks None none is =
      omega (arith, slice_get_none (all_devices (gets.devices begun)) 0 none, length-append (gets.devices begun).handoffs (gets.devices begun).primaries, some-primary begun.cluster (gets.place_of begun).part valid.rules)
  get-asks (Some device) some is = asks device (nat_lt 0 (length (gets.devices begun).handoffs)) is

  get-goes : gets.IsNext begun [] Over → ⊥
  get-goes ([], are, is) = get-asks (slice_get (all_devices (gets.devices begun)) 0) refl is
  get-goes (turn ∷ turns, are, is) = absurd are

sync-due : (begun : syncs.Begun) → 0 < length (syncs.primaries begun) → (devices : List ℕ) → (syncs.settled begun false (record { stage = (syncs.beginning begun).stage; due = map errand.Ask devices })).due ≡ [] → ⊥
sync-due begun some [] none = omega (arith, some, ap length none, length-map (syncs.primaries begun) errand.Ask)
sync-due begun some (device ∷ devices) none = cc

sync-goes : (begun : syncs.Begun) → syncs.IsBegun begun → syncs.IsNext begun [] Over → ⊥
sync-goes begun valid (state, is, next) = sync-due begun (some-primary begun.cluster begun.place.part valid.rules) (syncs.handoffs begun) (ap (λ (one : State). one.due) (sym is) ∙ next.0)

revert-goes : (begun : reverts.Begun) → reverts.IsNext begun [] Over → ⊥
revert-goes begun (_, is, next) = let hand = next ∙ ap (reverts.next_at begun 0) is in cc

goes : (begun : Begun) → IsBegun begun → IsNext begun [] Over → ⊥
goes (Put begun) valid is = put-goes begun valid is
goes (Get begun) valid is = get-goes begun valid is
goes (Head begun) valid is = get-goes begun valid is
goes (Delete begun) valid is = delete-goes begun valid is
goes (Sync begun) valid is = sync-goes begun valid is
goes (Revert begun) valid is = revert-goes begun is

-- ---- one that has ended is over

put-over : (begun : puts.Begun) (past : List Step) (found : Option PutEnd) → ((end : PutEnd) → found ≡ Some end → puts.put_end begun past ≡ Some end) → is_some found ≡ true → puts.IsNext begun past Over
put-over begun past None is some = absurd (cc)
put-over begun past (Some end) is some = put_transcripts.ended begun past end (is end refl)

delete-over : (begun : deletes.Begun) (past : List Step) (found : Option DeleteEnd) → ((end : DeleteEnd) → found ≡ Some end → deletes.delete_end begun past ≡ Some end) → is_some found ≡ true
    → deletes.IsNext begun past Over
delete-over begun past None is some = absurd (cc)
delete-over begun past (Some end) is some = delete_transcripts.ended begun past end (is end refl)

is-over : (op : AnyOp) (begun : Begun) (past : List Step) → Stands op begun past → has_ended op ≡ true → IsBegun begun × IsNext begun past Over
is-over (any.Put op) (Put begun) past stands ended = (stands.valid, put-over begun past op.end stands.end_is ended)
is-over (any.Get op) (Get begun) past stands ended = (stands.valid, over_ended op begun past stands ended)
is-over (any.Head op) (Head begun) past stands ended = (stands.valid, over_ended op begun past stands ended)
is-over (any.Delete op) (Delete begun) past stands ended = (stands.valid, delete-over begun past op.end stands.end_is ended)
is-over (any.Sync job) (Sync begun) past stands ended = (stands.valid, sync_changes.is_over job begun past stands ended)
is-over (any.Revert job) (Revert begun) past stands ended = (stands.valid, revert_changes.is_over job begun past stands ended)
is-over op begun past stands ended = absurd stands

-- ---- so it has not ended

pub fresh : (op : AnyOp) (begun : Begun) → Stands op begun [] → has_ended op ≡ false
fresh op begun stands = not-ended (has_ended op) refl
  where
    not-ended : (ended : Bool) → has_ended op ≡ ended → ended ≡ false
    not-ended true is = let over = is-over op begun [] stands is in absurd (goes begun over.0 over.1)
    not-ended false is = refl
