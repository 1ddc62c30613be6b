-- An operation that waits has open messages.
use Rattle.std.proofs.Common.{◌≡◌, inl, inr, ℕ, ◌<◌, Bool, true, false, true≢false, not, if◌then◌else◌, nat_lt, List, [], ◌∷◌, length, slice_get, Option, Some, None, refl, sym, arith}
use Rattle.std.proofs.lemmas.Bool.{ltb-true}
use Rattle.sw_message.specs.Transcript.{IsRun, Over, Step, Wait, given, is_empty, is_waiting, opens}
use Rattle.sw_message.specs.declared.sent.Sent.{Sent}
use Rattle.sw_quorum.specs.Dues.{due_or, due_next}
use Rattle.sw_quorum.proofs.Transcripts.{numbered}
use Rattle.sw_quorum.specs.Transcripts.{AreNumbered, closed_count}
use Rattle.sw_delete.specs.Delete as deletes
use Rattle.sw_get.specs.Get as gets
use Rattle.sw_get.specs.Round.{all_devices}
use Rattle.sw_get.specs.declared.round_end.Going.{Going}
use Rattle.sw_get.specs.declared.round_end.Going.TheVariants as going
use Rattle.sw_get.proofs.Counts as counts
use Rattle.sw_get.proofs.Runs as runs
use Rattle.sw_put.specs.Put as puts
use Rattle.sw_recon.specs.Revert as reverts
use Rattle.sw_recon.specs.declared.status.Status.{Status}
use Rattle.sw_recon.specs.declared.status.Status.TheVariants.{Ends, Starts, Treats}
use Rattle.sw_sync.specs.Sync as syncs
use Rattle.sw_operation.specs.Operating.{Begun, Delete, Get, Head, IsBegun, IsNext, Put, Revert, Sync}
use Rattle.sw_core.proofs.Machines.{numbers}
use Rattle.sw_sim_world.proofs.Slots.{past-end}

-- where a message is waited for, some are open
some-open : (sents : List Sent) → not (is_empty sents) ≡ true → 0 < length sents
some-open [] waiting = absurd (true≢false (sym waiting))
some-open (sent ∷ sents) waiting = omega arith

-- ---- machines that hand out what is due

module _ {D : Type 0} (message : ℕ → D → Sent) (due : List D) (past : List Step) (are : AreNumbered past) where
  -- where fewer were told than are due, and all were handed out, some are open
  by_less : (b : Bool) → nat_lt (closed_count past) (length due) ≡ b → (if b then Wait else Over) ≡ Wait → slice_get due (length (given past)) ≡ None → 0 < length (opens past)
  by_less true less is none = omega (arith, ltb-true (closed_count past) (length due) less, past-end due (length (given past)) none, are.count)
  by_less false more is none = absurd (cc)

  -- by whether one is due yet
  by_found : (found : Option D) → slice_get due (length (given past)) ≡ found → due_or message (length due) past found ≡ Wait → 0 < length (opens past)
  by_found (Some one) found is = absurd (cc)
  by_found None none is = by_less (nat_lt (closed_count past) (length due)) refl is none

  -- so it is where it waits
  due-waits : due_next message due past ≡ Wait → 0 < length (opens past)
  due-waits is = by_found (slice_get due (length (given past))) refl is

-- ---- a get

module _ (begun : gets.Begun) (valid : gets.IsBegun begun) (past : List Step) (run : IsRun (gets.IsNext begun) past) where
  module _ (turns : List gets.Turn) (are : gets.AreTurns begun past turns) where
    -- it does not wait as it asks the first
    asks-first : (device : Option ℕ) → gets.ask_first begun (gets.sends turns) device ≡ Wait → ⊥
    asks-first None is = absurd (cc)
    asks-first (Some device) is = absurd (cc)

    -- nor as it begins anew
    keeps-on : (b : Bool) → (if b then gets.ask_first begun (gets.sends turns) (slice_get (all_devices (gets.devices begun)) 0) else Over) ≡ Wait → ⊥
    keeps-on true is = asks-first (slice_get (all_devices (gets.devices begun)) 0) is
    keeps-on false is = absurd (cc)

    -- by how it goes on
    by_going : (goes : Going) → gets.going_in begun turns ≡ goes → gets.next_after begun turns goes ≡ Wait → 0 < length (opens past)
    by_going (going.Ask device) same is = absurd (cc)
    by_going (going.Fetch stamp source) same is = absurd (cc)
    by_going going.Wait same is =
        let keeps = runs.all_kept begun valid past run turns are in
        let facts = gets.facts_in begun turns in
        let missing = counts.opens_are facts (opens past) keeps.counted in
        let few = counts.within facts (opens past) [] keeps.counted in
        elim (runs.says begun valid past turns keeps going.Wait same) [
          | inl asked ↦ omega (arith, missing, asked, few.1)
          | inr fetched ↦ omega (arith, missing, fetched, few.0)
        ]
    by_going (going.End ending) same is = absurd (cc)
    by_going (going.Keep event) same is = absurd (keeps-on (nat_lt (length (gets.events begun turns)) gets.most_kept) is)

  -- where it waits, some are open
  get-waits : gets.IsNext begun past Wait → 0 < length (opens past)
  get-waits (turns, are, is) = by_going turns are (gets.going_in begun turns) refl is

-- ---- a sync and a revert

-- a sync that waits has some
by_waiting : (past : List Step) (b : Bool) → is_waiting past ≡ b → Wait ≡ syncs.next_of b → 0 < length (opens past)
by_waiting past true waiting is = some-open (opens past) waiting
by_waiting past false none is = absurd (cc)

-- a revert does not wait as it treats what it learnt
treats : (begun : reverts.Begun) (ticket : ℕ) (status : Status) → Wait ≡ reverts.next_at begun ticket status → ⊥
treats begun ticket Starts is = absurd (cc)
treats begun ticket (Treats course) is = absurd (cc)
treats begun ticket (Ends end) is = absurd (cc)

-- so one that waits has some
revert-waits : (begun : reverts.Begun) (past : List Step) (b : Bool) → is_waiting past ≡ b → reverts.next_or begun past b Wait → 0 < length (opens past)
revert-waits begun past true waiting is = some-open (opens past) waiting
revert-waits begun past false none (status, is, same) = absurd (treats begun (length (given past)) status same)

-- ---- any

-- an operation of any kind that waits has open messages
pub waits : (begun : Begun) → IsBegun begun → (past : List Step) → IsRun (IsNext begun) past → IsNext begun past Wait → 0 < length (opens past)
waits (Put begun) valid past run next = due-waits (puts.put_message begun) (puts.due begun past) past (numbered (IsNext (Put begun)) (numbers (Put begun)) past run) next
waits (Get begun) valid past run next = get-waits begun valid past run next
waits (Head begun) valid past run next = get-waits begun valid past run next
waits (Delete begun) valid past run next = due-waits (deletes.delete_message begun) (deletes.due begun past) past (numbered (IsNext (Delete begun)) (numbers (Delete begun)) past run) next
waits (Sync begun) valid past run next = by_waiting past (is_waiting past) refl next.2.1
waits (Revert begun) valid past run next = revert-waits begun past (is_waiting past) refl next
