-- A put and a delete come to rest from every transcript: what is due is handed out, in its order.
use Rattle.std.proofs.Common.{◌≡◌, inl, inr, ℕ, zero, suc, ◌+◌, ◌≤◌, Bool, true, false, List, ◌∷◌, length, nat_lt, Option, Some, None, refl, ap, ◌∙◌, arith}
use Rattle.std.specs.Prelude.{if◌then◌else◌, slice_get}
use Rattle.std.proofs.lemmas.Option.{slice_get_within}
use Rattle.sw_message.specs.Transcript.{Gave, Hand, Next, Over, Step, Wait, given}
use Rattle.sw_message.specs.declared.sent.Sent.{Sent}
use Rattle.sw_quorum.proofs.DueLaws as laws
use Rattle.sw_quorum.specs.Dues.{due_next, due_or}
use Rattle.sw_quorum.specs.Transcripts.{closed_count}
use Rattle.sw_delete.specs.Delete as deletes
use Rattle.sw_put.specs.Put as puts
use Rattle.sw_operation.specs.Operating.{Begun, Delete, IsNext, Put}
use Rattle.sw_core.specs.World.{Rests}
use Rattle.sw_law_going.proofs.Rests.{ComesToRest, StopsOrGoes, comes_to_rest}

-- of a machine that hands out what is due, which a message that is handed out does not change
module _ {D : Type 0} (begun : Begun) (message : ℕ → D → Sent) (due : List Step → List D) (same : (past : List Step) (sent : Sent) → due (Gave sent ∷ past) ≡ due past)
    (is_next : (past : List Step) (next : Next) → due_next message (due past) past ≡ next → IsNext begun past next) where
  -- so many are left at most
  abbrev Fits : ℕ → List Step → Type 0
  Fits left past = length (due past) ≤ left + length (given past)

  rests_by : (past : List Step) → slice_get (due past) (length (given past)) ≡ None → (waits : Bool) → nat_lt (closed_count past) (length (due past)) ≡ waits → (is_over : Bool) × Rests begun past is_over
  rests_by past none true waits = (false, is_next past Wait (ap (due_or message (length (due past)) past) none ∙ ap (λ (b : Bool). if b then Wait else Over) waits))
  rests_by past none false waits = (true, is_next past Over (ap (due_or message (length (due past)) past) none ∙ ap (λ (b : Bool). if b then Wait else Over) waits))

  hands_by : (left : ℕ) (past : List Step) → Fits left past → (about : D) → slice_get (due past) (length (given past)) ≡ Some about → StopsOrGoes begun Fits left past
  hands_by zero past fits about is = absurd (omega (arith, fits, slice_get_within (due past) (length (given past)) about is))
  hands_by (suc left) past fits about is =
      let sent = message (length (given past)) about in
      inr (sent, is_next past (Hand sent) (laws.hands message (due past) past about is), left, omega arith, omega (arith, fits, ap length (same past sent)))

  goes_by : (left : ℕ) (past : List Step) → Fits left past → (next : Option D) → slice_get (due past) (length (given past)) ≡ next → StopsOrGoes begun Fits left past
  goes_by left past fits None none = inl (rests_by past none (nat_lt (closed_count past) (length (due past))) refl)
  goes_by left past fits (Some about) is = hands_by left past fits about is

  due_rests : (past : List Step) → ComesToRest begun past
  due_rests past = comes_to_rest begun Fits (λ left more fits. goes_by left more fits (slice_get (due more) (length (given more))) refl) (length (due past)) past (omega arith)

pub put_rests : (begun : puts.Begun) (past : List Step) → ComesToRest (Put begun) past
put_rests begun = due_rests (Put begun) (puts.put_message begun) (puts.due begun) (λ past sent. refl) (λ past next is. is)

pub delete_rests : (begun : deletes.Begun) (past : List Step) → ComesToRest (Delete begun) past
delete_rests begun = due_rests (Delete begun) (deletes.delete_message begun) (deletes.due begun) (λ past sent. refl) (λ past next is. is)
