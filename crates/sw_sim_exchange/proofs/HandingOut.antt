-- An operation hands out messages as it goes on: the letters grow by them, and what remains to be done falls.
use Rattle.std.proofs.Common.{◌≡◌, ℕ, ◌+◌, ◌*◌, ◌≤◌, suc, Bool, List, [], ◌∷◌, ◌++◌, length, map, All, Some, slice_get, slice_set, sum_by, refl, sym, ap, subst, ◌∙◌, arith}
use Rattle.std.proofs.lemmas.List.{append-nil, append_assoc, length_push, map_push, set-set}
use Rattle.std.proofs.lemmas.List.Elements.{All-nil, All-push}
use Rattle.std.proofs.lemmas.List.Sums.{sum_by-append, sum_by-cons, sum_by-set}
use Rattle.std.proofs.lemmas.Option.{get_or_from_slice_get, slice_get_within}
use Rattle.sw_message.specs.Running.{IsOf}
use Rattle.sw_message.specs.Transcript.{Gave, Hand, Step}
use Rattle.sw_message.specs.declared.sent.Sent.{Sent}
use Rattle.sw_operation.specs.Operating.{Begun, IsNext, cluster_of}
use Rattle.sw_core.specs.World.{HandsOut, Rests}
use Rattle.sw_sim_exchange.specs.declared.lines.EndLine.{EndLine}
use Rattle.sw_sim_exchange.specs.Exchange.{EndsWith, ExchangeModel, Proceeded, slot_of}
use Rattle.sw_sim_exchange.specs.Kept.{IsAt, IsKeptAt}
use Rattle.sw_sim_exchange.specs.Letters.{letter_of}
use Rattle.sw_sim_exchange.specs.Work.{weight_of, work_in, work_of}
use Rattle.sw_sim_exchange.specs.declared.letter.Letter.{Letter}
use Rattle.sw_sim_exchange.specs.declared.operating.Operating.{Operating}

-- a message may go to its device
abbrev pub MayGo : Begun → Sent → Type 0
MayGo begun sent = IsOf (cluster_of begun) sent.device sent.msg

-- ---- what was handed out since a transcript

pub record HasHandedOut (number : ℕ) (begun : Begun) (past : List Step) (old new : Operating) (before after : List Letter) : Type 0 where
  pub sents : List Sent
  pub later : List Step
  pub handed : HandsOut begun sents past later
  pub each : All (MayGo begun) sents
  pub is_at : IsAt new begun later
  pub letters : after ≡ before ++ map (letter_of number) sents
  pub work : work_in new + 2 * length sents ≤ work_in old

-- nothing, at first
pub handed-none : (number : ℕ) (begun : Begun) (past : List Step) (kept : Operating) (letters : List Letter) → IsAt kept begun past → HasHandedOut number begun past kept kept letters letters
handed-none number begun past kept letters at = record {
  sents = [];
  later = past;
  handed = refl;
  each = All-nil (MayGo begun);
  is_at = at;
  letters = sym (append-nil letters);
  work = omega arith;
}

-- a machine hands out one message more
handed-more : (begun : Begun) (sents : List Sent) (past later : List Step) (sent : Sent) → HandsOut begun sents past later → IsNext begun later (Hand sent) → HandsOut begun (sents ++ sent ∷ []) past (Gave sent ∷ later)
handed-more begun [] past later sent same next = (subst (λ (steps : List Step). IsNext begun steps (Hand sent)) same next, ap (λ (steps : List Step). Gave sent ∷ steps) same)
handed-more begun (first ∷ sents) past later sent handed next = (handed.0, handed-more begun sents (Gave first ∷ past) later sent handed.1 next)

-- and so does an operation
pub handed-one : (number : ℕ) (begun : Begun) (past : List Step) (old new newer : Operating) (before after : List Letter) (sent : Sent) (so : HasHandedOut number begun past old new before after)
    → IsNext begun so.later (Hand sent) → MayGo begun sent → IsAt newer begun (Gave sent ∷ so.later) → work_in newer + 3 ≤ work_in new → HasHandedOut number begun past old newer before (after ++ letter_of number sent ∷ [])
handed-one number begun past old new newer before after sent so next may at less = record {
  sents = so.sents ++ sent ∷ [];
  later = Gave sent ∷ so.later;
  handed = handed-more begun so.sents past so.later sent so.handed next;
  each = All-push (MayGo begun) so.sents sent so.each may;
  is_at = at;
  letters = ap (λ (letters : List Letter). letters ++ letter_of number sent ∷ []) so.letters ∙ append_assoc before (map (letter_of number) so.sents) (letter_of number sent ∷ [])
      ∙ ap (λ (letters : List Letter). before ++ letters) (sym (map_push (letter_of number) so.sents sent));
  work = omega (arith, length_push so.sents sent, so.work, less);
}

-- ---- what remains to be done

-- two deliveries for each new letter
weights : (number : ℕ) (sents : List Sent) → sum_by weight_of (map (letter_of number) sents) ≡ 2 * length sents
weights number [] = refl
weights number (sent ∷ sents) = sum_by-cons weight_of (letter_of number sent) (map (letter_of number) sents) ∙ ap (λ (n : ℕ). 2 + n) (weights number sents) ∙ twice (length sents)
  where
    twice : (n : ℕ) → 2 + 2 * n ≡ 2 * suc n
    twice n = omega arith

module _ (old : ExchangeModel) (slot : ℕ) (was : Operating) (there : slice_get old.operations slot ≡ Some was) (kept : Operating) where
  -- what the operations have left, with another one at its slot
  work-changed : sum_by work_in (slice_set old.operations slot kept) + work_in was ≡ sum_by work_in old.operations + work_in kept
  work-changed =
      subst (λ (one : Operating). sum_by work_in (slice_set old.operations slot kept) + work_in one ≡ sum_by work_in old.operations + work_in kept) (get_or_from_slice_get old.operations slot was was there)
      (sum_by-set work_in old.operations slot kept was (slice_get_within old.operations slot was there))

  -- another operation at its slot, and letters of what it handed out
  pub work-falls : (number : ℕ) (sents : List Sent) (less : ℕ) → work_in kept + 2 * length sents + less ≤ work_in was
      → work_of (record { letters = old.letters ++ map (letter_of number) sents; operations = slice_set old.operations slot kept }) + less ≤ work_of old
  work-falls number sents less fits = falls _ _ _ _ _ _ _ _ (sum_by-append weight_of old.letters (map (letter_of number) sents)) (weights number sents) work-changed fits
    where
      falls : (letters operations grown more set was kept count : ℕ) → grown ≡ letters + more → more ≡ 2 * count → set + was ≡ operations + kept → kept + 2 * count + less ≤ was → grown + set + less ≤ letters + operations
      falls letters operations grown more set was kept count a b c d = omega arith

  -- another operation at its slot, which has one step less to go
  pub work-heard : suc (work_in kept) ≡ work_in was → suc (work_of (record { letters = old.letters; operations = slice_set old.operations slot kept })) ≡ work_of old
  work-heard fits = falls _ _ _ _ _ work-changed fits
    where
      falls : (letters operations set was kept : ℕ) → set + was ≡ operations + kept → suc kept ≡ was → suc (letters + set) ≡ letters + operations
      falls letters operations set was kept c d = omega arith

-- ---- an operation that is kept went on

-- with another operation of a number, and these letters
abbrev pub with_letters : ExchangeModel → (number : ℕ) → Operating → List Letter → ExchangeModel
with_letters old number kept letters = record { letters = letters; operations = slice_set old.operations (slot_of number) kept }

module _ (number : ℕ) (begun : Begun) (past : List Step) (old : ExchangeModel) where
  -- as far as it could, and is over or waits
  pub proceeded : (was now kept : Operating) (letters : List Letter) (ends mine : List EndLine) (is_over : Bool) → slice_get old.operations (slot_of number) ≡ Some was
      → (so : HasHandedOut number begun past was now old.letters letters) → Rests begun so.later is_over → IsKeptAt kept begun so.later is_over → work_in kept ≤ work_in now → EndsWith number begun so.later is_over mine
      → Proceeded number begun past old (record { letters = letters; operations = slice_set old.operations (slot_of number) kept }) ends (ends ++ mine)
      × (work_of (record { letters = letters; operations = slice_set old.operations (slot_of number) kept }) ≤ work_of old)
  proceeded was now kept letters ends mine is_over there so rests is_kept fewer told = (
    record {
      sents = so.sents;
      later = so.later;
      is_over = is_over;
      handed = so.handed;
      rests = rests;
      each = so.each;
      kept = kept;
      is_kept = is_kept;
      new_is = ap (with_letters old number kept) so.letters;
      mine = mine;
      ends = refl;
      told = told;
    },
    subst (λ (grown : List Letter). work_of (with_letters old number kept grown) ≤ work_of old) (sym so.letters) less,
  )
    where
      less : work_of (with_letters old number kept (old.letters ++ map (letter_of number) so.sents)) ≤ work_of old
      less = omega (arith, work-falls old (slot_of number) was there kept number so.sents 0 (omega (arith, so.work, fewer)))

  -- once it was told an answer
  pub heard-proceeded : (heard : Operating) (new : ExchangeModel) (before after : List EndLine) → Proceeded number begun past (record { letters = old.letters; operations = slice_set old.operations (slot_of number) heard }) new before after
      → Proceeded number begun past old new before after
  heard-proceeded heard new before after goes = record {
    sents = goes.sents;
    later = goes.later;
    is_over = goes.is_over;
    handed = goes.handed;
    rests = goes.rests;
    each = goes.each;
    kept = goes.kept;
    is_kept = goes.is_kept;
    new_is = goes.new_is
        ∙ ap (λ (operations : List Operating). record { letters = old.letters ++ map (letter_of number) goes.sents; operations = operations }) (set-set old.operations (slot_of number) heard goes.kept);
    mine = goes.mine;
    ends = goes.ends;
    told = goes.told;
  }
