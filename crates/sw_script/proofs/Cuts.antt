-- Cuts at the first byte of a kind, by its place.
use Rattle.std.proofs.Common.{◌≡◌, ℕ, ◌+◌, ◌-◌, ◌<◌, Bool, true, false, List, ◌∷◌, length, take, drop, Some, None, sym, ◌∙◌, ap, subst, arith, ⊎_elim}
use Rattle.std.specs.List.{slice_split, position_or_len}
use Rattle.std.proofs.lemmas.Bool.{cases_Bool}
use Rattle.std.proofs.Math.ListN.{drop_of_length-le}
use Rattle.std.proofs.Math.Seq.{take-length}
use Rattle.std.proofs.lemmas.List.{take_rest, get_or_default}
use Rattle.std.proofs.lemmas.List.Splits.{slice_split_first, slice_split_none}
use Rattle.std.proofs.lemmas.List.Sums.{position_or_len_is}
use Rattle.memchr.specs.Find.{Passes, Nowhere, NoneBefore}
use Rattle.sw_script.specs.Cut.{IsCut}

-- a test that doesn't pass fails
fails : (b : Bool) → ¬ (b ≡ true) → b ≡ false
fails b never = ⊎_elim (λ yes. absurd (never yes)) (λ fails. fails) (cases_Bool b)

-- the first byte of the kind stands at a place
pub first_place : (is_end : ℕ → Bool) (text : List ℕ) (place : ℕ) → NoneBefore (Passes is_end text) 0 (length text) place → Passes is_end text place → position_or_len is_end text ≡ place
first_place is_end text place found here =
    position_or_len_is is_end text place 0 (omega (arith, found.high)) (λ k before. fails _ (found.before k (omega arith) before)) (λ within. here)

-- no byte is of the kind
pub no_place : (is_end : ℕ → Bool) (text : List ℕ) → Nowhere (Passes is_end text) 0 (length text) → position_or_len is_end text ≡ length text
no_place is_end text nowhere =
    position_or_len_is is_end text (length text) 0 (omega arith) (λ k within. fails _ (nowhere k (omega arith) within)) (λ past. absurd (omega arith))

-- a cut behind which there may be more
pub cut_at_place : (is_end : ℕ → Bool) (text : List ℕ) (place : ℕ) → NoneBefore (Passes is_end text) 0 (length text) place → Passes is_end text place → IsCut is_end text (take place text) (Some (take (length text - (place + 1)) (drop (place + 1) text)))
cut_at_place is_end text place found here =
    let at : position_or_len is_end text ≡ place = first_place is_end text place found here in
    let high : place < length text = found.high in
    let within : position_or_len is_end text < length text = omega arith in
    rw (take_rest text (place + 1)) record {
      front = ap (λ n. take n text) (sym at);
      back = ap (λ n. drop (n + 1) text) (sym at);
      parts = slice_split_first is_end text 0 within ∙ ap (λ n. take n text ∷ slice_split is_end (drop (n + 1) text)) at;
    }

-- no cut
pub cut_nowhere : (is_end : ℕ → Bool) (text : List ℕ) → Nowhere (Passes is_end text) 0 (length text) → IsCut is_end text text None
cut_nowhere is_end text nowhere =
    let at : position_or_len is_end text ≡ length text = no_place is_end text nowhere in
    record {
      front = sym (ap (λ n. take n text) at ∙ take-length text);
      back = sym (ap (λ n. drop (n + 1) text) at ∙ drop_of_length-le text {i = length text + 1} (omega arith));
      parts = slice_split_none is_end text (λ k d within. fails _ (λ yes. nowhere k (omega arith) within (subst (λ (byte : ℕ). is_end byte ≡ true) (get_or_default text k d 0 within) yes)));
    }
