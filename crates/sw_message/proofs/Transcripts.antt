-- Flags that say which messages of a transcript are open: whether some message is, and what an answer changes.
use Rattle.std.proofs.Common.{◌≡◌, ◌≢◌, inl, inr, ℕ, zero, suc, ◌<◌, Bool, true, false, true≢false, not, ◌||◌, cond, eqb, List, [], ◌∷◌, length, get_or, set, length-set, get_or-set_other, Option, Some, None, is_some, refl, sym, ap, subst, ◌∙◌}
use mathlib.Core.Bool.{beq}
use Rattle.std.specs.List.{filter, find, list_any}
use Rattle.std.proofs.lemmas.Bool.{cases_Bool, cases_eq, cond-false, cond-true, eq-eqb, eqb-true, ne_eqb}
use Rattle.std.proofs.lemmas.List.Elements.{All-filter}
use Rattle.std.proofs.lemmas.Map.Views.{any-filter_same}
use Rattle.sw_message.specs.Tickets.{AreTickets}
use Rattle.sw_message.specs.Transcript.{Step, after_answer, closed_by, given, is_empty, is_not, is_waiting, open_at, opens}
use Rattle.sw_message.specs.declared.reply.Reply.{Reply}
use Rattle.sw_message.specs.declared.sent.Sent.{Sent}

abbrev has_ticket : ℕ → Sent → Bool
has_ticket ticket sent = eqb sent.ticket ticket

-- ---- flags

abbrev pub some_up : List Bool → Bool
some_up flags = list_any (λ flag. beq flag true) flags

none_up : (flags : List Bool) → ((n : ℕ) → get_or flags n false ≡ false) → some_up flags ≡ false
none_up [] none = refl
none_up (true ∷ flags) none = absurd (true≢false (none zero))
none_up (false ∷ flags) none = none_up flags (λ n. none (suc n))

one_up : (flags : List Bool) (n : ℕ) → get_or flags n false ≡ true → some_up flags ≡ true
one_up [] n up = absurd (true≢false (sym up))
one_up (true ∷ flags) n up = refl
one_up (false ∷ flags) zero up = absurd (true≢false (sym up))
one_up (false ∷ flags) (suc n) up = one_up flags n up

put_down : (flags : List Bool) (n : ℕ) → get_or (set flags n false) n false ≡ false
put_down [] n = refl
put_down (flag ∷ flags) zero = refl
put_down (flag ∷ flags) (suc n) = put_down flags n

-- ---- the first that passes a test

found_if_any : (test : Sent → Bool) (sents : List Sent) → is_some (find test sents) ≡ list_any test sents
found_if_any test [] = refl
found_if_any test (sent ∷ sents) = here (test sent) (find test sents) (list_any test sents) (found_if_any test sents)
  where
    here : (b : Bool) (later : Option Sent) (any : Bool) → is_some later ≡ any → is_some (cond b (Some sent) later) ≡ (b || any)
    here true later any same = refl
    here false later any same = same

found_passes : (test : Sent → Bool) (sents : List Sent) (sent : Sent) → find test sents ≡ Some sent → test sent ≡ true
found_passes test [] sent found = absurd (cc)
found_passes test (first ∷ sents) sent found = elim (cases_Bool (test first)) [
  | inl passes ↦ let same : first ≡ sent = cc (cond-true (test first) (Some first) (find test sents) passes) in subst (λ s. test s ≡ true) same passes
  | inr fails ↦ found_passes test sents sent (sym (cond-false (test first) (Some first) (find test sents) fails) ∙ found)
]

-- ---- whether some message is open

up_if_open : (flags : List Bool) (sents : List Sent) → ((ticket : ℕ) → get_or flags ticket false ≡ is_some (find (has_ticket ticket) sents)) → some_up flags ≡ not (is_empty sents)
up_if_open flags [] same = none_up flags same
up_if_open flags (sent ∷ sents) same =
    one_up flags sent.ticket (same sent.ticket ∙ ap (λ b. is_some (cond b (Some sent) (find (has_ticket sent.ticket) sents))) (eq-eqb sent.ticket sent.ticket refl))

pub waiting : (flags : List Bool) (past : List Step) → AreTickets flags past → some_up flags ≡ is_waiting past
waiting flags past are = up_if_open flags (opens past) are.are_open

-- ---- an answer

still_open : (ticket other : ℕ) (sents : List Sent) → other ≢ ticket → is_some (find (has_ticket other) (filter (is_not ticket) sents)) ≡ is_some (find (has_ticket other) sents)
still_open ticket other sents apart =
    found_if_any (has_ticket other) (filter (is_not ticket) sents)
    ∙ any-filter_same (has_ticket other) (is_not ticket) true (λ sent has. ap not (ne_eqb sent.ticket ticket (λ same. apart (sym (eqb-true sent.ticket other has) ∙ same)))) sents
    ∙ sym (found_if_any (has_ticket other) sents)

no_longer_open : (ticket : ℕ) (sents : List Sent) → is_some (find (has_ticket ticket) (filter (is_not ticket) sents)) ≡ false
no_longer_open ticket sents =
    found_if_any (has_ticket ticket) (filter (is_not ticket) sents)
    ∙ any-filter_same (has_ticket ticket) (is_not ticket) false (λ sent has. ap not has) sents

module _ (flags : List Bool) (past : List Step) (ticket : ℕ) (answer : Option Reply) (are : AreTickets flags past) where
  -- the flags, once that of the ticket is down
  abbrev after : List Bool
  after = set flags ticket false

  -- of each ticket, by what is known of this one and of the others
  at_each : (opened : ℕ → Bool) → opened ticket ≡ false → ((other : ℕ) → other ≢ ticket → opened other ≡ is_some (open_at other past)) → (other : ℕ) → get_or after other false ≡ opened other
  at_each opened this others other = elim (cases_eq other ticket) [
    | inl same ↦ subst (λ n. get_or after n false ≡ opened n) (sym same) (put_down flags ticket ∙ sym this)
    | inr apart ↦ get_or-set_other flags ticket other false false apart ∙ are.are_open other ∙ sym (others other apart)
  ]

  answered : (opened : Option Sent) → open_at ticket past ≡ opened → AreTickets after (closed_by past answer opened)
  answered None none = record {
    count = length-set flags ticket false ∙ are.count;
    are_open = at_each (λ other. is_some (open_at other past)) (ap is_some none) (λ other apart. refl);
    below = are.below;
  }
  answered (Some sent) found =
      let is = eqb-true sent.ticket ticket (found_passes (has_ticket ticket) (opens past) sent found) in
      subst (λ n. AreTickets after (closed_by past answer (Some (record sent { ticket = n })))) (sym is) (record {
        count = length-set flags ticket false ∙ are.count;
        are_open = at_each (λ other. is_some (find (has_ticket other) (filter (is_not ticket) (opens past)))) (no_longer_open ticket (opens past)) (λ other apart. still_open ticket other (opens past) apart);
        below = All-filter (is_not ticket) (λ (other : Sent). other.ticket < length (given past)) (opens past) are.below;
      })

  pub closes : AreTickets after (after_answer past ticket answer)
  closes = answered (open_at ticket past) refl
