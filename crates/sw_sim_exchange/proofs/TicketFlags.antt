-- Flags that say which tickets are open: a transcript has one list of them, and how many are up as a ticket is closed or handed out.
use Rattle.std.proofs.Common.{◌≡◌, ◌≢◌, inl, inr, ℕ, zero, suc, ◌+◌, ◌<◌, Bool, true, false, not, ◌||◌, cond, List, [], ◌∷◌, ◌++◌, length, get_or, get_or-set_other, set, length-set, Option, Some, is_some, refl, sym, ap, subst, ◌∙◌, arith}
use Rattle.std.specs.List.{count_by, filter, find, list_any}
use Rattle.std.proofs.lemmas.Bool.{cases_eq, eq-eqb, eqb-true, ne_eqb}
use Rattle.std.proofs.lemmas.List.{ext_get_or, get_or-set_same, get_or_append_left, get_or_push, length_push}
use Rattle.std.proofs.lemmas.Map.Views.{any-filter_same}
use Rattle.std.proofs.lemmas.List.Sums.{sum_by-set, sum_by_push}
use Rattle.sw_message.specs.Tickets.{AreTickets}
use Rattle.sw_message.specs.Transcript.{Gave, Step, after_answer, given, is_not, open_at, opens}
use Rattle.sw_message.specs.declared.reply.Reply.{Reply}
use Rattle.sw_message.specs.declared.sent.Sent.{Sent}
use Rattle.sw_quorum.proofs.Transcripts.{found, none_at, some_at, told-ignored, told-open}
use Rattle.sw_quorum.specs.Transcripts.{has_ticket}

-- how many are up
abbrev pub up : List Bool → ℕ
up flags = count_by (λ (is_open : Bool). is_open) flags

-- how much a flag counts
abbrev one_if : Bool → ℕ
one_if is_open = cond is_open 1 0

-- a transcript has one list of flags
pub same_flags : (flags others : List Bool) (past : List Step) → AreTickets flags past → AreTickets others past → flags ≡ others
same_flags flags others past are also = ext_get_or false flags others (are.count ∙ sym also.count) (λ ticket within. are.are_open ticket ∙ sym (also.are_open ticket))

-- ---- a ticket is closed

-- a flag that is up is one of the list
below_length : (flags : List Bool) (ticket : ℕ) → get_or flags ticket false ≡ true → ticket < length flags
below_length [] ticket is = absurd (cc)
below_length (flag ∷ flags) zero is = omega arith
below_length (flag ∷ flags) (suc ticket) is = omega (arith, below_length flags ticket is)

-- a message is found where some message passes
found_if_any : (test : Sent → Bool) (sents : List Sent) → is_some (find test sents) ≡ list_any test sents
found_if_any test [] = refl
found_if_any test (sent ∷ sents) = here (test sent) (find test sents) (list_any test sents) (found_if_any test sents)
  where
    here : (b : Bool) (later : Option Sent) (any : Bool) → is_some later ≡ any → is_some (cond b (Some sent) later) ≡ (b || any)
    here true later any same = refl
    here false later any same = same

-- other tickets stay open, or not
still_open : (ticket other : ℕ) (sents : List Sent) → other ≢ ticket → is_some (find (has_ticket other) (filter (is_not ticket) sents)) ≡ is_some (find (has_ticket other) sents)
still_open ticket other sents apart =
    found_if_any (has_ticket other) (filter (is_not ticket) sents)
    ∙ any-filter_same (has_ticket other) (is_not ticket) true (λ sent has. ap not (ne_eqb sent.ticket ticket (λ same. apart (sym (eqb-true sent.ticket other has) ∙ same)))) sents
    ∙ sym (found_if_any (has_ticket other) sents)

-- and this one is not
no_longer_open : (ticket : ℕ) (sents : List Sent) → is_some (find (has_ticket ticket) (filter (is_not ticket) sents)) ≡ false
no_longer_open ticket sents = found_if_any (has_ticket ticket) (filter (is_not ticket) sents) ∙ any-filter_same (has_ticket ticket) (is_not ticket) false (λ sent has. ap not has) sents

module _ (flags others : List Bool) (past : List Step) (ticket : ℕ) (answer : Option Reply) (are : AreTickets flags past) (also : AreTickets others (after_answer past ticket answer)) where
  -- its flag is taken down, and the others stay
  closed-flags : (sent : Sent) → open_at ticket past ≡ Some sent → others ≡ set flags ticket false
  closed-flags sent is = ext_get_or false others (set flags ticket false) same-length at
    where
      own : sent.ticket ≡ ticket
      own = (found (λ (one : Sent). Unit {0}) ticket (opens past) sent is (λ i d within. tt)).1

      -- what remains open
      left : (other : ℕ) → get_or others other false ≡ is_some (find (has_ticket other) (filter (is_not ticket) (opens past)))
      left other = also.are_open other ∙ ap (λ (steps : List Step). is_some (open_at other steps)) (told-open past ticket answer sent is)
          ∙ ap (λ (n : ℕ). is_some (find (has_ticket other) (filter (is_not n) (opens past)))) own

      same-length : length others ≡ length (set flags ticket false)
      same-length = also.count ∙ ap (λ (steps : List Step). length (given steps)) (told-open past ticket answer sent is) ∙ sym are.count ∙ sym (length-set flags ticket false)

      at : (other : ℕ) → other < length others → get_or others other false ≡ get_or (set flags ticket false) other false
      at other within = elim (cases_eq other ticket) [
        | inl same ↦ left other ∙ subst (λ (n : ℕ). is_some (find (has_ticket n) (filter (is_not ticket) (opens past))) ≡ get_or (set flags ticket false) n false) (sym same)
            (no_longer_open ticket (opens past) ∙ sym (get_or-set_same flags ticket false false (below_length flags ticket (are.are_open ticket ∙ ap is_some is))))
        | inr apart ↦ left other ∙ still_open ticket other (opens past) apart ∙ sym (are.are_open other) ∙ sym (get_or-set_other flags ticket other false false apart)
      ]

  -- so there is one less
  pub up-closed : is_some (open_at ticket past) ≡ true → suc (up others) ≡ up flags
  up-closed is =
      let was = some_at (open_at ticket past) is in
      let raised = are.are_open ticket ∙ is in
      omega (arith, ap up (closed-flags was.0 was.1), sum_by-set one_if flags ticket false false (below_length flags ticket raised), ap one_if raised)

  -- an answer to one that is not open is ignored
  pub same-closed : is_some (open_at ticket past) ≡ false → others ≡ flags
  same-closed none = same_flags others flags past (subst (AreTickets others) (told-ignored past ticket answer (none_at (open_at ticket past) none)) also) are

-- ---- a ticket is handed out

module _ (flags others : List Bool) (past : List Step) (sent : Sent) (number : sent.ticket ≡ length flags) (longer : length others ≡ length flags + 1) (are : AreTickets flags past) (also : AreTickets others (Gave sent ∷ past)) where
  -- a flag is added, which is up
  pub pushed : others ≡ flags ++ true ∷ []
  pushed = ext_get_or false others (flags ++ true ∷ []) (longer ∙ sym (length_push flags true)) (λ ticket within. elim (cases_eq ticket (length flags)) [
    | inl same ↦ also.are_open ticket ∙ ap (λ b. is_some (cond b (Some sent) (open_at ticket past))) (eq-eqb sent.ticket ticket (number ∙ sym same)) ∙ sym (get_or_push flags true false ticket (sym same))
    | inr apart ↦ also.are_open ticket ∙ ap (λ b. is_some (cond b (Some sent) (open_at ticket past))) (ne_eqb sent.ticket ticket (λ is. apart (sym is ∙ number))) ∙ sym (are.are_open ticket)
        ∙ sym (get_or_append_left flags (true ∷ []) false ticket (omega (arith, within, longer)))
  ])

  -- so there is one more
  pub up-handed : up others ≡ up flags + 1
  up-handed = ap up pushed ∙ sum_by_push one_if flags true
