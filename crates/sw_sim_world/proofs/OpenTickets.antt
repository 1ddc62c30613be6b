-- The open tickets of a transcript, ascending, are those of the numbers below the count of its messages at which one is open.
use Rattle.std.proofs.Common.{◌≡◌, ℕ, zero, suc, ◌<◌, ◌==◌, ◌&&◌, Bool, true, false, true≢false, not, cond, if◌then◌else◌, List, [], ◌∷◌, ◌++◌, filter, length, map, reverse, is_some, refl, sym, ap, ◌∙◌, append-nil, arith}
use mathlib.Core.List.{reverse-cons}
use Rattle.std.proofs.lemmas.Bool.{and_right, cond-false, cond-true, eq-eqb, eqb-true}
use Rattle.std.proofs.lemmas.List.Elements.{filter-append}
use Rattle.sw_message.specs.Transcript.{Closed, Gave, IsRun, Step, given, is_not, open_at, opens}
use Rattle.sw_message.specs.declared.sent.Sent.{Sent}
use Rattle.sw_operation.specs.Operating.{Begun, IsNext}
use Rattle.sw_core.proofs.Machines.{numbers}
use Rattle.sw_sim_world.proofs.Closing.{apart-open, gone-open, open-other, open-same}

-- the numbers below one at which a test passes
abbrev pub passing : (ℕ → Bool) → (count : ℕ) → List ℕ
passing test zero = []
passing test (suc number) = passing test number ++ (if test number then number ∷ [] else [])

-- whether the ticket of a transcript is open
abbrev pub is_open : List Step → ℕ → Bool
is_open past ticket = is_some (open_at ticket past)

-- tests that agree have the same numbers
pub passing-same : (p q : ℕ → Bool) (count : ℕ) → ((number : ℕ) → number < count → p number ≡ q number) → passing p count ≡ passing q count
passing-same p q zero same = refl
passing-same p q (suc number) same =
    ap (λ (numbers : List ℕ). numbers ++ (if p number then number ∷ [] else [])) (passing-same p q number (λ other below. same other (omega (arith, below))))
    ∙ ap (λ (b : Bool). passing q number ++ (if b then number ∷ [] else [])) (same number (omega arith))

-- none pass a test that always fails
pub none-passing : (count : ℕ) → passing (λ number. false) count ≡ []
none-passing zero = refl
none-passing (suc number) = append-nil (passing (λ other. false) number) ∙ none-passing number

-- one more that passes, or not
pub passing-more : (test : ℕ → Bool) (number : ℕ) → test number ≡ true → passing test (suc number) ≡ passing test number ++ number ∷ []
passing-more test number passes = ap (λ (b : Bool). passing test number ++ (if b then number ∷ [] else [])) passes

-- one that does not pass is not added
pub passing-less : (test : ℕ → Bool) (number : ℕ) → test number ≡ false → passing test (suc number) ≡ passing test number
passing-less test number fails = ap (λ (b : Bool). passing test number ++ (if b then number ∷ [] else [])) fails ∙ append-nil (passing test number)

-- ---- filters

module _ (keeps : ℕ → Bool) where
  -- a filter keeps a number that passes it
  one-kept : (number : ℕ) (passes keep : Bool) → keeps number ≡ keep → filter keeps (if passes then number ∷ [] else []) ≡ (if passes && keep then number ∷ [] else [])
  one-kept number true true is = cond-true (keeps number) (number ∷ []) [] is
  one-kept number true false is = cond-false (keeps number) (number ∷ []) [] is
  one-kept number false keep is = refl

  -- what a filter keeps of those that pass, passes both tests
  passing-kept : (test : ℕ → Bool) (count : ℕ) → filter keeps (passing test count) ≡ passing (λ number. test number && keeps number) count
  passing-kept test zero = refl
  passing-kept test (suc number) =
      filter-append keeps (passing test number) (if test number then number ∷ [] else [])
      ∙ ap (λ (numbers : List ℕ). numbers ++ filter keeps (if test number then number ∷ [] else [])) (passing-kept test number)
      ∙ ap (λ (more : List ℕ). passing (λ other. test other && keeps other) number ++ more) (one-kept number (test number) (keeps number) refl)

  -- a filter keeps the same in the other order
  reverse-kept : (numbers : List ℕ) → reverse (filter keeps numbers) ≡ filter keeps (reverse numbers)
  reverse-kept [] = refl
  reverse-kept (first ∷ numbers) = by_test (keeps first) refl (reverse-kept numbers)
    where
      by_test : (keep : Bool) → keeps first ≡ keep → reverse (filter keeps numbers) ≡ filter keeps (reverse numbers) → reverse (filter keeps (first ∷ numbers)) ≡ filter keeps (reverse (first ∷ numbers))
      by_test true is others =
          ap reverse (cond-true (keeps first) (first ∷ filter keeps numbers) (filter keeps numbers) is)
          ∙ reverse-cons first (filter keeps numbers)
          ∙ ap (λ (these : List ℕ). these ++ first ∷ []) others
          ∙ ap (λ (these : List ℕ). filter keeps (reverse numbers) ++ these) (sym (cond-true (keeps first) (first ∷ []) [] is))
          ∙ sym (filter-append keeps (reverse numbers) (first ∷ []))
          ∙ ap (filter keeps) (sym (reverse-cons first numbers))
      by_test false is others =
          ap reverse (cond-false (keeps first) (first ∷ filter keeps numbers) (filter keeps numbers) is)
          ∙ others
          ∙ sym (append-nil (filter keeps (reverse numbers)))
          ∙ ap (λ (these : List ℕ). filter keeps (reverse numbers) ++ these) (sym (cond-false (keeps first) (first ∷ []) [] is))
          ∙ sym (filter-append keeps (reverse numbers) (first ∷ []))
          ∙ ap (filter keeps) (sym (reverse-cons first numbers))

-- ---- transcripts

-- what is and holds is what is
and-true : (b : Bool) → (b && true) ≡ b
and-true true = refl
and-true false = refl

-- the ticket of a message
abbrev pub ticket_of : Sent → ℕ
ticket_of sent = sent.ticket

-- a ticket is another
abbrev differs : (ticket other : ℕ) → Bool
differs ticket other = not (other == ticket)

-- the tickets of the messages without one are the tickets without it
tickets-kept : (ticket : ℕ) (sents : List Sent) → map ticket_of (filter (is_not ticket) sents) ≡ filter (differs ticket) (map ticket_of sents)
tickets-kept ticket [] = refl
tickets-kept ticket (sent ∷ sents) = by_test (differs ticket sent.ticket) (tickets-kept ticket sents)
  where
    by_test : (keep : Bool) → map ticket_of (filter (is_not ticket) sents) ≡ filter (differs ticket) (map ticket_of sents)
        → map ticket_of (cond keep (sent ∷ filter (is_not ticket) sents) (filter (is_not ticket) sents)) ≡ cond keep (sent.ticket ∷ filter (differs ticket) (map ticket_of sents)) (filter (differs ticket) (map ticket_of sents))
    by_test true others = ap (λ (these : List ℕ). sent.ticket ∷ these) others
    by_test false others = others

module _ (begun : Begun) where
  -- the open tickets, the first of them first, are those below the count that are open
  pub tickets-open : (past : List Step) → IsRun (IsNext begun) past → reverse (map ticket_of (opens past)) ≡ passing (is_open past) (length (given past))
  tickets-open [] run = refl
  tickets-open (Gave sent ∷ past) run =
      let number = numbers begun past sent run.0 in
      reverse-cons sent.ticket (map ticket_of (opens past))
      ∙ ap (λ (these : List ℕ). these ++ sent.ticket ∷ []) (tickets-open past run.1)
      ∙ ap (λ (these : List ℕ). these ++ sent.ticket ∷ []) (passing-same (is_open past) (is_open (Gave sent ∷ past)) (length (given past))
      (λ other below. ap is_some (sym (open-other past sent other (λ same. absurd (omega (arith, same, number, below)))))))
      ∙ ap (λ (ticket : ℕ). passing (is_open (Gave sent ∷ past)) (length (given past)) ++ ticket ∷ []) number
      ∙ sym (passing-more (is_open (Gave sent ∷ past)) (length (given past)) (ap is_some (open-same past sent (length (given past)) number)))
  tickets-open (Closed sent answer ∷ past) run =
      ap reverse (tickets-kept sent.ticket (opens past))
      ∙ reverse-kept (differs sent.ticket) (map ticket_of (opens past))
      ∙ ap (filter (differs sent.ticket)) (tickets-open past run.1)
      ∙ passing-kept (differs sent.ticket) (is_open past) (length (given past))
      ∙ passing-same (λ other. is_open past other && differs sent.ticket other) (is_open (Closed sent answer ∷ past)) (length (given past)) (λ other below. still other)
    where
      by_test : (other : ℕ) (same : Bool) → (other == sent.ticket) ≡ same → (is_open past other && not same) ≡ is_open (Closed sent answer ∷ past) other
      by_test other true is = and_right (is_open past other) false refl ∙ sym (ap is_some (gone-open past sent answer other (eqb-true other sent.ticket is)))
      by_test other false is = and-true (is_open past other) ∙ sym (ap is_some (apart-open past sent answer other (λ same. absurd (true≢false (sym (eq-eqb other sent.ticket same) ∙ is)))))

      still : (other : ℕ) → (is_open past other && differs sent.ticket other) ≡ is_open (Closed sent answer ∷ past) other
      still other = by_test other (other == sent.ticket) refl
