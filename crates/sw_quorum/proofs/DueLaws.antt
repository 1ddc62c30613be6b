-- What every transcript keeps of a machine that hands out what is due.
use Rattle.std.specs.Prelude.{◌≡◌, ℕ, zero, ◌+◌, ◌≤◌, ◌<◌, Bool, true, false, if◌then◌else◌, nat_lt, List, [], ◌∷◌, length, slice_get, take, drop, Contains, Option, Some, None}
use Rattle.std.specs.List.{All, sum_by}
use Rattle.std.proofs.Common.{ap, arith, get_or, inl, inr, refl, sym, subst, ◌∙◌}
use Rattle.std.proofs.lemmas.Bool.{cases_lt, le-ltb, lt-ltb, ltb-false}
use Rattle.std.proofs.lemmas.List.{length-append, take-append-le, take_more}
use Rattle.std.proofs.lemmas.List.Elements.{All-weaker}
use Rattle.std.proofs.lemmas.List.Sums.{sum_by-cons, sum_by-take-drop, sum_by_push}
use Rattle.std.proofs.lemmas.Option.{get_or_from_slice_get, none-some, same_Some, slice_get-get_or, slice_get_within}
use Rattle.sw_ring.proofs.Among.{Contains-cons}
use Rattle.sw_message.specs.Transcript.{Closed, Gave, Hand, IsRun, Next, Over, Step, Wait, given, is_waiting, open_at, opens}
use Rattle.sw_message.specs.declared.sent.Sent.{Sent}
use Rattle.sw_quorum.specs.Dues.{Grew, IsDue, IsLonger, due_next, due_or}
use Rattle.sw_quorum.proofs.Lookups.{slice_get-front, slice_get_none}
use Rattle.sw_quorum.proofs.Transcripts.{closed-none, found, numbered, opens-keep, sums-keep, waiting-some}
use Rattle.sw_quorum.specs.Transcripts.{Numbers, closed, closed_count}

-- ---- what comes next

not_handed : (b : Bool) (sent : Sent) → (if b then Wait else Over) ≡ Hand sent → ⊥
not_handed true sent is = cc
not_handed false sent is = cc

over_by : (a b : ℕ) (less : Bool) → nat_lt a b ≡ less → (if less then Wait else Over) ≡ Over → b ≤ a
over_by a b true less is = absurd (cc)
over_by a b false less is = ltb-false a b less

-- what stands in a list stands there in a longer one
pub stays-found : {D : Type 0} (before after : List D) (i : ℕ) (x : D) → IsLonger before after → slice_get before i ≡ Some x → slice_get after i ≡ Some x
stays-found before after i x longer is = subst (λ these. slice_get these i ≡ Some x) (sym longer.1) (slice_get-front before longer.0 i x is)

module _ {D : Type 0} (message : ℕ → D → Sent) (due : List D) (past : List Step) where
  over_or : (next : Option D) → slice_get due (length (given past)) ≡ next → due_or message (length due) past next ≡ Over → (length due ≤ length (given past)) × (length due ≤ closed_count past)
  over_or None none is = (slice_get_none due (length (given past)) none, over_by (closed_count past) (length due) _ refl is)
  over_or (Some about) at is = absurd (cc)

  pub over : due_next message due past ≡ Over → (length due ≤ length (given past)) × (length due ≤ closed_count past)
  over is = over_or (slice_get due (length (given past))) refl is

  pub hands : (about : D) → slice_get due (length (given past)) ≡ Some about → due_next message due past ≡ Hand (message (length (given past)) about)
  hands about is = ap (due_or message (length due) past) is

  -- where nothing is left to hand out and answers are missing, it waits
  pub waits : slice_get due (length (given past)) ≡ None → closed_count past < length due → due_next message due past ≡ Wait
  waits none few = ap (due_or message (length due) past) none ∙ ap (λ b. if b then Wait else Over) (lt-ltb (closed_count past) (length due) few)

  -- and where none is missing, it is over
  pub is_over : slice_get due (length (given past)) ≡ None → length due ≤ closed_count past → due_next message due past ≡ Over
  is_over none all = ap (due_or message (length due) past) none ∙ ap (λ b. if b then Wait else Over) (le-ltb (closed_count past) (length due) all)

-- ---- every transcript

module _ {D : Type 0} (message : ℕ → D → Sent) (own : (ticket : ℕ) (about : D) → (message ticket about).ticket ≡ ticket) where
  handed_or : (due : List D) (past : List Step) (sent : Sent) (next : Option D) → slice_get due (length (given past)) ≡ next → due_or message (length due) past next ≡ Hand sent
      → (sent.ticket ≡ length (given past)) × IsDue message due sent
  handed_or due past sent None none is = absurd (not_handed _ sent is)
  handed_or due past sent (Some about) at is =
      let same : message (length (given past)) about ≡ sent = cc in
      let ticket : sent.ticket ≡ length (given past) = sym (ap (λ (one : Sent). one.ticket) same) ∙ own (length (given past)) about in (
        ticket,
        record { about = about; found = ap (slice_get due) ticket ∙ at; is = sym same ∙ ap (λ n. message n about) (sym ticket) },
      )

  -- a message that is handed out is that of what is due next
  pub handed : (due : List D) (past : List Step) (sent : Sent) → due_next message due past ≡ Hand sent → (sent.ticket ≡ length (given past)) × IsDue message due sent
  handed due past sent is = handed_or due past sent (slice_get due (length (given past))) refl is

  module _ (due : List Step → List D) where
    abbrev IsNext : List Step → Next → Type 0
    IsNext past next = due_next message (due past) past ≡ next

    pub numbers : Numbers (λ past next. due_next message (due past) past ≡ next)
    numbers past sent is = (handed (due past) past sent is).0

    stays : (before after : List D) (sent : Sent) → IsLonger before after → IsDue message before sent → IsDue message after sent
    stays before after sent longer is = record { about = is.about; found = stays-found before after sent.ticket is.about longer is.found; is = is.is }

    -- an open message is that of what is due at its ticket
    pub opened : (past : List Step) → IsRun IsNext past → Grew due past → All (IsDue message (due past)) (opens past)
    opened past run grew =
        All-weaker (λ sent. Grew due past → IsDue message (due past) sent) (IsDue message (due past)) (λ sent known. known grew) (opens past)
        (opens-keep IsNext (λ past sent. Grew due past → IsDue message (due past) sent)
        (λ past sent is grew. stays (due past) (due (Gave sent ∷ past)) sent grew.0 (handed (due past) past sent is).1)
        (λ past step sent known grew. stays (due past) (due (step ∷ past)) sent grew.0 (known grew.1)) past run)

    pub open-due : (past : List Step) (ticket : ℕ) (sent : Sent) → IsRun IsNext past → Grew due past → open_at ticket past ≡ Some sent → IsDue message (due past) sent × (sent.ticket ≡ ticket)
    open-due past ticket sent run grew is = found (IsDue message (due past)) ticket (opens past) sent is (opened past run grew)

    never-open_by : (past : List Step) (ticket : ℕ) (opened : Option Sent) → open_at ticket past ≡ opened → IsRun IsNext past → Grew due past → slice_get (due past) ticket ≡ None → opened ≡ None
    never-open_by past ticket None is run grew none = refl
    never-open_by past ticket (Some sent) is run grew none =
        let known = open-due past ticket sent run grew is in
        absurd (none-some known.0.about (sym none ∙ ap (slice_get (due past)) (sym known.1) ∙ known.0.found))

    -- no message of a ticket is open where nothing is due
    pub never-open : (past : List Step) (ticket : ℕ) → IsRun IsNext past → Grew due past → slice_get (due past) ticket ≡ None → open_at ticket past ≡ None
    never-open past ticket run grew none = never-open_by past ticket (open_at ticket past) refl run grew none

    -- each message is open or answered
    pub answers-and-opens : (past : List Step) → IsRun IsNext past → closed_count past + length (opens past) ≡ length (given past)
    answers-and-opens past run = (numbered IsNext numbers past run).count

    longer-length : (before after : List D) → IsLonger before after → length before ≤ length after
    longer-length before after longer = omega (arith, ap length longer.1, length-append before longer.0)

    -- no more are handed out than are due
    pub given-within : (past : List Step) → IsRun IsNext past → Grew due past → length (given past) ≤ length (due past)
    given-within [] run grew = omega arith
    given-within (Gave sent ∷ past) run grew =
        let is = handed (due past) past sent run.0 in
        omega (arith, is.0, slice_get_within (due past) sent.ticket is.1.about is.1.found, longer-length (due past) (due (Gave sent ∷ past)) grew.0)
    given-within (Closed sent answer ∷ past) run grew = omega (arith, given-within past run.1 grew.1, longer-length (due past) (due (Closed sent answer ∷ past)) grew.0)

    earlier-found : (before after : List D) (i : ℕ) (x : D) → IsLonger before after → i < length before → slice_get after i ≡ Some x → slice_get before i ≡ Some x
    earlier-found before after i x longer within at =
        let here : slice_get before i ≡ Some (get_or before i x) = slice_get-get_or before i x within in
        here ∙ sym (stays-found before after i (get_or before i x) longer here) ∙ at

    -- what was due at a ticket was handed out, once so many messages were
    pub handed-out : (past : List Step) (ticket : ℕ) (about : D) → IsRun IsNext past → Grew due past → ticket < length (given past) → slice_get (due past) ticket ≡ Some about
        → Contains (given past) (message ticket about)
    handed-out [] ticket about run grew within at = absurd (omega (arith, within))
    handed-out (Gave sent ∷ past) ticket about run grew within at = elim (cases_lt ticket (length (given past))) [
      | inl before ↦
          Contains-cons (message ticket about) sent (given past)
          (handed-out past ticket about run.1 grew.1 before (earlier-found (due past) (due (Gave sent ∷ past)) ticket about grew.0 (omega (arith, before, given-within past run.1 grew.1)) at))
      | inr from ↦
          let is = handed (due past) past sent run.0 in
          let same : sent.ticket ≡ ticket = omega (arith, is.0, from, within) in
          let after = stays-found (due past) (due (Gave sent ∷ past)) sent.ticket is.1.about grew.0 is.1.found in
          let one : is.1.about ≡ about = same_Some is.1.about about (sym after ∙ ap (slice_get (due (Gave sent ∷ past))) same ∙ at) in
          (zero, omega arith, is.1.is ∙ ap (message sent.ticket) one ∙ ap (λ n. message n about) same)
    ]
    handed-out (Closed sent answer ∷ past) ticket about run grew within at =
        handed-out past ticket about run.1 grew.1 within (earlier-found (due past) (due (Closed sent answer ∷ past)) ticket about grew.0 (omega (arith, within, given-within past run.1 grew.1)) at)

    -- where it is over, no message is open
    pub over-closed : (past : List Step) → IsRun IsNext past → Grew due past → due_next message (due past) past ≡ Over → opens past ≡ []
    over-closed past run grew is = closed-none past (omega (arith, (over message (due past) past is).1, answers-and-opens past run, given-within past run grew))

    -- where it waits, it waits for an open message
    pub waits-for : (past : List Step) → IsRun IsNext past → slice_get (due past) (length (given past)) ≡ None → closed_count past < length (due past) → is_waiting past ≡ true
    waits-for past run none few =
        waiting-some past (omega (arith, few, slice_get_none (due past) (length (given past)) none, answers-and-opens past run))

    -- ---- what is due was answered, is open, or is still to be handed out

    module _ (f : Sent → ℕ) (h : D → ℕ) (same : (ticket : ℕ) (about : D) → f (message ticket about) ≡ h about) where
      taken-longer : (before after : List D) (n : ℕ) → IsLonger before after → n ≤ length before → sum_by h (take n after) ≡ sum_by h (take n before)
      taken-longer before after n longer few = ap (λ these. sum_by h (take n these)) longer.1 ∙ ap (sum_by h) (take-append-le n before longer.0 few)

      taken-more : (xs : List D) (n : ℕ) (x : D) → slice_get xs n ≡ Some x → sum_by h (take (n + 1) xs) ≡ h x + sum_by h (take n xs)
      taken-more xs n x at =
          let within = slice_get_within xs n x at in
          let split : sum_by h (take (n + 1) xs) ≡ sum_by h (take n xs) + h (get_or xs n x) = ap (sum_by h) (take_more xs n x within) ∙ sum_by_push h (take n xs) (get_or xs n x) in
          omega (arith, split, ap h (get_or_from_slice_get xs n x x at))

      given-due : (past : List Step) → IsRun IsNext past → Grew due past → sum_by f (given past) ≡ sum_by h (take (length (given past)) (due past))
      given-due [] run grew = refl
      given-due (Gave sent ∷ past) run grew =
          let is = handed (due past) past sent run.0 in
          let n : ℕ = length (given past) in
          let at : slice_get (due past) n ≡ Some is.1.about = ap (slice_get (due past)) (sym is.0) ∙ is.1.found in
          let weight : f sent ≡ h is.1.about = ap f is.1.is ∙ same sent.ticket is.1.about in
          let more : n + 1 ≡ length (given (Gave sent ∷ past)) = omega arith in
          sum_by-cons f sent (given past)
          ∙ omega (
            arith,
            weight,
            given-due past run.1 grew.1,
            taken-more (due past) n is.1.about at,
            taken-longer (due past) (due (Gave sent ∷ past)) (n + 1) grew.0 (omega (arith, slice_get_within (due past) n is.1.about at)),
          )
          ∙ ap (λ k. sum_by h (take k (due (Gave sent ∷ past)))) more
      given-due (Closed sent answer ∷ past) run grew =
          given-due past run.1 grew.1 ∙ sym (taken-longer (due past) (due (Closed sent answer ∷ past)) (length (given past)) grew.0 (given-within past run.1 grew.1))

      pub spent : (past : List Step) → IsRun IsNext past → Grew due past → sum_by f (closed past) + sum_by f (opens past) + sum_by h (drop (length (given past)) (due past)) ≡ sum_by h (due past)
      spent past run grew = omega (arith, sums-keep IsNext numbers f past run, given-due past run grew, sum_by-take-drop h (due past) (length (given past)))
