-- The messages of a transcript: each that was handed out is open or was told.
use Rattle.std.proofs.Common.{◌≡◌, ◌⊎◌, inl, inr, ℕ, ◌≤◌, ◌==◌, Bool, true, false, not, Contains, List, [], ◌∷◌, get_or, Option, Some, refl, sym, ap, subst, ◌∙◌, arith}
use Rattle.std.specs.List.{All, AllPairs, count_by, find}
use Rattle.std.proofs.lemmas.Bool.{cases_Bool, cases_order, eqb-true}
use Rattle.std.proofs.lemmas.List.{get_or_default}
use Rattle.std.proofs.lemmas.List.Elements.{All-contains, All-cons, All-filter, All-head, All-nil, All-tail}
use Rattle.std.proofs.lemmas.List.Sums.{sum_by-cons}
use Rattle.std.specs.Prelude.{cond}
use Rattle.sw_ring.proofs.Among.{Contains-cons}
use Rattle.sw_message.specs.Transcript.{Closed, Gave, IsRun, Step, given, is_empty, is_not, is_waiting, opens}
use Rattle.sw_message.specs.declared.message.Msg.{Msg}
use Rattle.sw_message.specs.declared.reply.Reply.{Reply}
use Rattle.sw_message.specs.declared.sent.Sent.{Sent}
use Rattle.sw_quorum.proofs.Places.{counted-among, one_if}
use Rattle.sw_quorum.proofs.Transcripts.{found, numbered}
use Rattle.sw_quorum.specs.Transcripts.{HasOther, Numbers, closed, has_ticket}
use Rattle.sw_gather.proofs.Lists.{first_or_later, here, in_filter, none_in}
use Rattle.sw_sync.specs.Answers.{WasTold}
use Rattle.sw_sync.specs.Sync.{Begun, IsNext}

pub numbers : (begun : Begun) → Numbers (IsNext begun)
numbers begun past sent is = is.2.0

-- ---- what was told stays told

module _ (past : List Step) (step : Step) (device : ℕ) (msg : Msg) (answer : Option Reply) where
  pub told-later : WasTold past device msg answer → WasTold (step ∷ past) device msg answer
  told-later (ticket, there) = (ticket, Contains-cons (Closed (record { ticket = ticket; device = device; msg = msg }) answer) step past there)

pub as-told : (past : List Step) (sent : Sent) (device : ℕ) (msg : Msg) (answer : Option Reply) → sent.device ≡ device → sent.msg ≡ msg → Contains past (Closed sent answer) → WasTold past device msg answer
as-told past sent device msg answer of is there = (
  sent.ticket,
  subst (λ n. Contains past (Closed (record { ticket = sent.ticket; device = n; msg = msg }) answer)) of
      (subst (λ (one : Msg). Contains past (Closed (record { ticket = sent.ticket; device = sent.device; msg = one }) answer)) is there),
)

-- and was told before, or is told by the last step
pub told-gave : (past : List Step) (sent : Sent) (device : ℕ) (msg : Msg) (answer : Option Reply) → WasTold (Gave sent ∷ past) device msg answer → WasTold past device msg answer
told-gave past sent device msg answer (ticket, there) =
    elim (first_or_later (Gave sent) past (Closed (record { ticket = ticket; device = device; msg = msg }) answer) there) [ inl same ↦ absurd (cc) | inr later ↦ (ticket, later) ]

abbrev pub IsThis : Sent → Option Reply → ℕ → Msg → Option Reply → Type 0
IsThis sent told device msg answer = (sent.device ≡ device) × (sent.msg ≡ msg) × (told ≡ answer)

pub told-cases : (past : List Step) (sent : Sent) (told : Option Reply) (device : ℕ) (msg : Msg) (answer : Option Reply) → WasTold (Closed sent told ∷ past) device msg answer
    → IsThis sent told device msg answer ⊎ WasTold past device msg answer
told-cases past sent told device msg answer (ticket, there) =
    let this : Sent = record { ticket = ticket; device = device; msg = msg } in
    elim (first_or_later (Closed sent told) past (Closed this answer) there) [
      | inl same ↦
          let sents : sent ≡ this = cc in
          inl (ap (λ (one : Sent). one.device) sents, ap (λ (one : Sent). one.msg) sents, cc)
      | inr later ↦ inr (ticket, later)
    ]

-- ---- those that were answered

abbrev pub IsAnswered : List Step → Sent → Type 0
IsAnswered past sent = (answer : Option Reply) × Contains past (Closed sent answer)

pub closed-answered : (past : List Step) (sent : Sent) → Contains (closed past) sent → IsAnswered past sent
closed-answered [] sent is = absurd (none_in sent is)
closed-answered (Gave other ∷ past) sent is = let later = closed-answered past sent is in (later.0, Contains-cons (Closed sent later.0) (Gave other) past later.1)
closed-answered (Closed other answer ∷ past) sent is = elim (first_or_later other (closed past) sent is) [
  | inl same ↦ (answer, subst (λ (one : Sent). Contains (Closed other answer ∷ past) (Closed one answer)) same (here (Closed other answer) past))
  | inr before ↦ let later = closed-answered past sent before in (later.0, Contains-cons (Closed sent later.0) (Closed other answer) past later.1)
]

pub answered-closed : (past : List Step) (sent : Sent) (answer : Option Reply) → Contains past (Closed sent answer) → Contains (closed past) sent
answered-closed [] sent answer is = absurd (none_in (Closed sent answer) is)
answered-closed (Gave other ∷ past) sent answer is = elim (first_or_later (Gave other) past (Closed sent answer) is) [ inl same ↦ absurd (cc) | inr before ↦ answered-closed past sent answer before ]
answered-closed (Closed other told ∷ past) sent answer is = elim (first_or_later (Closed other told) past (Closed sent answer) is) [
  | inl same ↦ let this : other ≡ sent = cc in subst (λ (one : Sent). Contains (other ∷ closed past) one) this (here other (closed past))
  | inr before ↦ Contains-cons sent other (closed past) (answered-closed past sent answer before)
]

abbrev pub to : ℕ → Sent → Bool
to device sent = sent.device == device

-- where at most one message that passes a test was answered, it has one answer
module _ (test : Sent → Bool) where
  pub told-once : (past : List Step) → count_by test (closed past) ≤ 1 → (a b : Sent) (x y : Option Reply) → test a ≡ true → test b ≡ true
      → Contains past (Closed a x) → Contains past (Closed b y) → x ≡ y
  told-once [] few a b x y at bt first second = absurd (none_in (Closed a x) first)
  told-once (Gave sent ∷ past) few a b x y at bt first second =
      elim (first_or_later (Gave sent) past (Closed a x) first) [
        | inl same ↦ absurd (cc)
        | inr one ↦ elim (first_or_later (Gave sent) past (Closed b y) second) [ inl same ↦ absurd (cc) | inr other ↦ told-once past few a b x y at bt one other ]
      ]
  told-once (Closed sent answer ∷ past) few a b x y at bt first second =
      let split = sum_by-cons (λ (one : Sent). cond (test one) 1 0) sent (closed past) in
      elim (first_or_later (Closed sent answer) past (Closed a x) first) [
        | inl same ↦ elim (first_or_later (Closed sent answer) past (Closed b y) second) [
          | inl too ↦ let one : answer ≡ x = cc in let other : answer ≡ y = cc in sym one ∙ other
          | inr other ↦
              let this : sent ≡ a = cc in
              absurd (omega (arith, few, split, ap one_if (ap test this ∙ at), counted-among test (closed past) b bt (answered-closed past b y other)))
        ]
        | inr one ↦ elim (first_or_later (Closed sent answer) past (Closed b y) second) [
          | inl too ↦
              let this : sent ≡ b = cc in
              absurd (omega (arith, few, split, ap one_if (ap test this ∙ bt), counted-among test (closed past) a at (answered-closed past a x one)))
          | inr other ↦ told-once past (omega (arith, few, split)) a b x y at bt one other
        ]
      ]

-- ---- those that are open

pub none-open : (past : List Step) → is_waiting past ≡ false → opens past ≡ []
none-open past is = by_opens (opens past) is
  where
    by_opens : (sents : List Sent) → not (is_empty sents) ≡ false → sents ≡ []
    by_opens [] none = refl
    by_opens (sent ∷ sents) none = absurd (cc)

-- what holds of each message that was handed out holds of those that are open
pub opens-each : (P : Sent → Type 0) (past : List Step) → All P (given past) → All P (opens past)
opens-each P [] all = All-nil P
opens-each P (Gave sent ∷ past) all = All-cons P sent (opens past) (All-head P sent (given past) all) (opens-each P past (All-tail P sent (given past) all))
opens-each P (Closed sent answer ∷ past) all = All-filter (is_not sent.ticket) P (opens past) (opens-each P past all)

-- the open message of a ticket is the only one
one_of_ticket : (opened : List Sent) (sent other : Sent) → AllPairs HasOther opened → find (has_ticket other.ticket) opened ≡ Some sent → Contains opened other → sent ≡ other
one_of_ticket opened sent other apart is (j, within, there) =
    let own = found (λ (one : Sent). one.ticket ≡ other.ticket → one ≡ other) other.ticket opened sent is all in own.0 own.1
  where
    all : All (λ (one : Sent). one.ticket ≡ other.ticket → one ≡ other) opened
    all i d below same =
        let at : get_or opened j d ≡ other = get_or_default opened j d other within ∙ there in
        let tickets : (get_or opened j d).ticket ≡ other.ticket = ap (λ (one : Sent). one.ticket) at in
        elim (cases_order i j) [
          | inl equal ↦ ap (λ n. get_or opened n d) equal ∙ at
          | inr (inl less) ↦ absurd (apart i j d less within (same ∙ sym tickets))
          | inr (inr more) ↦ absurd (apart j i d more below (tickets ∙ sym same))
        ]

module _ (begun : Begun) where
  -- and of those that were told
  pub closed-each : (P : Sent → Type 0) (past : List Step) → IsRun (IsNext begun) past → All P (given past) → All P (closed past)
  closed-each P [] run all = All-nil P
  closed-each P (Gave sent ∷ past) run all = closed-each P past run.1 (All-tail P sent (given past) all)
  closed-each P (Closed sent answer ∷ past) run all = All-cons P sent (closed past) (found P sent.ticket (opens past) sent run.0 (opens-each P past all)).0 (closed-each P past run.1 all)

  pub told-each : (P : Sent → Type 0) (past : List Step) (sent : Sent) (answer : Option Reply) → IsRun (IsNext begun) past → All P (given past) → Contains past (Closed sent answer) → P sent
  told-each P past sent answer run all is = All-contains P (closed past) sent (closed-each P past run all) (answered-closed past sent answer is)

  -- each that was handed out is open, or was told
  open-or-told : (past : List Step) → IsRun (IsNext begun) past → (sent : Sent) → Contains (given past) sent → Contains (opens past) sent ⊎ IsAnswered past sent
  open-or-told [] run sent is = absurd (none_in sent is)
  open-or-told (Gave other ∷ past) run sent is = elim (first_or_later other (given past) sent is) [
    | inl same ↦ inl (subst (λ (one : Sent). Contains (other ∷ opens past) one) same (here other (opens past)))
    | inr before ↦ elim (open-or-told past run.1 sent before) [
      | inl opened ↦ inl (Contains-cons sent other (opens past) opened)
      | inr told ↦ inr (told.0, Contains-cons (Closed sent told.0) (Gave other) past told.1)
    ]
  ]
  open-or-told (Closed other answer ∷ past) run sent is = elim (open-or-told past run.1 sent is) [
    | inr told ↦ inr (told.0, Contains-cons (Closed sent told.0) (Closed other answer) past told.1)
    | inl opened ↦ elim (cases_Bool (has_ticket other.ticket sent)) [
      | inr others ↦ inl (in_filter (is_not other.ticket) (opens past) sent opened (ap not others))
      | inl its ↦
          let tickets : sent.ticket ≡ other.ticket = eqb-true sent.ticket other.ticket its in
          let same = one_of_ticket (opens past) other sent (numbered (IsNext begun) (numbers begun) past run.1).apart (ap (λ n. find (has_ticket n) (opens past)) tickets ∙ run.0) opened in
          inr (answer, subst (λ (one : Sent). Contains (Closed other answer ∷ past) (Closed one answer)) same (here (Closed other answer) past))
    ]
  ]

  -- where none is open, each was told
  pub all-told : (past : List Step) → IsRun (IsNext begun) past → opens past ≡ [] → (sent : Sent) → Contains (given past) sent → IsAnswered past sent
  all-told past run none sent is = elim (open-or-told past run sent is) [ inl opened ↦ absurd (none_in sent (subst (λ these. Contains these sent) none opened)) | inr told ↦ told ]
