-- The views before and after each call of a get: those of a ticket.
use Rattle.std.proofs.Common.{◌≡◌, ⊎_elim, ℕ, ◌+◌, ◌<◌, ◌≤◌, nat_lt, Bool, Contains, List, [], ◌∷◌, length, Option, Some, None, refl, sym, ap, subst, subst₂, ◌∙◌, arith}
use Rattle.std.specs.Prelude.{if◌then◌else◌}
use Rattle.std.specs.List.{All}
use Rattle.std.proofs.lemmas.Bool.{cases_lt, le-ltb, lt-ltb}
use Rattle.sw_diskfile.proofs.Lists.{Contains-cases, Contains-first, Contains-later, Contains-none}
use Rattle.sw_message.specs.Transcript.{Closed, Gave, IsRun, Step, given, opens}
use Rattle.sw_message.specs.declared.reply.Reply.{Reply}
use Rattle.sw_message.specs.declared.sent.Sent.{Sent}
use Rattle.sw_quorum.proofs.Transcripts.{found, opens-keep}
use Rattle.sw_get.specs.Get as gets
use Rattle.sw_get.proofs.Runs.{numbers}
use Rattle.sw_law_scene.specs.Scene.{Answer, Message, Request}
use Rattle.sw_law_rounds.specs.Timed.{IsTimed}
use Rattle.sw_view.specs.View.{Grows, IsSoundView, View}
use Rattle.sw_view.proofs.Growth.{grows_both, grows_same}
use Rattle.sw_law_reading.specs.Reading.{AreCallsOver, IsCall}

-- ---- a view more

abbrev pick : ℕ → View → (ℕ → View) → ℕ → View
pick count latest views i = if nat_lt count i then latest else views i

module _ (count : ℕ) (latest : View) (views : ℕ → View) (i : ℕ) where
  pick-old : i ≤ count → pick count latest views i ≡ views i
  pick-old below = ap (λ (b : Bool). if b then latest else views i) (le-ltb count i below)

  pick-new : count < i → pick count latest views i ≡ latest
  pick-new above = ap (λ (b : Bool). if b then latest else views i) (lt-ltb count i above)

-- ---- the views of the tickets

module _ (begun : gets.Begun) where
  -- Before the call of each ticket there was a view, and after it that of the next.
  pub record AreViews (before : View) (past : List Step) (after : View) : Type 0 where
    pub views : ℕ → View
    pub start : views 0 ≡ before
    pub last : views (length (given past)) ≡ after
    pub grows : (i j : ℕ) → i ≤ j → j ≤ length (given past) → Grows (views i) (views j)
    pub sound : (i : ℕ) → i ≤ length (given past) → IsSoundView begun.cluster (views i)
    pub calls : (sent : Sent) (answer : Option Reply) → Contains past (Closed sent answer) → (sent.ticket < length (given past)) × IsCall begun.cluster (views sent.ticket) sent.device sent.msg answer (views (sent.ticket + 1))

  module _ (before : View) (sound_before : IsSoundView begun.cluster before) where
    none_called : (after : View) → before ≡ after → AreViews before [] after
    none_called after same = record {
      views = λ i. before;
      start = refl;
      last = same;
      grows = λ i j below within. grows_same before;
      sound = λ i within. sound_before;
      calls = λ sent answer has. absurd (Contains-none _ has);
    }

    module _ (more : List Step) (between : View) (old : AreViews before more between) (sent : Sent) (answer : Option Reply) (same : Sent) (same_is : same ≡ sent) (ticket_is : sent.ticket ≡ length (given more)) (after : View)
        (call : IsCall begun.cluster between sent.device sent.msg answer after) where
      abbrev count : ℕ
      count = length (given more)

      abbrev views : ℕ → View
      views = pick count after old.views

      grows_on : (i j : ℕ) → i ≤ j → Grows (views i) (views j)
      grows_on i j below = ⊎_elim
          (λ new. ⊎_elim
          (λ also. subst₂ Grows (sym (pick-new count after old.views i also)) (sym (pick-new count after old.views j new)) (grows_same after))
          (λ older.
          let early = subst (Grows (old.views i)) old.last (old.grows i count older (omega arith)) in
          subst₂ Grows (sym (pick-old count after old.views i older)) (sym (pick-new count after old.views j new)) (grows_both (old.views i) between after early call.grows))
          (cases_lt count i))
          (λ within. subst₂ Grows (sym (pick-old count after old.views i (omega (arith, below, within)))) (sym (pick-old count after old.views j within)) (old.grows i j below within))
          (cases_lt count j)

      sound_on : (i : ℕ) → IsSoundView begun.cluster (views i)
      sound_on i = ⊎_elim
          (λ new. subst (IsSoundView begun.cluster) (sym (pick-new count after old.views i new)) call.sound)
          (λ within. subst (IsSoundView begun.cluster) (sym (pick-old count after old.views i within)) (old.sound i within))
          (cases_lt count i)

      abbrev IsCalled : Sent → Option Reply → Type 0
      IsCalled one given_so = (one.ticket < count + 1) × IsCall begun.cluster (views one.ticket) one.device one.msg given_so (views (one.ticket + 1))

      itself : IsCalled sent answer
      itself = (
        omega (arith, ticket_is),
        subst₂ (λ first second. IsCall begun.cluster first sent.device sent.msg answer second)
            (sym old.last ∙ ap old.views (sym ticket_is) ∙ sym (pick-old count after old.views sent.ticket (omega (arith, ticket_is))))
            (sym (pick-new count after old.views (sent.ticket + 1) (omega (arith, ticket_is)))) call,
      )

      earlier_call : (one : Sent) (given_so : Option Reply) → (one.ticket < count) × IsCall begun.cluster (old.views one.ticket) one.device one.msg given_so (old.views (one.ticket + 1)) → IsCalled one given_so
      earlier_call one given_so is = (
        omega (arith, is.0),
        subst₂ (λ first second. IsCall begun.cluster first one.device one.msg given_so second)
            (sym (pick-old count after old.views one.ticket (omega (arith, is.0))))
            (sym (pick-old count after old.views (one.ticket + 1) (omega (arith, is.0)))) is.1,
      )

      calls_on : (one : Sent) (given_so : Option Reply) → Contains (Closed sent answer ∷ Gave same ∷ more) (Closed one given_so) → IsCalled one given_so
      calls_on one given_so has = ⊎_elim
          (λ first.
          let sents : sent ≡ one = cc first in
          let answers : answer ≡ given_so = cc first in
          subst (λ s. IsCalled s given_so) sents (subst (λ a. IsCalled sent a) answers itself))
          (λ later. ⊎_elim
          (λ gave. absurd (cc gave))
          (λ earlier. earlier_call one given_so (old.calls one given_so earlier))
          (Contains-cases (Gave same) more (Closed one given_so) later))
          (Contains-cases (Closed sent answer) (Gave same ∷ more) (Closed one given_so) has)

      one_more : AreViews before (Closed sent answer ∷ Gave same ∷ more) after
      one_more = record {
        views = views;
        start = pick-old count after old.views 0 (omega arith) ∙ old.start;
        last = pick-new count after old.views (length (given (Closed sent answer ∷ Gave same ∷ more))) (omega arith);
        grows = λ i j below within. grows_on i j below;
        sound = λ i within. sound_on i;
        calls = λ one given_so has. let is = calls_on one given_so has in (omega (arith, is.0), is.1);
      }

    pub are-views : (past : List Step) (after : View) → IsRun (gets.IsNext begun) past → AreCallsOver begun.cluster before past after → AreViews before past after
    are-views [] after run same = none_called after same
    are-views (Gave sent ∷ more) after run none = absurd none
    are-views (Closed sent answer ∷ []) after run none = absurd none
    are-views (Closed sent answer ∷ Closed same again ∷ more) after run none = absurd none
    are-views (Closed sent answer ∷ Gave same ∷ more) after run calls =
        let ticket_is : same.ticket ≡ length (given more) = numbers begun more same run.1.0 in
        one_more more calls.0 (are-views more calls.0 run.1.1 calls.1) sent answer same calls.2 (ap (λ (one : Sent). one.ticket) (sym calls.2) ∙ ticket_is) after calls.3

  -- ---- tickets

  abbrev IsBelow : List Step → Sent → Type 0
  IsBelow steps sent = sent.ticket < length (given steps)

  below-still : (past : List Step) (step : Step) (sent : Sent) → IsBelow past sent → IsBelow (step ∷ past) sent
  below-still past (Gave other) sent is = omega (arith, is)
  below-still past (Closed other answer) sent is = is

  opens-below : (steps : List Step) → IsRun (gets.IsNext begun) steps → All (IsBelow steps) (opens steps)
  opens-below steps run = opens-keep (gets.IsNext begun) IsBelow (λ past sent next. let is = numbers begun past sent next in omega (arith, is)) below-still steps run

  -- what was answered, or given up, had been handed out before
  pub closed-below : (steps : List Step) → IsRun (gets.IsNext begun) steps → (sent : Sent) (answer : Option Reply) → Contains steps (Closed sent answer) → IsBelow steps sent
  closed-below [] run sent answer has = absurd (Contains-none _ has)
  closed-below (Gave one ∷ past) run sent answer has = ⊎_elim
      (λ first. absurd (cc first))
      (λ later. let is = closed-below past run.1 sent answer later in omega (arith, is))
      (Contains-cases (Gave one) past (Closed sent answer) has)
  closed-below (Closed one answered_so ∷ past) run sent answer has = ⊎_elim
      (λ first.
      let this : one ≡ sent = cc first in
      subst (IsBelow past) this (found (IsBelow past) one.ticket (opens past) one run.0 (opens-below past run.1)).0)
      (λ later. closed-below past run.1 sent answer later)
      (Contains-cases (Closed one answered_so) past (Closed sent answer) has)

-- ---- as times

-- the messages of a transcript, as made at their tickets
abbrev pub messages_of : List Step → List Message
messages_of [] = []
messages_of (Gave sent ∷ past) = Request sent.ticket 0 sent ∷ messages_of past
messages_of (Closed sent None ∷ past) = messages_of past
messages_of (Closed sent (Some reply) ∷ past) = Answer (sent.ticket + 1) 0 sent reply ∷ messages_of past

abbrev pub itself_at : ℕ → ℕ
itself_at ticket = ticket

module _ (begun : gets.Begun) (cluster : _) (messages : List Message) where
  -- they were made in the order of the transcript
  pub timed : (before : View) (past : List Step) (after : View) → IsRun (gets.IsNext begun) past → AreCallsOver cluster before past after → ((one : Message) → Contains (messages_of past) one → Contains messages one) → (by : ℕ) → length (given past) ≤ by
      → IsTimed messages 0 itself_at past by
  timed before [] after run same all by within = tt
  timed before (Gave sent ∷ more) after run none all by within = absurd none
  timed before (Closed sent answer ∷ []) after run none all by within = absurd none
  timed before (Closed sent answer ∷ Closed same again ∷ more) after run none all by within = absurd none
  timed before (Closed sent None ∷ Gave same ∷ more) after run calls all by within =
      let ticket_is = numbers begun more same run.1.0 in (
        omega (arith, ticket_is, within),
        all (Request same.ticket 0 same) (Contains-first (Request same.ticket 0 same) (messages_of more)),
        timed before more calls.0 run.1.1 calls.1 (λ one has. all one (Contains-later (Request same.ticket 0 same) (messages_of more) one has)) same.ticket (omega (arith, ticket_is)),
      )
  timed before (Closed sent (Some reply) ∷ Gave same ∷ more) after run calls all by within =
      let ticket_is = numbers begun more same run.1.0 in
      let also = ap (λ (one : Sent). one.ticket) calls.2 in
      let answer = Answer (sent.ticket + 1) 0 sent reply in
      let rest = Request same.ticket 0 same ∷ messages_of more in (
        (sent.ticket + 1, omega arith, omega (arith, ticket_is, also, within), all answer (Contains-first answer rest)),
        (
          omega (arith, ticket_is, within),
          all (Request same.ticket 0 same) (Contains-later answer rest (Request same.ticket 0 same) (Contains-first (Request same.ticket 0 same) (messages_of more))),
          timed before more calls.0 run.1.1 calls.1 (λ one has. all one (Contains-later answer rest one (Contains-later (Request same.ticket 0 same) (messages_of more) one has))) same.ticket (omega (arith, ticket_is)),
        ),
      )
