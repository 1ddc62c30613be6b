-- Operations stay timely as one of them goes on.
use Rattle.std.proofs.Common.{◌≡◌, ◌≢◌, ◌⊎◌, inl, inr, ⊎_elim, ℕ, ◌+◌, ◌<◌, cond, nat_lt, Contains, List, ◌++◌, length, refl, sym, subst, ◌∙◌, arith}
use Rattle.std.proofs.lemmas.Bool.{cond_above, cond_below}
use Rattle.std.proofs.lemmas.List.Elements.{Contains-append_cases, Contains-append_left, Contains-append_right}
use Rattle.sw_diskfile.proofs.Lists.{Contains-map, mapped}
use Rattle.sw_message.specs.Transcript.{Step, given}
use Rattle.sw_message.specs.declared.reply.Reply.{Reply}
use Rattle.sw_message.specs.declared.sent.Sent.{Sent}
use Rattle.sw_law_scene.specs.Moves.{requests_of, sends}
use Rattle.sw_law_scene.specs.Scene.{Answer, Message, Request, Scene}
use Rattle.sw_law_scene.proofs.Growth.{sends-grows}
use Rattle.sw_core.specs.Event.{Proceeds}
use Rattle.sw_core.specs.World.{HandsOut, Operating, World}
use Rattle.sw_core.proofs.Numbered.{replaced-cases}
use Rattle.sw_law_headline.specs.Timed.{IsTimely}
use Rattle.sw_law_headline.proofs.Handed.{handed-new, handed-timed}
use Rattle.sw_law_headline.proofs.Later.{AreTimely, timed-later, timed-same, timely-on}

-- a timely operation, each message of which, and each reply to it, has the ticket of one that it handed out
pub record IsReady (scene : Scene) (number : ℕ) (operation : Operating) : Type 0 where
  pub requested : (at : ℕ) (sent : Sent) → Contains scene.messages (Request at number sent) → sent.ticket < length (given operation.past)
  pub answered : (at : ℕ) (sent : Sent) (reply : Reply) → Contains scene.messages (Answer at number sent reply) → sent.ticket < length (given operation.past)
  pub timely : IsTimely scene number operation

-- ---- what is handed out

module _ (scene : Scene) (number : ℕ) (sents : List Sent) where
  abbrev news : List Message
  news = requests_of scene.now number sents

  -- each request was there, or is one of those
  requests-cases : (at other : ℕ) (sent : Sent) → Contains (scene.messages ++ news) (Request at other sent) → Contains scene.messages (Request at other sent) ⊎ ((scene.now ≡ at) × (number ≡ other) × Contains sents sent)
  requests-cases at other sent has = ⊎_elim
      (λ old. inl old)
      (λ new.
      let from = mapped (λ (one : Sent). Request scene.now number one) sents (Request at other sent) new in
      let same : from.0 ≡ sent = cc in
      inr (cc, cc, subst (Contains sents) same from.1))
      (Contains-append_cases scene.messages news (Request at other sent) has)

  module _ (operation : Operating) (past : List Step) (ready : IsReady scene number (record operation { past = past })) (later : Operating) (handed : HandsOut operation.begun sents past later.past) where
    -- new tickets get this step
    abbrev asked_at : ℕ → ℕ
    asked_at ticket = cond (nat_lt ticket (length (given past))) (ready.timely.asked_at ticket) scene.now

    as_before : (ticket : ℕ) → ticket < length (given past) → ready.timely.asked_at ticket ≡ asked_at ticket
    as_before ticket old = cond_below ticket (length (given past)) (ready.timely.asked_at ticket) scene.now old

    at_once : (sent : Sent) → Contains sents sent → scene.now ≡ asked_at sent.ticket
    at_once sent has = cond_above sent.ticket (length (given past)) (ready.timely.asked_at sent.ticket) scene.now scene.now (handed-new operation.begun sents past later.past handed sent has) refl

    there : (sent : Sent) → Contains sents sent → Contains (scene.messages ++ news) (Request scene.now number sent)
    there sent has = Contains-append_right scene.messages news (Request scene.now number sent) (Contains-map (λ (one : Sent). Request scene.now number one) sents sent has)

    -- the one that goes on
    one-timely : IsTimely (sends number sents scene) number later
    one-timely =
        let messages = scene.messages ++ news in
        let same = timed-same scene.messages number ready.timely.asked_at asked_at
        (λ at sent has. sym (as_before sent.ticket (ready.requested at sent has))) (λ at sent reply has. sym (as_before sent.ticket (ready.answered at sent reply has)))
        past scene.now ready.timely.timed in
        let posted = timed-later number asked_at scene.messages messages (λ one has. Contains-append_left scene.messages news one has) past scene.now scene.now (omega arith) same in
        let after = handed-timed operation.begun messages number asked_at scene.now sents past later.past handed (λ sent has. (at_once sent has, there sent has)) posted in
        record {
          asked_at = asked_at;
          requests = λ at sent has. ⊎_elim
              (λ old. ready.timely.requests at sent old ∙ as_before sent.ticket (ready.requested at sent old))
              (λ new. sym new.0 ∙ at_once sent new.2)
              (requests-cases at number sent has);
          timed = timed-later number asked_at messages messages (λ one has. has) later.past scene.now (scene.now + 1) (omega arith) after;
        }

  -- another one
  other-timely : (other : ℕ) (one : Operating) → other ≢ number → IsTimely scene other one → IsTimely (sends number sents scene) other one
  other-timely other one apart = timely-on scene (sends number sents scene) (sends-grows scene number sents) other one
      (λ at sent has. ⊎_elim (λ old. old) (λ new. absurd (apart (sym new.1))) (requests-cases at other sent has))

-- ---- worlds

-- an operation goes on
pub proceeds-timely : (world : World) → AreTimely world → (number : ℕ) (operation : Operating) (past : List Step) → IsReady world.scene number (record operation { past = past })
    → (after : World) → Proceeds world number operation past after → AreTimely after
proceeds-timely world timely number operation past ready after goes = subst AreTimely (sym goes.after_is) (λ other one is. ⊎_elim
    (λ this.
    subst (λ (n : ℕ). IsTimely (sends number goes.sents world.scene) n one) (sym this.0)
    (subst (IsTimely (sends number goes.sents world.scene) number) this.1 (one-timely world.scene number goes.sents operation past ready goes.later goes.goes_on.handed)))
    (λ old. other-timely world.scene number goes.sents other one old.0 (timely other one old.1))
    (replaced-cases number goes.later world.operations other one is))
