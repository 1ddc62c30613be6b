-- An own event of an operation keeps what holds of its devices, messages and answers.
use Rattle.std.proofs.Common.{◌≡◌, ◌⊎◌, inl, inr, ⊎_elim, ℕ, ◌<◌, Bool, true, false, Contains, List, [], ◌∷◌, ◌++◌, length, Option, Some, None, refl, sym, ap, subst, ◌∙◌}
use Rattle.std.specs.Prelude.{MatchBool}
use Rattle.std.proofs.lemmas.List.Elements.{Contains-push}
use Rattle.sw_ring.specs.Cluster.{ClusterModel}
use Rattle.sw_message.specs.Transcript.{Closed, after_answer, open_at}
use Rattle.sw_message.specs.declared.reply.Reply.{Reply}
use Rattle.sw_message.specs.declared.sent.Sent.{Sent}
use Rattle.sw_law_scene.specs.Moves.{Handles}
use Rattle.sw_law_scene.specs.Scene.{Answer, Message, Request, Scene, is_up}
use Rattle.sw_core.specs.Event.{Comes, Deliver, GiveUp, Happens, TakesAnswer, OnScene, Proceeds, idle}
use Rattle.sw_operation.specs.Operating.{Begun}
use Rattle.sw_core.specs.Sound.{IsSoundWorld}
use Rattle.sw_core.specs.World.{Operating, World, numbered}
use Rattle.sw_core.proofs.Numbered.{numbered-contains, numbered-within}
use Rattle.sw_core.proofs.Transcripts.{told-given}
use Rattle.sw_sim_world.specs.ScriptedWorld.{IsOwn}
use Rattle.sw_sim_world.specs.Standing.{IsClosed}
use Rattle.sw_sim_world.proofs.Closing.{answer-below, handed-same, told-closed, told-still}
use Rattle.sw_sim_world.proofs.Messages.{Adds, delivered-adds, given-adds}
use Rattle.sw_sim_world.proofs.Slots.{contained, replaced-at}
use Rattle.sw_play.proofs.Answering.{IsAnswering, handles, idles, proceeds}
use Rattle.sw_play.proofs.Handled.{AreHandled, one_more, still}
use Rattle.sw_play.proofs.OpenMessages.{told-either}

module _ (cluster : ClusterModel) (number : ℕ) (begun : Begun) (up : ℕ → Bool) where
  -- ---- an answer

  module _ (world : World) (sound : IsSoundWorld cluster world) (is : IsAnswering number begun up world) (ticket : ℕ) (answer : Option Reply) (missed : (sent : Sent) → Contains (after_answer is.operation.past ticket answer) (Closed sent None) → up sent.device ≡ false) where
    -- what holds once the operation was told an answer for a ticket: so it does, and its ticket is closed then, and those that were closed are
    record IsToldSo (after : World) : Type 0 where
      pub answering : IsAnswering number begun up after
      pub closes : (at : ℕ) (sent : Sent) (reply : Reply) → Contains world.scene.messages (Answer at number sent reply) → IsClosed (numbered world.operations number) sent.ticket ⊎ (sent.ticket ≡ ticket) → IsClosed (numbered after.operations number) sent.ticket

    -- one that is over takes none
    over_so : is.operation.is_over ≡ true → (after : World) → after ≡ idle world → IsToldSo after
    over_so over after same = record {
      answering = idles number begun up world is after same;
      closes = λ at sent reply has either.
          subst (λ (one : World). IsClosed (numbered one.operations number) sent.ticket) (sym same)
          (subst (λ (found : Option Operating). IsClosed found sent.ticket) (sym is.goes.there) (λ running. let both : true ≡ false = sym over ∙ running in absurd (cc)));
    }

    -- and else it goes on
    goes_so : is.operation.is_over ≡ false → (after : World) → Proceeds world number is.operation (after_answer is.operation.past ticket answer) after → IsToldSo after
    goes_so running after goes =
        let past = is.operation.past in
        let given_same = told-given past ticket answer in
        record {
          answering =
              proceeds number begun up world is.operation (after_answer past ticket answer) (record {
                up_is = is.goes.up_is;
                there = is.goes.there;
                begun_is = is.goes.begun_is;
                made = λ sent has. is.goes.made sent (subst (λ (sents : List Sent). Contains sents sent) given_same has);
                answers = is.goes.answers;
                missed = missed;
              }) after goes;
          closes = λ at sent reply has either.
              let at_place = contained world.scene.messages (Answer at number sent reply) has in
              let below = answer-below cluster world sound at_place.0 at number sent reply at_place.1 is.operation is.goes.there in
              subst (λ (one : World). IsClosed (numbered one.operations number) sent.ticket) (sym goes.after_is)
              (subst (λ (found : Option Operating). IsClosed found sent.ticket) (sym (replaced-at world.operations number is.operation goes.later is.goes.there))
              (λ now_running.
              handed-same is.operation.begun goes.sents (after_answer past ticket answer) goes.later.past sent.ticket goes.goes_on.handed (subst (λ (sents : List Sent). sent.ticket < length sents) (sym given_same) below)
              ∙ ⊎_elim
              (λ closed. told-still past ticket answer sent.ticket (subst (λ (found : Option Operating). IsClosed found sent.ticket) is.goes.there closed running))
              (λ this. subst (λ (other : ℕ). open_at other (after_answer past ticket answer) ≡ None) (sym this) (told-closed past ticket answer))
              either));
        }

    by_over : (is_over : Bool) → is.operation.is_over ≡ is_over → (after : World) → MatchBool is_over (after ≡ idle world) (Proceeds world number is.operation (after_answer is.operation.past ticket answer) after) → IsToldSo after
    by_over true over after same = over_so over after same
    by_over false running after goes = goes_so running after goes

    told_so : (after : World) → TakesAnswer (numbered world.operations number) number ticket answer world after → IsToldSo after
    told_so after goes = by_over is.operation.is_over refl after (subst (λ (found : Option Operating). TakesAnswer found number ticket answer world after) is.goes.there goes)

  -- ---- events

  module _ (world : World) (delivered : List ℕ) (sound : IsSoundWorld cluster world) (is : IsAnswering number begun up world) (are : AreHandled number up world delivered) where
    -- it gives a message up to a device that is down
    pub gives_up : (ticket : ℕ) → ((sent : Sent) → Contains (after_answer is.operation.past ticket None) (Closed sent None) → up sent.device ≡ false) → (after : World) → Happens (GiveUp number ticket) world after
        → IsAnswering number begun up after × AreHandled number up after delivered
    gives_up ticket down after goes =
        let so = told_so world sound is ticket None down after goes in
        (so.answering, still number up world after delivered are (given-adds world after number ticket goes) (λ at sent reply has closed. so.closes at sent reply has (inl closed)))

    module _ (message : ℕ) where
      -- a request comes to its device
      handled : (at : ℕ) (sent : Sent) → numbered world.scene.messages message ≡ Some (Request at number sent) → (after : World) → Adds number world after → (may : Bool) → is_up world.scene sent.device ≡ may
          → OnScene may (Handles world.scene number sent) world after → IsAnswering number begun up after × AreHandled number up after (message ∷ delivered)
      handled at sent found after adds false is_down same = (
        idles number begun up world is after same,
        one_more number up world after delivered are adds (λ when other reply has closed. subst (λ (one : World). IsClosed (numbered one.operations number) other.ticket) (sym same) closed) message
            (numbered-within world.scene.messages message (Request at number sent) found)
            (λ when other there is_up_now.
            let same_messages : Some (Request at number sent) ≡ Some (Request when number other) = sym found ∙ there in
            let same_sent : sent ≡ other = cc in
            let both : true ≡ false = sym is_up_now ∙ ap (λ (one : Sent). up one.device) (sym same_sent) ∙ sym (is.goes.up_is sent.device) ∙ is_down in absurd (cc))
            (λ when other reply there. let same_messages : Some (Request at number sent) ≡ Some (Answer when number other reply) = sym found ∙ there in absurd (cc)),
      )
      handled at sent found after adds true is_up_now (scene, handling, same) = (
        subst (IsAnswering number begun up) (sym same) (handles number begun up world is sent (sym (is.goes.up_is sent.device) ∙ is_up_now) scene handling),
        one_more number up world after delivered are adds (λ when other reply has closed. subst (λ (one : World). IsClosed (numbered one.operations number) other.ticket) (sym same) closed) message
            (numbered-within world.scene.messages message (Request at number sent) found)
            (λ when other there up_now.
            let same_messages : Some (Request at number sent) ≡ Some (Request when number other) = sym found ∙ there in
            let same_sent : sent ≡ other = cc in (
              world.scene.now,
              handling.reply,
              subst (λ (one : World). Contains one.scene.messages (Answer world.scene.now number other handling.reply)) (sym same)
                  (subst (λ (one : Scene). Contains one.messages (Answer world.scene.now number other handling.reply)) (sym handling.after_is)
                  (subst (λ (one : Sent). Contains (world.scene.messages ++ Answer world.scene.now number sent handling.reply ∷ []) (Answer world.scene.now number one handling.reply)) same_sent
                  (Contains-push world.scene.messages (Answer world.scene.now number sent handling.reply)))),
            ))
            (λ when other reply there. let same_messages : Some (Request at number sent) ≡ Some (Answer when number other reply) = sym found ∙ there in absurd (cc)),
      )

      -- a reply comes to the operation
      replied : (at : ℕ) (sent : Sent) (reply : Reply) → numbered world.scene.messages message ≡ Some (Answer at number sent reply) → (after : World) → Adds number world after
          → TakesAnswer (numbered world.operations number) number sent.ticket (Some reply) world after → IsAnswering number begun up after × AreHandled number up after (message ∷ delivered)
      replied at sent reply found after adds goes =
          let so = told_so world sound is sent.ticket (Some reply)
          (λ one has. ⊎_elim (λ old. is.goes.missed one old) (λ new. let other : Some reply ≡ None = new.1 in absurd (cc)) (told-either is.operation.past sent.ticket (Some reply) one None has)) after goes in (
            so.answering,
            one_more number up world after delivered are adds (λ when other given has closed. so.closes when other given has (inl closed)) message (numbered-within world.scene.messages message (Answer at number sent reply) found)
                (λ when other there up_now. let same_messages : Some (Answer at number sent reply) ≡ Some (Request when number other) = sym found ∙ there in absurd (cc))
                (λ when other given there.
                let same_messages : Some (Answer at number sent reply) ≡ Some (Answer when number other given) = sym found ∙ there in
                let same_sent : sent ≡ other = cc in
                so.closes when other given (numbered-contains world.scene.messages message (Answer when number other given) there) (inr (ap (λ (one : Sent). one.ticket) (sym same_sent)))),
          )

      comes : (posted : Message) → numbered world.scene.messages message ≡ Some posted → IsOwn number posted → (after : World) → Adds number world after → Comes (Some posted) world after
          → IsAnswering number begun up after × AreHandled number up after (message ∷ delivered)
      comes (Request at operation sent) found own after adds done =
          handled at sent (subst (λ (n : ℕ). numbered world.scene.messages message ≡ Some (Request at n sent)) own found) after adds (is_up world.scene sent.device) refl
          (subst (λ (n : ℕ). OnScene (is_up world.scene sent.device) (Handles world.scene n sent) world after) own done)
      comes (Answer at operation sent reply) found own after adds goes =
          replied at sent reply (subst (λ (n : ℕ). numbered world.scene.messages message ≡ Some (Answer at n sent reply)) own found) after adds
          (subst (λ (n : ℕ). TakesAnswer (numbered world.operations n) n sent.ticket (Some reply) world after) own goes)

      -- a message of it is delivered
      pub delivers : (posted : Message) → numbered world.scene.messages message ≡ Some posted → IsOwn number posted → (after : World) → Happens (Deliver message) world after
          → IsAnswering number begun up after × AreHandled number up after (message ∷ delivered)
      delivers posted found own after goes =
          comes posted found own after (subst (λ (n : ℕ). Adds n world after) own (delivered-adds world after message posted found goes))
          (subst (λ (one : Option Message). Comes one world after) found goes)
