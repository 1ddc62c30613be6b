-- What a get beside which nothing steps was shown stays so, whatever event of its own happens, one or many.
use Rattle.std.proofs.Common.{◌≡◌, ℕ, Bool, true, false, Contains, List, [], ◌∷◌, Option, Some, None, refl, sym, subst}
use Rattle.std.specs.Prelude.{MatchBool}
use Rattle.sw_message.specs.Transcript.{Step, after_answer}
use Rattle.sw_message.specs.declared.reply.Reply.{Reply}
use Rattle.sw_get.specs.Get as gets
use Rattle.sw_law_scene.specs.Moves.{Handles}
use Rattle.sw_law_scene.specs.Scene.{Answer, Message, Request, Scene, is_up}
use Rattle.sw_core.specs.Event.{Comes, Event, Happens, TakesAnswer, OnScene, Proceeds, idle, with_scene}
use Rattle.sw_core.specs.World.{Operating, World, numbered}
use Rattle.sw_core.proofs.Numbered.{numbered-contains}
use Rattle.sw_law_alone.specs.Alone.{Delivers, GivesUp, IsOf, IsOwnEvent, LeadsAlone}
use Rattle.sw_law_alone.proofs.Lone.{IsLone, handles, idles, proceeds}

module _ (number : ℕ) (get : gets.Begun) where
  module _ (world : World) (lone : IsLone number get world) where
    -- the operation is told an answer, unless it is over
    told_by : (operation : Operating) → numbered world.operations number ≡ Some operation → (past : List Step) (after : World) (is_over : Bool) → MatchBool is_over (after ≡ idle world) (Proceeds world number operation past after)
        → IsLone number get after
    told_by operation is past after true same = idles number get world lone after same
    told_by operation is past after false goes = proceeds number get world lone operation is past after goes

    tells : (ticket : ℕ) (answer : Option Reply) (after : World) (found : Option Operating) → numbered world.operations number ≡ found → TakesAnswer found number ticket answer world after → IsLone number get after
    tells ticket answer after None is same = idles number get world lone after same
    tells ticket answer after (Some operation) is goes = told_by operation is (after_answer operation.past ticket answer) after operation.is_over goes

    -- something happens to the scene, or nothing does
    on_scene : (does : Scene → Type 0) → ((scene : Scene) → does scene → IsLone number get (with_scene scene world)) → (after : World) (may : Bool) → OnScene may does world after → IsLone number get after
    on_scene does keeps after false same = idles number get world lone after same
    on_scene does keeps after true (scene, done, same) = subst (IsLone number get) (sym same) (keeps scene done)

    -- a message of the operation comes
    comes : (message : ℕ) (posted : Message) → numbered world.scene.messages message ≡ Some posted → IsOf number posted → (after : World) → Comes (Some posted) world after → IsLone number get after
    comes message (Request at operation sent) is own after done =
        let has = subst (λ (n : ℕ). Contains world.scene.messages (Request at n sent)) own (numbered-contains world.scene.messages message (Request at operation sent) is) in
        on_scene (Handles world.scene number sent) (handles number get world lone at sent has) after (is_up world.scene sent.device)
        (subst (λ (n : ℕ). OnScene (is_up world.scene sent.device) (Handles world.scene n sent) world after) own done)
    comes message (Answer at operation sent reply) is own after goes =
        tells sent.ticket (Some reply) after (numbered world.operations number) refl
        (subst (λ (n : ℕ). TakesAnswer (numbered world.operations n) n sent.ticket (Some reply) world after) own goes)

    -- an event of it
    happens : (event : Event) → IsOwnEvent world number event → (after : World) → Happens event world after → IsLone number get after
    happens event (Delivers message posted is own) after goes = comes message posted is own after (subst (λ (found : Option Message). Comes found world after) is goes)
    happens event (GivesUp ticket) after goes = tells ticket None after (numbered world.operations number) refl goes

  -- many events
  pub leads_lone : (before : World) (events : List Event) (after : World) → IsLone number get before → LeadsAlone number before events after → IsLone number get after
  leads_lone before [] after lone same = subst (IsLone number get) (sym same) lone
  leads_lone before (event ∷ events) after lone (own, between, goes, lead) = leads_lone between events after (happens before lone event own between goes) lead
