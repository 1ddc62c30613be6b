-- What holds of each world on the way of an operation beside which nothing steps: the devices that are up, its messages, and its answers.
use Rattle.std.proofs.Common.{◌≡◌, ⊎_elim, ℕ, ◌+◌, ◌==◌, ◌&&◌, Bool, true, false, Contains, List, [], ◌∷◌, ◌++◌, length, Some, None, refl, sym, ap, subst, ◌∙◌, eq-eqb, ne_eqb}
use Rattle.std.specs.Prelude.{⊤}
use Rattle.std.proofs.lemmas.Bool.{cases_eq, cond-false, cond-true}
use Rattle.std.proofs.lemmas.List.Elements.{Contains-append_cases, Contains-append_left, Contains-append_right, Contains-push_cases}
use Rattle.sw_diskfile.proofs.Lists.{Contains-map, Contains-none, mapped}
use Rattle.sw_ring.specs.Cluster.{ClusterModel, ids_of}
use Rattle.sw_ring.specs.Ring.{is_among}
use Rattle.sw_message.specs.Step.{Folders}
use Rattle.sw_message.specs.Table.{AskListed, Handling}
use Rattle.sw_message.specs.Transcript.{Closed, Step, given}
use Rattle.sw_message.specs.declared.message.Msg.{Msg}
use Rattle.sw_message.specs.declared.message.Msg.TheVariants as message
use Rattle.sw_message.specs.declared.reply.Reply.{Reply}
use Rattle.sw_message.specs.declared.reply.Reply.TheVariants as reply
use Rattle.sw_message.specs.declared.sent.Sent.{Sent}
use Rattle.sw_law_scene.specs.Devices.{IsDeviceStep}
use Rattle.sw_law_scene.specs.Disks.{Disk, Sure}
use Rattle.sw_law_scene.specs.Moves.{Handles, requests_of}
use Rattle.sw_law_scene.specs.Scene.{Answer, DeviceState, Message, Request, Scene, is_up, set_disk}
use Rattle.sw_core.specs.Event.{Begins, Proceeds, begins, idle, with_scene}
use Rattle.sw_operation.specs.Operating.{Begun}
use Rattle.sw_core.specs.World.{Operating, World, numbered}
use Rattle.sw_core.proofs.Numbered.{pushed-last}
use Rattle.sw_sim_world.proofs.Slots.{replaced-at}
use Rattle.sw_play.proofs.OpenMessages.{handed-given, handed-told}

-- ---- answers

-- it is what a folder has
abbrev pub IsHeld : Reply → Type 0
IsHeld (reply.Held listing) = ⊤
IsHeld other = ⊥

-- so is the answer to a message that asks for that
abbrev pub Answers : Msg → Reply → Type 0
Answers (message.Ask place) answer = IsHeld answer
Answers other answer = ⊤

-- as each device answers
answers_so : (cluster : ClusterModel) (device : ℕ) (msg : Msg) (answer : Reply) (before after : Folders) → IsDeviceStep cluster device msg answer before after → Answers msg answer
answers_so cluster device (message.Ask place) answer before after is = elim is.step.handled [
  | AskListed listing lists same ↦ subst IsHeld (sym (is.step.replied ∙ ap (λ (one : Handling). one.reply) same)) tt
]
answers_so cluster device (message.PutFrag place stamp index bytes) answer before after is = tt
answers_so cluster device (message.Commit place stamp index) answer before after is = tt
answers_so cluster device (message.Delete place stamp) answer before after is = tt
answers_so cluster device (message.Fetch place stamp index) answer before after is = tt
answers_so cluster device (message.Remove place stamp index) answer before after is = tt
answers_so cluster device message.Parts answer before after is = tt
answers_so cluster device (message.Suffixes part) answer before after is = tt
answers_so cluster device (message.Places part) answer before after is = tt

-- ---- devices

-- a device is up or down as before where the disk of one is another
up_still : (scene : Scene) (device : ℕ) (disk : Disk) (other : ℕ) → is_up (set_disk device disk scene) other ≡ is_up scene other
up_still scene device disk other =
    let state : DeviceState = record (scene.devices device) { disk = disk } in
    ap (λ (up : Bool). is_among (ids_of scene.cluster) other && up) (⊎_elim
    (λ same.
    ap (λ (one : DeviceState). one.is_up) (cond-true (other == device) state (scene.devices other) (eq-eqb other device same))
    ∙ ap (λ (one : ℕ). (scene.devices one).is_up) (sym same))
    (λ apart. ap (λ (one : DeviceState). one.is_up) (cond-false (other == device) state (scene.devices other) (ne_eqb other device apart)))
    (cases_eq other device))

-- ---- worlds

module _ (number : ℕ) (begun : Begun) (up : ℕ → Bool) where
  -- The same devices are up. The operation of the number was begun so, and each message that a transcript of it handed out was made. A
  -- reply to it is of a device that is up, and answers as devices do; and each message that was given up is to a device that is not.
  pub record IsGoing (world : World) (operation : Operating) (past : List Step) : Type 0 where
    pub up_is : (device : ℕ) → is_up world.scene device ≡ up device
    pub there : numbered world.operations number ≡ Some operation
    pub begun_is : operation.begun ≡ begun
    pub made : (sent : Sent) → Contains (given past) sent → (at : ℕ) × Contains world.scene.messages (Request at number sent)
    pub answers : (at : ℕ) (sent : Sent) (reply : Reply) → Contains world.scene.messages (Answer at number sent reply) → (up sent.device ≡ true) × Answers sent.msg reply
    pub missed : (sent : Sent) → Contains past (Closed sent None) → up sent.device ≡ false

  -- so it is of its own transcript
  pub record IsAnswering (world : World) : Type 0 where
    pub operation : Operating
    pub goes : IsGoing world operation operation.past

  module _ (world : World) (is : IsAnswering world) where
    -- nothing happens
    pub idles : (after : World) → after ≡ idle world → IsAnswering after
    idles after same =
        let goes = is.goes in
        subst IsAnswering (sym same) (record {
          operation = is.operation;
          goes = record { up_is = goes.up_is; there = goes.there; begun_is = goes.begun_is; made = goes.made; answers = goes.answers; missed = goes.missed };
        })

    -- a device that is up handles a request
    pub handles : (sent : Sent) → up sent.device ≡ true → (scene : Scene) → Handles world.scene number sent scene → IsAnswering (with_scene scene world)
    handles sent is_up_now scene handling =
        let given_now = Answer world.scene.now number sent handling.reply in
        subst (λ (after : Scene). IsAnswering (with_scene after world)) (sym handling.after_is) (record {
          operation = is.operation;
          goes = record {
            up_is = λ device. up_still world.scene sent.device (Sure handling.folders) device ∙ is.goes.up_is device;
            there = is.goes.there;
            begun_is = is.goes.begun_is;
            made = λ one has. let was = is.goes.made one has in (was.0, Contains-append_left world.scene.messages (given_now ∷ []) (Request was.0 number one) was.1);
            answers = λ at other reply has. ⊎_elim
                (λ old. is.goes.answers at other reply old)
                (λ new.
                let same : sent ≡ other = cc in
                let replied : handling.reply ≡ reply = cc in
                subst (λ (one : Sent). (up one.device ≡ true) × Answers one.msg reply) same
                (is_up_now, subst (Answers sent.msg) replied (answers_so world.scene.cluster sent.device sent.msg handling.reply handling.found handling.folders handling.step)))
                (Contains-push_cases world.scene.messages given_now (Answer at number other reply) has);
            missed = is.goes.missed;
          };
        })

  -- ---- an operation goes on

  -- so it is then, too
  pub proceeds : (world : World) (operation : Operating) (past : List Step) → IsGoing world operation past → (after : World) → Proceeds world number operation past after → IsAnswering after
  proceeds world operation past is after goes =
      let kept : goes.later.begun ≡ operation.begun = ap (λ (one : Operating). one.begun) goes.goes_on.same in
      subst IsAnswering (sym goes.after_is) (record {
        operation = goes.later;
        goes = record {
          up_is = is.up_is;
          there = replaced-at world.operations number operation goes.later is.there;
          begun_is = kept ∙ is.begun_is;
          made = λ sent has. ⊎_elim
              (λ old. let was = is.made sent old in (was.0, Contains-append_left world.scene.messages news (Request was.0 number sent) was.1))
              (λ new. (world.scene.now, Contains-append_right world.scene.messages news (Request world.scene.now number sent) (Contains-map (λ (one : Sent). Request world.scene.now number one) goes.sents sent new)))
              (handed-given operation.begun goes.sents past goes.later.past goes.goes_on.handed sent has);
          answers = λ at sent reply has. ⊎_elim
              (λ old. is.answers at sent reply old)
              (λ new. let from = mapped (λ (one : Sent). Request world.scene.now number one) goes.sents (Answer at number sent reply) new in absurd (cc))
              (Contains-append_cases world.scene.messages news (Answer at number sent reply) has);
          missed = λ sent has. is.missed sent (handed-told operation.begun goes.sents past goes.later.past goes.goes_on.handed sent None has);
        };
      })
    where
      news : List Message
      news = requests_of world.scene.now number goes.sents

  -- ---- it begins

  -- where no reply to its number was made, and the scene has the same devices and messages
  pub begins_so : (old : World) → number ≡ length old.operations + 1 → ((device : ℕ) → is_up old.scene device ≡ up device) → ((at : ℕ) (sent : Sent) (reply : Reply) → Contains old.scene.messages (Answer at number sent reply) → ⊥)
      → (scene : Scene) → ((device : ℕ) → is_up scene device ≡ is_up old.scene device) → scene.messages ≡ old.scene.messages → (after : World) → Begins begun scene old after → IsAnswering after
  begins_so old number_is up_is unanswered scene same_up same_messages after goes =
      let last = pushed-last old.operations (begins begun old) in
      proceeds (record old { scene = scene; operations = old.operations ++ begins begun old ∷ [] }) (begins begun old) [] (record {
        up_is = λ device. same_up device ∙ up_is device;
        there = subst (λ (n : ℕ). numbered (old.operations ++ begins begun old ∷ []) n ≡ Some (begins begun old)) (sym number_is) last;
        begun_is = refl;
        made = λ sent has. absurd (Contains-none sent has);
        answers = λ at sent reply has. absurd (unanswered at sent reply (subst (λ (messages : List Message). Contains messages (Answer at number sent reply)) same_messages has));
        missed = λ sent has. absurd (Contains-none (Closed sent None) has);
      }) after (subst (λ (n : ℕ). Proceeds (record old { scene = scene; operations = old.operations ++ begins begun old ∷ [] }) n (begins begun old) [] after) (sym number_is) goes)
