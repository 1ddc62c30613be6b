-- What holds of each world on the way of an operation beside which nothing steps, and whose messages are all delivered.
use Rattle.std.proofs.Common.{◌≡◌, ⊎_elim, ℕ, ◌+◌, ◌∷◌, ◌++◌, [], Contains, List, length, Some, zero, suc, refl, sym, ap, subst, ◌∙◌}
use Rattle.std.proofs.lemmas.Bool.{cases_eq}
use Rattle.std.proofs.lemmas.List.Elements.{Contains-append_cases, Contains-push_cases}
use Rattle.std.proofs.lemmas.Option.{none-some}
use Rattle.sw_diskfile.proofs.Lists.{Contains-none, mapped}
use Rattle.sw_ring.specs.Cluster.{ClusterModel}
use Rattle.sw_message.specs.Message.{IsMember}
use Rattle.sw_message.specs.Step.{Folders}
use Rattle.sw_message.specs.Transcript.{Step, after_answer}
use Rattle.sw_message.specs.declared.message.Msg.{Msg}
use Rattle.sw_message.specs.declared.reply.Reply.{Reply}
use Rattle.sw_message.specs.declared.sent.Sent.{Sent}
use Rattle.sw_law_scene.specs.Disks.{Disk, Sure}
use Rattle.sw_law_scene.specs.Moves.{replies, requests_of, sends, ticked}
use Rattle.sw_law_scene.specs.Scene.{Answer, DeviceState, Request, Scene, disk_of, set_disk}
use Rattle.sw_core.specs.Event.{Begins, Proceeds, begins, idle, with_scene}
use Rattle.sw_operation.specs.Operating.{Begun}
use Rattle.sw_core.specs.World.{Operating, Rests, World, numbered, with_numbered}
use Rattle.sw_core.proofs.Numbered.{pushed-last}
use Rattle.sw_law_scene.proofs.Disks.{disk_here, disk_there}
use Rattle.sw_law_complete.proofs.AnsweredSteps.{IsAnswered, handed_answered, told_answered}

-- another item of a number is that of the number
replaced_at : {A : Type 0} (items : List A) (number : ℕ) (old new : A) → numbered items number ≡ Some old → numbered (with_numbered number new items) number ≡ Some new
replaced_at items zero old new is = absurd (none-some old is)
replaced_at [] (suc place) old new is = absurd (none-some old is)
replaced_at (first ∷ items) (suc zero) old new is = refl
replaced_at (first ∷ items) (suc (suc place)) old new is = replaced_at items (suc place) old new is

module _ (cluster : ClusterModel) (number : ℕ) (begun : Begun) (stamp : ℕ) (Holds : ℕ → Disk → Type 0) (Serves : ℕ → Disk → Msg → Reply → Type 0) where
  -- No stamp was drawn after that of the operation; each device holds what it may; and so does that of each reply to the operation.
  pub record IsServing (scene : Scene) : Type 0 where
    pub same_cluster : scene.cluster ≡ cluster
    pub last : scene.last ≡ Some stamp
    pub disks : (device : ℕ) → IsMember cluster device → Holds device (disk_of scene device)
    pub answers : (at : ℕ) (sent : Sent) (reply : Reply) → Contains scene.messages (Answer at number sent reply) → Serves sent.device (disk_of scene sent.device) sent.msg reply

  -- The operation has its number, rests, and gave nothing up.
  pub record IsServed (world : World) : Type 0 where
    pub scene : IsServing world.scene
    pub operation : Operating
    pub there : numbered world.operations number ≡ Some operation
    pub begun_is : operation.begun ≡ begun
    pub rests : Rests operation.begun operation.past operation.is_over
    pub answered : IsAnswered operation.past

  -- a device that handles a message holds what it may, serves still what it served, and serves that
  abbrev pub IsFine : Scene → Sent → Reply → Folders → Type 0
  IsFine scene sent reply folders =
      Holds sent.device (Sure folders) × ((msg : Msg) (given : Reply) → Serves sent.device (disk_of scene sent.device) msg given → Serves sent.device (Sure folders) msg given) × Serves sent.device (Sure folders) sent.msg reply

  -- ---- scenes

  module _ (scene : Scene) (is : IsServing scene) where
    ticked_serving : IsServing (ticked scene)
    ticked_serving = record { same_cluster = is.same_cluster; last = is.last; disks = is.disks; answers = is.answers }

    -- messages are handed out
    sends_serving : (sents : List Sent) → IsServing (sends number sents scene)
    sends_serving sents = record {
      same_cluster = is.same_cluster;
      last = is.last;
      disks = is.disks;
      answers = λ at sent reply has. ⊎_elim
          (λ old. is.answers at sent reply old)
          (λ new. let from = mapped (λ (one : Sent). Request scene.now number one) sents (Answer at number sent reply) new in absurd (cc))
          (Contains-append_cases scene.messages (requests_of scene.now number sents) (Answer at number sent reply) has);
    }

    -- a device handles one
    pub handled_serving : (sent : Sent) (reply : Reply) (folders : Folders) → IsFine scene sent reply folders → IsServing (replies number sent reply (set_disk sent.device (Sure folders) scene))
    handled_serving sent reply folders fine =
        let device = sent.device in
        let state : DeviceState = record (scene.devices device) { disk = Sure folders } in
        record {
          same_cluster = is.same_cluster;
          last = is.last;
          disks = λ other member. ⊎_elim
              (λ same. subst (λ (disk : Disk). Holds other disk) (sym (disk_here scene device state other same)) (subst (λ (d : ℕ). Holds d (Sure folders)) (sym same) fine.0))
              (λ apart. subst (λ (disk : Disk). Holds other disk) (sym (disk_there scene device state other apart)) (is.disks other member))
              (cases_eq other device);
          answers = λ at other given has. ⊎_elim
              (λ old. ⊎_elim
              (λ same.
              subst (λ (disk : Disk). Serves other.device disk other.msg given) (sym (disk_here scene device state other.device same))
              (subst (λ (d : ℕ). Serves d (Sure folders) other.msg given) (sym same)
              (fine.1 other.msg given (subst (λ (d : ℕ). Serves d (disk_of scene d) other.msg given) same (is.answers at other given old)))))
              (λ apart. subst (λ (disk : Disk). Serves other.device disk other.msg given) (sym (disk_there scene device state other.device apart)) (is.answers at other given old))
              (cases_eq other.device device))
              (λ new.
              let same : sent ≡ other = cc in
              let replied : reply ≡ given = cc in
              subst (λ (disk : Disk). Serves other.device disk other.msg given) (sym (disk_here scene device state other.device (ap (λ (one : Sent). one.device) (sym same))))
              (subst (λ (one : Sent). Serves one.device (Sure folders) one.msg given) same (subst (λ (one : Reply). Serves device (Sure folders) sent.msg one) replied fine.2)))
              (Contains-push_cases scene.messages (Answer scene.now number sent reply) (Answer at number other given) has);
        }

  -- ---- worlds

  -- the operation goes on
  proceeds : (world : World) → IsServing world.scene → (operation : Operating) → numbered world.operations number ≡ Some operation → operation.begun ≡ begun → (past : List Step) → IsAnswered past → (after : World)
      → Proceeds world number operation past after → IsServed after
  proceeds world is operation there begun_is past answered after goes =
      let same = goes.goes_on.same in
      let kept : goes.later.begun ≡ operation.begun = ap (λ (one : Operating). one.begun) same in
      subst IsServed (sym goes.after_is) (record {
        scene = sends_serving world.scene is goes.sents;
        operation = goes.later;
        there = replaced_at world.operations number operation goes.later there;
        begun_is = kept ∙ begun_is;
        rests = subst (λ (one : Begun). Rests one goes.later.past goes.later.is_over) (sym kept) goes.goes_on.rests;
        answered = handed_answered operation.begun goes.sents past goes.later.past goes.goes_on.handed answered;
      })

  -- it begins
  pub begins_served : (old : World) → length old.operations + 1 ≡ number → (scene : Scene) → IsServing scene → (after : World) → Begins begun scene old after → IsServed after
  begins_served old number_is scene is after goes =
      let started : World = record old { scene = scene; operations = old.operations ++ begins begun old ∷ [] } in
      let last = pushed-last old.operations (begins begun old) in
      proceeds started is (begins begun old) (subst (λ (n : ℕ). numbered started.operations n ≡ Some (begins begun old)) number_is last) refl [] (λ sent has. Contains-none _ has) after
      (subst (λ (n : ℕ). Proceeds started n (begins begun old) [] after) number_is goes)

  module _ (world : World) (is : IsServed world) where
    -- the scene changes alone
    pub scene_served : (scene : Scene) → IsServing scene → IsServed (with_scene scene world)
    scene_served scene serving = record { scene = serving; operation = is.operation; there = is.there; begun_is = is.begun_is; rests = is.rests; answered = is.answered }

    -- nothing happens
    pub idles : (after : World) → after ≡ idle world → IsServed after
    idles after same = subst IsServed (sym same) (scene_served (ticked world.scene) (ticked_serving world.scene is.scene))

    -- a reply comes
    pub goes_on : (ticket : ℕ) (reply : Reply) (after : World) → Proceeds world number is.operation (after_answer is.operation.past ticket (Some reply)) after → IsServed after
    goes_on ticket reply after goes =
        proceeds world is.scene is.operation is.there is.begun_is (after_answer is.operation.past ticket (Some reply)) (told_answered is.operation.past ticket reply is.answered) after goes
