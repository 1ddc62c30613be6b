-- On the way of a get beside which nothing steps each device that is sure of its disk keeps its folder of the place, and replies by that.
use Rattle.std.proofs.Common.{◌≡◌, ⊎_elim, ℕ, ◌+◌, Bool, true, false, Contains, List, [], ◌∷◌, ◌++◌, length, Option, Some, None, refl, sym, ap, subst, ◌∙◌, arith}
use Rattle.std.specs.Prelude.{MatchBool}
use Rattle.std.specs.List.{All}
use Rattle.std.proofs.lemmas.Bool.{and_parts, cases_eq}
use Rattle.std.proofs.lemmas.List.Elements.{All-head, All-tail, Contains-append_cases, Contains-push_cases}
use Rattle.sw_types.specs.Name.{NameModel}
use Rattle.sw_disk.specs.Answers.{names_of}
use Rattle.sw_disk.specs.Folder.{File}
use Rattle.sw_hashpath.specs.Place.{PlaceModel, folder_of}
use Rattle.sw_hashdir.specs.Directory.{IsDirectory}
use Rattle.sw_diskfile.proofs.Lists.{Contains-none, mapped}
use Rattle.sw_ring.specs.Cluster.{ClusterModel, ids_of}
use Rattle.sw_ring.specs.Ring.{is_among}
use Rattle.sw_quorum.proofs.Places.{place_right}
use Rattle.sw_message.specs.Message.{IsMember}
use Rattle.sw_message.specs.Step.{Folders, IsNodeStep}
use Rattle.sw_message.specs.Transcript.{Closed, Step, after_answer}
use Rattle.sw_message.specs.declared.reply.Reply.{Reply}
use Rattle.sw_message.specs.declared.sent.Sent.{Sent}
use Rattle.sw_get.specs.Get as gets
use Rattle.sw_law_scene.specs.Disks.{Disk, IsFoundOn, IsSide, Sure}
use Rattle.sw_law_scene.specs.Filed.{IsFiled}
use Rattle.sw_law_scene.specs.Moves.{Handles, requests_of}
use Rattle.sw_law_scene.specs.Scene.{Answer, DeviceState, Message, Request, Scene, disk_of, is_up, known_to}
use Rattle.sw_law_scene.specs.Sound.{IsSoundScene}
use Rattle.sw_core.specs.Event.{Begins, Comes, Event, Happens, TakesAnswer, Job, OnScene, Proceeds, Start, begins, idle, with_scene}
use Rattle.sw_operation.specs.Operating.{Begun, Get as GetBegun, Head as HeadBegun}
use Rattle.sw_core.specs.Sound.{IsSoundWorld}
use Rattle.sw_core.specs.World.{Operating, World, numbered}
use Rattle.sw_core.proofs.Numbered.{numbered-contains, numbered-within, pushed-cases, replaced-cases}
use Rattle.sw_law_scene.proofs.Disks.{disk_here, disk_there}
use Rattle.sw_core.proofs.Next.{no-answer}
use Rattle.sw_law_alone.specs.Alone.{AGet, AHead, Delivers, GivesUp, IsOf, IsOwnEvent, IsReading, LeadsAlone}
use Rattle.sw_law_alone.proofs.Beginning.{get_in}
use Rattle.sw_law_alone.proofs.Events.{leads_lone}
use Rattle.sw_law_alone.proofs.Handed.{Reads}
use Rattle.sw_law_alone.proofs.Lone.{IsLone}
use Rattle.sw_law_alone.proofs.Steps.{read_only}
use Rattle.sw_law_complete.specs.Complete.{AreReady, IsDelivery}
use Rattle.sw_law_complete.proofs.AnsweredSteps.{IsAnswered, handed_answered, told_answered}
use Rattle.sw_law_complete.proofs.GetReplies.{IsTrue, says_of_found}

-- ---- the way

module _ (old : World) (ready : AreReady old.scene) (scene_sound : IsSoundScene old.scene) (name : NameModel) (number : ℕ) where
  abbrev get : gets.Begun
  get = get_in old name

  abbrev place : PlaceModel
  place = gets.place_of get

  -- a disk has the folder of the place that these folders have
  abbrev IsKept : Disk → Folders → Type 0
  IsKept disk folders = (now : Folders) × (disk ≡ Sure now) × (now (folder_of place) ≡ folders (folder_of place))

  -- Each device has the folder of the place that it had, each reply to the operation is true of that, and none of its messages is given up.
  pub record IsSettled (world : World) : Type 0 where
    pub cluster : world.scene.cluster ≡ old.scene.cluster
    pub disks : (device : ℕ) (folders : Folders) → disk_of old.scene device ≡ Sure folders → IsKept (disk_of world.scene device) folders
    pub answers : (at : ℕ) (sent : Sent) (given : Reply) → Contains world.scene.messages (Answer at number sent given) → IsTrue old.scene place sent given
    pub told : (operation : Operating) → numbered world.operations number ≡ Some operation → IsAnswered operation.past

  module _ (world : World) (settled : IsSettled world) where
    -- nothing happens
    idles : (after : World) → after ≡ idle world → IsSettled after
    idles after same = subst IsSettled (sym same) (record { cluster = settled.cluster; disks = settled.disks; answers = settled.answers; told = settled.told })

    -- the operation goes on
    proceeds : (operation : Operating) (past : List Step) → IsAnswered past → (after : World) → Proceeds world number operation past after → IsSettled after
    proceeds operation past none after goes =
        subst IsSettled (sym goes.after_is) (record {
          cluster = settled.cluster;
          disks = settled.disks;
          answers = λ at sent given has. ⊎_elim
              (λ was. settled.answers at sent given was)
              (λ new. let from = mapped (λ (one : Sent). Request world.scene.now number one) goes.sents (Answer at number sent given) new in absurd (cc))
              (Contains-append_cases world.scene.messages news (Answer at number sent given) has);
          told = λ other there. ⊎_elim
              (λ this. subst (λ (one : Operating). IsAnswered one.past) this.1 (handed_answered operation.begun goes.sents past goes.later.past goes.goes_on.handed none))
              (λ was. settled.told other was.1)
              (replaced-cases number goes.later world.operations number other there);
        })
      where
        news : List Message
        news = requests_of world.scene.now number goes.sents

    -- a device handles a request that reads the place
    module _ (sent : Sent) (reads : Reads place sent.msg) (up : is_up world.scene sent.device ≡ true) (scene : Scene) (is : Handles world.scene number sent scene) where
      member : IsMember old.scene.cluster sent.device
      member = subst (λ (cluster : ClusterModel). IsMember cluster sent.device) settled.cluster (and_parts (is_among (ids_of world.scene.cluster) sent.device) (world.scene.devices sent.device).is_up up).0

      abbrev had : Folders
      had = (ready.sure sent.device member).0

      sure : disk_of old.scene sent.device ≡ Sure had
      sure = (ready.sure sent.device member).1

      now : IsKept (disk_of world.scene sent.device) had
      now = settled.disks sent.device had sure

      found_now : is.found ≡ now.0
      found_now = subst (λ (disk : Disk). IsFoundOn world.scene.cluster sent.device disk is.found) now.1 is.finds

      same_files : is.found (folder_of place) ≡ had (folder_of place)
      same_files = ap (λ (these : Folders). these (folder_of place)) found_now ∙ now.2

      still : is.folders (folder_of place) ≡ had (folder_of place)
      still = (read_only world.scene.cluster sent.device is.step.room is.found is.folders is.reply place sent.msg reads is.step.step).0 ∙ same_files

      step : IsNodeStep old.scene.cluster sent.device is.step.room sent.msg is.found is.folders is.reply
      step = subst (λ (cluster : ClusterModel). IsNodeStep cluster sent.device is.step.room sent.msg is.found is.folders is.reply) settled.cluster is.step.step

      filed : All (IsFiled old.scene.cluster (known_to old.scene).book place) (is.found (folder_of place))
      filed = subst (All (IsFiled old.scene.cluster (known_to old.scene).book place)) (sym same_files)
          (scene_sound.filed sent.device had (subst (λ (disk : Disk). IsSide disk had) (sym sure) refl) place (place_right old.scene.cluster name))

      replies_truly : IsTrue old.scene place sent is.reply
      replies_truly =
          let says = says_of_found old.scene.cluster (known_to old.scene).book scene_sound.book place sent.device is.step.room is.found is.folders is.reply filed sent.msg reads step in
          record {
            names = says.0;
            there = record { member = member; folders = had; sure = sure; directory = subst (λ (files : List File). IsDirectory (names_of files) says.0) same_files says.1 };
            says = says.2;
          }

      handles : IsSettled (with_scene scene world)
      handles =
          let state : DeviceState = record (world.scene.devices sent.device) { disk = Sure is.folders } in
          subst (λ (after : Scene). IsSettled (with_scene after world)) (sym is.after_is) (record {
            cluster = settled.cluster;
            disks = λ device folders before. ⊎_elim
                (λ same.
                let one : folders ≡ had = sure_same folders had (sym before ∙ ap (λ (d : ℕ). disk_of old.scene d) same ∙ sure) in
                (is.folders, disk_here world.scene sent.device state device same, still ∙ ap (λ (these : Folders). these (folder_of place)) (sym one)))
                (λ apart. subst (λ (disk : Disk). IsKept disk folders) (sym (disk_there world.scene sent.device state device apart)) (settled.disks device folders before))
                (cases_eq device sent.device);
            answers = λ at other given has. ⊎_elim
                (λ was. settled.answers at other given was)
                (λ new.
                let same : sent ≡ other = cc in
                let replied : is.reply ≡ given = cc in
                subst (λ (one : Sent). IsTrue old.scene place one given) same (subst (IsTrue old.scene place sent) replied replies_truly))
                (Contains-push_cases world.scene.messages (Answer world.scene.now number sent is.reply) (Answer at number other given) has);
            told = settled.told;
          })
        where
          sure_same : (one other : Folders) → Sure one ≡ Sure other → one ≡ other
          sure_same one other same = cc

  -- ---- events

  module _ (world : World) (settled : IsSettled world) (lone : IsLone number get world) where
    -- the operation is told a reply, unless it is over
    told_by : (operation : Operating) (past : List Step) → IsAnswered past → (after : World) (is_over : Bool) → MatchBool is_over (after ≡ idle world) (Proceeds world number operation past after) → IsSettled after
    told_by operation past none after true same = idles world settled after same
    told_by operation past none after false goes = proceeds world settled operation past none after goes

    tells : (ticket : ℕ) (given : Reply) (after : World) (found : Option Operating) → numbered world.operations number ≡ found → TakesAnswer found number ticket (Some given) world after → IsSettled after
    tells ticket given after None is same = idles world settled after same
    tells ticket given after (Some operation) is goes =
        told_by operation (after_answer operation.past ticket (Some given)) (told_answered operation.past ticket given (settled.told operation is)) after operation.is_over goes

    -- a request comes to its device
    requested : (at : ℕ) (sent : Sent) → Contains world.scene.messages (Request at number sent) → (after : World) (up : Bool) → is_up world.scene sent.device ≡ up → OnScene up (Handles world.scene number sent) world after → IsSettled after
    requested at sent has after false down same = idles world settled after same
    requested at sent has after true up (scene, done, same) = subst IsSettled (sym same) (handles world settled sent (lone.requests at sent has) up scene done)

    comes : (message : ℕ) (posted : Message) → numbered world.scene.messages message ≡ Some posted → IsOf number posted → (after : World) → Comes (Some posted) world after → IsSettled after
    comes message (Request at operation sent) is own after done =
        let has = subst (λ (n : ℕ). Contains world.scene.messages (Request at n sent)) own (numbered-contains world.scene.messages message (Request at operation sent) is) in
        requested at sent has after (is_up world.scene sent.device) refl (subst (λ (n : ℕ). OnScene (is_up world.scene sent.device) (Handles world.scene n sent) world after) own done)
    comes message (Answer at operation sent given) is own after goes =
        tells sent.ticket given after (numbered world.operations number) refl
        (subst (λ (n : ℕ). TakesAnswer (numbered world.operations n) n sent.ticket (Some given) world after) own goes)

    -- a message of the operation is delivered
    happens : (event : Event) → IsOwnEvent world number event → IsDelivery event → (after : World) → Happens event world after → IsSettled after
    happens event (Delivers message posted is own) delivers after goes = comes message posted is own after (subst (λ (found : Option Message). Comes found world after) is goes)
    happens event (GivesUp ticket) none after goes = absurd none

  -- many are
  pub leads_settled : (before : World) (events : List Event) (after : World) → IsLone number get before → IsSettled before → All IsDelivery events → LeadsAlone number before events after → IsSettled after
  leads_settled before [] after lone settled delivers same = subst IsSettled (sym same) settled
  leads_settled before (event ∷ events) after lone settled delivers (own, between, goes, lead) =
      leads_settled between events after (leads_lone number get before (event ∷ []) between lone (own, between, goes, refl)) (happens before settled lone event own (All-head IsDelivery event events delivers) between goes)
      (All-tail IsDelivery event events delivers) lead

-- ---- the start

module _ (cluster : ClusterModel) (old : World) (sound : IsSoundWorld cluster old) (ready : AreReady old.scene) (name : NameModel) where
  abbrev next : ℕ
  next = length old.operations + 1

  abbrev Settled : World → Type 0
  Settled = IsSettled old ready sound.scene name next

  begins_settled : (begun : Begun) (after : World) → Begins begun old.scene old after → Settled after
  begins_settled begun after goes =
      proceeds old ready sound.scene name next (record old { operations = old.operations ++ begins begun old ∷ [] }) (record {
        cluster = refl;
        disks = λ device folders sure. (folders, sure, refl);
        answers = λ at sent given has. absurd (no-answer cluster old sound at sent given has);
        told = λ operation there. ⊎_elim
            (λ was. absurd (omega (arith, numbered-within old.operations next operation was)))
            (λ new. subst (λ (one : Operating). IsAnswered one.past) new.1 (λ sent has. Contains-none (Closed sent None) has))
            (pushed-cases old.operations (begins begun old) next operation there);
      }) (begins begun old) [] (λ sent has. Contains-none (Closed sent None) has) after goes

  -- so it is once a get of the name was started, or a head
  pub starts_settled : (job : Job) → IsReading name job → (after : World) → Happens (Start job) old after → Settled after
  starts_settled job (AGet same) after goes = begins_settled (GetBegun (get_in old name)) after goes
  starts_settled job (AHead same) after goes = begins_settled (HeadBegun (get_in old name)) after goes
