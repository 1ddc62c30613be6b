-- What holds of each world on the way of a get beside which nothing steps: what it was shown is there still.
use Rattle.std.proofs.Common.{◌≡◌, ⊎_elim, ℕ, Contains, List, Some, sym, ap, subst, ◌∙◌}
use Rattle.std.proofs.lemmas.Bool.{cases_eq}
use Rattle.std.proofs.lemmas.List.Elements.{Contains-append_cases, Contains-push_cases}
use Rattle.sw_diskfile.proofs.Lists.{mapped}
use Rattle.sw_message.specs.Transcript.{Step}
use Rattle.sw_message.specs.declared.reply.Reply.{Reply}
use Rattle.sw_message.specs.declared.sent.Sent.{Sent}
use Rattle.sw_get.specs.Get as gets
use Rattle.sw_law_scene.specs.Disks.{Disk, Sure}
use Rattle.sw_law_scene.specs.Moves.{Handles, requests_of}
use Rattle.sw_law_scene.specs.Scene.{Answer, DeviceState, Message, Request, Scene, disk_of, set_device}
use Rattle.sw_core.specs.Event.{Proceeds, idle, with_scene}
use Rattle.sw_operation.specs.Operating.{IsGetOf}
use Rattle.sw_core.specs.World.{Operating, World, numbered}
use Rattle.sw_core.proofs.Numbered.{replaced-cases}
use Rattle.sw_law_scene.proofs.Disks.{disk_here, disk_there}
use Rattle.sw_law_alone.proofs.Handed.{Reads, hands_reads}
use Rattle.sw_law_alone.proofs.Shown.{Tells, tells_on}
use Rattle.sw_law_alone.proofs.Steps.{read_only}

module _ (number : ℕ) (get : gets.Begun) where
  -- The operation of the number is the get, or a head; each request of it reads the place's folder; and what a reply to it shows is that
  -- of the device's folder.
  pub record IsLone (world : World) : Type 0 where
    pub begun : (operation : Operating) → numbered world.operations number ≡ Some operation → IsGetOf operation.begun get
    pub requests : (at : ℕ) (sent : Sent) → Contains world.scene.messages (Request at number sent) → Reads (gets.place_of get) sent.msg
    pub answers : (at : ℕ) (sent : Sent) (reply : Reply) → Contains world.scene.messages (Answer at number sent reply) → Tells (gets.place_of get) (disk_of world.scene sent.device) sent.msg reply

  module _ (world : World) (lone : IsLone world) where
    -- nothing happens
    pub idles : (after : World) → after ≡ idle world → IsLone after
    idles after same = subst IsLone (sym same) (record { begun = lone.begun; requests = lone.requests; answers = lone.answers })

    -- the operation goes on
    pub proceeds : (operation : Operating) → numbered world.operations number ≡ Some operation → (past : List Step) (after : World) → Proceeds world number operation past after → IsLone after
    proceeds operation is past after goes =
        subst IsLone (sym goes.after_is) (record {
          begun = λ other there. ⊎_elim
              (λ this. subst (λ (one : Operating). IsGetOf one.begun get) (sym goes.goes_on.same ∙ this.1) (lone.begun operation is))
              (λ old. lone.begun other old.1)
              (replaced-cases number goes.later world.operations number other there);
          requests = λ at sent has. ⊎_elim
              (λ old. lone.requests at sent old)
              (λ new.
              let from = mapped (λ (one : Sent). Request world.scene.now number one) goes.sents (Request at number sent) new in
              let same : from.0 ≡ sent = cc in
              hands_reads get operation.begun (lone.begun operation is) goes.sents past goes.later.past goes.goes_on.handed sent (subst (Contains goes.sents) same from.1))
              (Contains-append_cases world.scene.messages news (Request at number sent) has);
          answers = λ at sent reply has. ⊎_elim
              (λ old. lone.answers at sent reply old)
              (λ new. let from = mapped (λ (one : Sent). Request world.scene.now number one) goes.sents (Answer at number sent reply) new in absurd (cc))
              (Contains-append_cases world.scene.messages news (Answer at number sent reply) has);
        })
      where
        news : List Message
        news = requests_of world.scene.now number goes.sents

    -- a device handles a request
    pub handles : (at : ℕ) (sent : Sent) → Contains world.scene.messages (Request at number sent) → (scene : Scene) → Handles world.scene number sent scene → IsLone (with_scene scene world)
    handles at sent has scene is =
        let place = gets.place_of get in
        let device = sent.device in
        let given = Answer world.scene.now number sent is.reply in
        let state : DeviceState = record (world.scene.devices device) { disk = Sure is.folders } in
        let read = read_only world.scene.cluster device is.step.room is.found is.folders is.reply place sent.msg (lone.requests at sent has) is.step.step in
        let here : (other : ℕ) → other ≡ device → Sure is.folders ≡ disk_of (set_device device state world.scene) other = λ other same. sym (disk_here world.scene device state other same) in
        subst (λ (after : Scene). IsLone (with_scene after world)) (sym is.after_is) (record {
          begun = lone.begun;
          requests = λ when other there. ⊎_elim (λ old. lone.requests when other old) (λ new. absurd (cc)) (Contains-push_cases world.scene.messages given (Request when number other) there);
          answers = λ when other reply there. ⊎_elim
              (λ old. ⊎_elim
              (λ same.
              let was = subst (λ (d : ℕ). Tells place (disk_of world.scene d) other.msg reply) same (lone.answers when other reply old) in
              subst (λ (disk : Disk). Tells place disk other.msg reply) (here other.device same)
              (tells_on place world.scene.cluster device (disk_of world.scene device) is.found is.folders is.finds read.0 other.msg reply was))
              (λ apart. subst (λ (disk : Disk). Tells place disk other.msg reply) (sym (disk_there world.scene device state other.device apart)) (lone.answers when other reply old))
              (cases_eq other.device device))
              (λ new.
              let same : sent ≡ other = cc in
              let replied : is.reply ≡ reply = cc in
              subst (λ (disk : Disk). Tells place disk other.msg reply) (here other.device (ap (λ (one : Sent). one.device) (sym same)))
              (subst (λ (one : Sent). Tells place (Sure is.folders) one.msg reply) same
              (subst (λ (one : Reply). Tells place (Sure is.folders) sent.msg one) replied read.1)))
              (Contains-push_cases world.scene.messages given (Answer when number other reply) there);
        })
