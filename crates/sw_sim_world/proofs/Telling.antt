-- Answers that come to an operation, and idle steps: how they lead a world on.
use Rattle.std.proofs.Common.{◌≡◌, ◌⊎◌, ℕ, suc, Bool, true, false, Contains, MatchBool, List, [], length, slice_get, Option, Some, None, refl, sym, ap, ap₂, subst, ◌∙◌, append-nil}
use Rattle.std.specs.List.{AllZip}
use Rattle.std.proofs.lemmas.Bool.{MatchBool-at_false, MatchBool-at_true}
use Rattle.std.proofs.lemmas.List.Elements.{All-nil}
use Rattle.sw_message.specs.Running.{IsOf}
use Rattle.sw_message.specs.Transcript.{Step, after_answer, closed_by, open_at}
use Rattle.sw_message.specs.declared.reply.Reply.{Reply}
use Rattle.sw_message.specs.declared.sent.Sent.{Sent}
use Rattle.sw_law_scene.specs.Scene.{Answer}
use Rattle.sw_core.specs.Event.{Event, Happens, TakesAnswer, Proceeds, idle}
use Rattle.sw_operation.specs.Operating.{cluster_of}
use Rattle.sw_core.specs.World as worlds
use Rattle.sw_sim_exchange.specs.declared.lines.EndLine.{EndLine}
use Rattle.sw_sim_world.specs.Leading.{LeadsByOne}
use Rattle.sw_sim_exchange.specs.Exchange.{ExchangeModel, Proceeded, slot_of}
use Rattle.sw_sim_exchange.specs.Kept.{IsKeptAt}
use Rattle.sw_sim_world.specs.ScriptedWorld.{ScriptedWorld, delivered_by}
use Rattle.sw_sim_world.specs.Standing.{IsKeptOf, StandsFor, WorldModel, exchange_of}
use Rattle.sw_sim_world.specs.Unfolding.{Ended, TellsEnd}
use Rattle.sw_sim_exchange.specs.declared.letter.Letter.{Letter}
use Rattle.sw_sim_exchange.specs.declared.operating.Operating.{Operating}
use Rattle.sw_sim_world.proofs.Ended.{none_ended}
use Rattle.sw_sim_world.proofs.Ends.{ended-one, told-end}
use Rattle.sw_sim_world.proofs.Going.{alike-then, at_later, closed-then, gone_on, grown, proceeds, ready-told}
use Rattle.sw_sim_world.proofs.Likeness.{AreClosed, IsLike, leads}
use Rattle.sw_sim_world.proofs.Slots.{at-numbered, put-same, replaced-at}
use Rattle.sw_sim_world.proofs.Posts.{IsPost}

-- ---- what happens to an operation that is told an answer

module _ (world after : worlds.World) (number ticket : ℕ) (answer : Option Reply) (operation : worlds.Operating) (there : worlds.numbered world.operations number ≡ Some operation) where
  -- one that is running goes on
  pub is-told : operation.is_over ≡ false → Proceeds world number operation (after_answer operation.past ticket answer) after → TakesAnswer (worlds.numbered world.operations number) number ticket answer world after
  is-told running goes =
      subst (λ (found : Option worlds.Operating). TakesAnswer found number ticket answer world after) (sym there)
      (subst (λ (is_over : Bool). MatchBool is_over (after ≡ idle world) (Proceeds world number operation (after_answer operation.past ticket answer) after)) (sym running) goes)

  -- one that is over takes none
  pub not-told : operation.is_over ≡ true → after ≡ idle world → TakesAnswer (worlds.numbered world.operations number) number ticket answer world after
  not-told over same =
      subst (λ (found : Option worlds.Operating). TakesAnswer found number ticket answer world after) (sym there)
      (subst (λ (is_over : Bool). MatchBool is_over (after ≡ idle world) (Proceeds world number operation (after_answer operation.past ticket answer) after)) (sym over) same)

-- and what happened, where one was told
module _ (world after : worlds.World) (number ticket : ℕ) (answer : Option Reply) (operation : worlds.Operating) (there : worlds.numbered world.operations number ≡ Some operation)
    (happened : TakesAnswer (worlds.numbered world.operations number) number ticket answer world after) where
  -- by what that operation is
  by_there : MatchBool operation.is_over (after ≡ idle world) (Proceeds world number operation (after_answer operation.past ticket answer) after)
  by_there = subst (λ (found : Option worlds.Operating). TakesAnswer found number ticket answer world after) there happened

  -- one that was running went on
  pub was-told : operation.is_over ≡ false → Proceeds world number operation (after_answer operation.past ticket answer) after
  was-told running = MatchBool-at_false (after ≡ idle world) (Proceeds world number operation (after_answer operation.past ticket answer) after) running by_there

  -- of one that was over nothing changed but time
  pub was-idle : operation.is_over ≡ true → after ≡ idle world
  was-idle over = MatchBool-at_true (after ≡ idle world) (Proceeds world number operation (after_answer operation.past ticket answer) after) over by_there

-- it stands at its number then
pub proceeds-there : (world after : worlds.World) (number : ℕ) (operation : worlds.Operating) (past : List Step) → worlds.numbered world.operations number ≡ Some operation → (goes : Proceeds world number operation past after)
    → worlds.numbered after.operations number ≡ Some goes.later
proceeds-there world after number operation past there goes = ap (λ (one : worlds.World). worlds.numbered one.operations number) goes.after_is ∙ replaced-at world.operations number operation goes.later there

-- what is kept of an operation that is running
pub kept-running : (kept : Operating) (operation : worlds.Operating) → IsKeptOf kept operation → operation.is_over ≡ false → IsKeptAt kept operation.begun operation.past false × worlds.Rests operation.begun operation.past false
kept-running kept operation is running = (
  subst (IsKeptAt kept operation.begun operation.past) running is.is_at,
  subst (worlds.Rests operation.begun operation.past) running is.rests,
)

-- an answer to a ticket that is not open changes nothing
pub ignored : (number ticket : ℕ) (answer : Option Reply) (operation : worlds.Operating) (store : ExchangeModel) (kept : Operating) (ends : List EndLine) → worlds.numbered store.operations number ≡ Some kept → IsKeptOf kept operation
    → operation.is_over ≡ false → open_at ticket operation.past ≡ None → Proceeded number operation.begun (after_answer operation.past ticket answer) store store ends ends
ignored number ticket answer operation store kept ends here is running closed =
    let waits = kept-running kept operation is running in
    let same : operation.past ≡ after_answer operation.past ticket answer = sym (ap (closed_by operation.past answer) closed) in
    record {
      sents = [];
      later = after_answer operation.past ticket answer;
      is_over = false;
      handed = refl;
      rests = subst (λ (past : List Step). worlds.Rests operation.begun past false) same waits.1;
      each = All-nil (λ (sent : Sent). IsOf (cluster_of operation.begun) sent.device sent.msg);
      kept = kept;
      is_kept = subst (λ (past : List Step). IsKeptAt kept operation.begun past false) same waits.0;
      new_is = stored (sym (append-nil store.letters)) (sym (put-same store.operations (slot_of number) kept (at-numbered store.operations number kept here)));
      mine = [];
      ends = sym (append-nil ends);
      told = refl;
    }
  where
    stored : {letters : List Letter} {operations : List Operating} → store.letters ≡ letters → store.operations ≡ operations → store ≡ record { letters = letters; operations = operations }
    stored letters operations = ap₂ (λ (a : List Letter) (b : List Operating). record { letters = a; operations = b }) letters operations

-- ---- how that leads a world on

module _ (model : WorldModel) (before : ScriptedWorld) (stands : StandsFor model before) (event : Event) (letters : List Letter) (delivered : List ℕ) (post : IsPost model.cluster letters model.first (length model.operations) before.world.scene.messages delivered)
    (is_delivered : delivered ≡ delivered_by event before.delivered) where
  module _ (number ticket : ℕ) (answer : Option Reply) (operation : worlds.Operating) (there : worlds.numbered before.world.operations number ≡ Some operation) (running : operation.is_over ≡ false)
      (either : (slot at other : ℕ) (sent : Sent) (reply : Reply) → slice_get before.world.scene.messages slot ≡ Some (Answer at other sent reply) → Contains delivered (suc slot)
      → Contains before.delivered (suc slot) ⊎ ((other ≡ number) × (sent.ticket ≡ ticket)))
      (happens : (after : worlds.World) → TakesAnswer (worlds.numbered before.world.operations number) number ticket answer before.world after → Happens event before.world after) where
    -- an operation that is running goes on
    pub told-leads : (new : WorldModel) (old_ends new_ends : List EndLine) → Proceeded number operation.begun (after_answer operation.past ticket answer) (exchange_of (record model { letters = letters })) (exchange_of new) old_ends new_ends
        → new ≡ record model { letters = new.letters; operations = new.operations } → LeadsByOne event before new old_ends new_ends
    told-leads new old_ends new_ends proceeded rest =
        let middle : WorldModel = record model { letters = letters } in
        let scripted : ScriptedWorld = record before { delivered = delivered } in
        let past = after_answer operation.past ticket answer in
        let ready = ready-told model before stands letters delivered post number ticket answer operation there running either in
        let later = at_later operation proceeded.later proceeded.is_over in
        let after = gone_on scripted number proceeded.sents later in
        let goes = proceeds middle scripted number operation past ready (exchange_of new) old_ends new_ends proceeded in
        let path : new ≡ grown middle number proceeded.sents proceeded.kept = rest ∙ ap (λ (store : ExchangeModel). record model { letters = store.letters; operations = store.operations }) proceeded.new_is in
        subst (λ (left : WorldModel). LeadsByOne event before left old_ends new_ends) (sym path)
        (leads model before stands event (grown middle number proceeded.sents proceeded.kept) after refl (happens after.world (is-told before.world after.world number ticket answer operation there running goes))
        (alike-then middle scripted number operation past ready (exchange_of new) old_ends new_ends proceeded) (closed-then middle scripted number operation past ready (exchange_of new) old_ends new_ends proceeded)
        proceeded.mine old_ends new_ends is_delivered proceeded.ends
        (subst (λ (ended : List Ended). AllZip TellsEnd ended proceeded.mine) (sym (ended-one later number before.world.operations operation there running))
        (told-end later number proceeded.is_over proceeded.mine proceeded.told)))

  -- ---- nothing changes but time, and what was delivered

  -- that leads it on by an idle step
  pub idle-leads : (ends : List EndLine) → Happens event before.world (idle before.world) → AreClosed before.world.scene.messages delivered before.world.operations → LeadsByOne event before (record model { letters = letters }) ends ends
  idle-leads ends happens closed =
      let after : ScriptedWorld = record { world = idle before.world; delivered = delivered } in
      let like : IsLike (record model { letters = letters }) after = record {
        goes_on = stands.goes_on;
        cluster_is = stands.cluster_is;
        clock_is = stands.clock_is;
        last_is = stands.last_is;
        devices = λ device member. let is = stands.devices device member in record { folders = is.folders; sure = is.sure; same = is.same; is_up = is.is_up };
        post = post;
        operations = stands.operations;
        clusters = stands.clusters;
      } in
      leads model before stands event (record model { letters = letters }) after refl happens like closed [] ends ends is_delivered (sym (append-nil ends))
      (subst (λ (ended : List Ended). AllZip TellsEnd ended []) (sym (none_ended 1 before.world.operations)) tt)
