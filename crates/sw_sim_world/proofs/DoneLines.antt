-- Lines that deliver messages and give them up are done, or name nothing that there is.
use Rattle.std.proofs.Common.{◌≡◌, ◌⊎◌, ⊎_elim, ℕ, zero, suc, ◌<◌, ◌≤◌, true, true≢false, Contains, List, [], ◌∷◌, drop, length, map, slice_get, Some, None, refl, sym, ap, subst, ◌∙◌, append-nil, arith}
use Rattle.std.specs.Prelude.{⊤}
use Rattle.std.proofs.lemmas.Bool.{true_from_ne_false}
use Rattle.std.proofs.lemmas.Option.{none-some, slice_get_past, slice_get_within}
use Rattle.sw_core.specs.Event.{Deliver, Event, GiveUp, Happens}
use Rattle.sw_core.specs.World as worlds
use Rattle.sw_script.specs.declared.event.Event.TheVariants as event
use Rattle.sw_script.specs.declared.fault.LineFault.TheVariants.{NoMessage, NoOperation}
use Rattle.sw_sim_exchange.specs.declared.lines.EndLine.{EndLine}
use Rattle.sw_sim_world.specs.Leading.{DeliversFrom, DoesIt, GivesUpOpen, LeadsBy, LeadsByOne}
use Rattle.sw_sim_exchange.specs.Letters.{lines_from}
use Rattle.sw_sim_world.specs.ScriptedWorld.{AreSteps, IsAny, NoneWaits, ScriptedWorld, Step, Waits, delivered_by, events_in, open_tickets, operation_of}
use Rattle.sw_sim_world.specs.Standing.{IsKeptOf, IsLetterOf, StandsFor, WorldModel}
use Rattle.sw_sim_world.specs.Doing.{event_fault, message_fault, operation_fault}
use Rattle.sw_sim_world.specs.Unfolding.{TellsEnds}
use Rattle.sw_sim_exchange.specs.declared.letter.Letter.{Letter}
use Rattle.sw_sim_world.proofs.Leasts.{delivered-so, delivers-all}
use Rattle.sw_sim_world.proofs.MadeLines.{lines-made}
use Rattle.sw_sim_world.proofs.Messages.{delivered-adds, given-adds, more-messages}
use Rattle.sw_sim_world.proofs.Slots.{Contains-cases, item-at, past-end, zip-length}
use Rattle.sw_sim_world.proofs.Stretches.{step_of}

-- a list as long has no item of the number either
none-beside : {A B : Type 0} (xs : List A) (ys : List B) → length xs ≡ length ys → (number : ℕ) → worlds.numbered xs number ≡ None → worlds.numbered ys number ≡ None
none-beside xs ys same zero none = refl
none-beside xs ys same (suc slot) none = slice_get_past ys slot (omega (arith, same, past-end xs slot none))

module _ (model : WorldModel) (before : ScriptedWorld) (stands : StandsFor model before) where
  -- ---- one message is delivered

  -- a number that no letter has is that of no message
  pub no-message : (message : ℕ) → worlds.numbered model.letters message ≡ None → event_fault before (event.Deliver message) ≡ Some NoMessage
  no-message message none = ap message_fault (none-beside model.letters before.world.scene.messages (zip-length IsLetterOf model.letters before.world.scene.messages stands.letters) message none)

  -- and that of a letter is that of a message
  pub message-there : (slot : ℕ) → slot < length model.letters → event_fault before (event.Deliver (suc slot)) ≡ None
  message-there slot within = ap message_fault (item-at before.world.scene.messages slot (omega (arith, within, zip-length IsLetterOf model.letters before.world.scene.messages stands.letters))).1

  -- there are no fewer letters then
  pub delivered-more : (slot : ℕ) → slot < length model.letters → (new : WorldModel) (old_ends new_ends : List EndLine) → LeadsByOne (Deliver (suc slot)) before new old_ends new_ends → length model.letters ≤ length new.letters
  delivered-more slot within new old_ends new_ends one =
      let as_many = zip-length IsLetterOf model.letters before.world.scene.messages stands.letters in
      let posted = item-at before.world.scene.messages slot (omega (arith, within, as_many)) in
      let adds = delivered-adds before.world one.after.world (suc slot) posted.0 posted.1 one.is_step.happens in
      omega (arith, as_many, more-messages (operation_of posted.0) before.world one.after.world adds, zip-length IsLetterOf new.letters one.after.world.scene.messages one.stands.letters)

  -- the line is done
  pub deliver-does : (slot : ℕ) → slot < length model.letters → (new : WorldModel) (ends : List EndLine) → LeadsByOne (Deliver (suc slot)) before new [] ends
      → DoesIt (event.Deliver (suc slot)) before (record { sent = lines_from (suc (length model.letters)) (drop (length model.letters) new.letters); ends = ends; shown = [] }) new
  deliver-does slot within new ends one =
      record {
        steps = step_of (Deliver (suc slot)) one.after ∷ [];
        after = one.after;
        fine = message-there slot within;
        spare = λ spent. true≢false (sym spent.0);
        does = record {
          unfolds = refl;
          steps = (one.is_step, refl);
          tells = record {
            sent = lines-made model new before one.after stands one.stands delivered;
            ends = (one.mine, [], one.told ∙ sym (append-nil one.mine), one.ends, refl);
            shown = refl;
          };
        };
        stands = one.stands;
      }
    where
      delivered : (message : ℕ) → Contains one.after.delivered message → message ≤ length model.letters
      delivered message has = ⊎_elim
          (λ same. omega (arith, same, within))
          (λ later. stands.within message later)
          (Contains-cases (suc slot) before.delivered message (subst (λ (numbers : List ℕ). Contains numbers message) one.is_step.delivered has))

  -- ---- an operation gives up

  -- that delivers none
  given-delivered : (number : ℕ) (tickets : List ℕ) (steps : List Step) (first now : ScriptedWorld) → AreSteps first steps now → events_in steps ≡ map (GiveUp number) tickets → now.delivered ≡ first.delivered
  given-delivered number tickets [] first now same events = ap (λ (scripted : ScriptedWorld). scripted.delivered) same
  given-delivered number [] (step ∷ steps) first now are events = absurd (cc)
  given-delivered number (ticket ∷ tickets) (step ∷ steps) first now are events =
      let event_is : step.event ≡ GiveUp number ticket = cc in
      let others : events_in steps ≡ map (GiveUp number) tickets = cc in
      given-delivered number tickets steps step.after now are.1 others ∙ are.0.delivered ∙ ap (λ (event : Event). delivered_by event first.delivered) event_is

  -- nor are there fewer messages then
  given-more : (number : ℕ) (tickets : List ℕ) (steps : List Step) (first now : ScriptedWorld) → AreSteps first steps now → events_in steps ≡ map (GiveUp number) tickets → length first.world.scene.messages ≤ length now.world.scene.messages
  given-more number tickets [] first now same events = omega (arith, ap (λ (scripted : ScriptedWorld). length scripted.world.scene.messages) same)
  given-more number [] (step ∷ steps) first now are events = absurd (cc)
  given-more number (ticket ∷ tickets) (step ∷ steps) first now are events =
      let event_is : step.event ≡ GiveUp number ticket = cc in
      let others : events_in steps ≡ map (GiveUp number) tickets = cc in
      let adds = given-adds first.world step.after.world number ticket (subst (λ (event : Event). Happens event first.world step.after.world) event_is are.0.happens) in
      omega (arith, more-messages number first.world step.after.world adds, given-more number tickets steps step.after now are.1 others)

  -- there are no fewer letters then
  pub given-up-more : (number : ℕ) (new : WorldModel) (old_ends new_ends : List EndLine) → LeadsBy (GivesUpOpen number before) before new old_ends new_ends → length model.letters ≤ length new.letters
  given-up-more number new old_ends new_ends leads =
      omega (
        arith,
        zip-length IsLetterOf model.letters before.world.scene.messages stands.letters,
        given-more number (open_tickets number before) leads.steps before leads.after leads.are_steps leads.unfolded,
        zip-length IsLetterOf new.letters leads.after.world.scene.messages leads.stands.letters,
      )

  -- the line is done
  pub give-up-does : (number : ℕ) (operation : worlds.Operating) → worlds.numbered before.world.operations number ≡ Some operation → (new : WorldModel) (ends : List EndLine) → LeadsBy (GivesUpOpen number before) before new [] ends
      → DoesIt (event.GiveUp number) before (record { sent = lines_from (suc (length model.letters)) (drop (length model.letters) new.letters); ends = ends; shown = [] }) new
  give-up-does number operation there new ends leads = record {
    steps = leads.steps;
    after = leads.after;
    fine = ap operation_fault there;
    spare = λ spent. true≢false (sym spent.0);
    does = record {
      unfolds = leads.unfolded;
      steps = leads.are_steps;
      tells = record {
        sent = lines-made model new before leads.after stands leads.stands (λ message has.
            stands.within message (subst (λ (numbers : List ℕ). Contains numbers message) (given-delivered number (open_tickets number before) leads.steps before leads.after leads.are_steps leads.unfolded) has));
        ends = subst (TellsEnds before leads.steps) (sym leads.told) leads.ends;
        shown = refl;
      };
    };
    stands = leads.stands;
  }

  -- a number that is 0 or above the count is that of no operation
  pub no-operation : (number : ℕ) → (number ≡ 0) ⊎ (length model.operations < number) → event_fault before (event.GiveUp number) ≡ Some NoOperation
  no-operation number none = ap operation_fault (by_number number none)
    where
      by_number : (number : ℕ) → (number ≡ 0) ⊎ (length model.operations < number) → worlds.numbered before.world.operations number ≡ None
      by_number zero either = refl
      by_number (suc slot) either = slice_get_past before.world.operations slot
          (⊎_elim (λ none. absurd (omega (arith, none))) (λ above. omega (arith, above, zip-length IsKeptOf model.operations before.world.operations stands.operations)) either)

  -- ---- all that wait are delivered

  -- none of the first waits
  first-delivered : (message : ℕ) → message ≤ model.first → Waits IsAny before message → ⊥
  first-delivered zero below waits = none-some waits.posted waits.there
  first-delivered (suc slot) below waits =
      let letter = item-at model.letters slot (omega (arith, below, stands.first)) in
      waits.fresh ((stands.marked slot letter.0 letter.1).0 (stands.delivered slot letter.0 (omega (arith, below)) letter.1))

  module _ (new : WorldModel) (after : ScriptedWorld) (later : StandsFor new after) (none : NoneWaits IsAny after) where
    -- then each letter is marked
    each-delivered : (slot : ℕ) (letter : Letter) → slice_get new.letters slot ≡ Some letter → letter.is_delivered ≡ true
    each-delivered slot letter is =
        let as_many = zip-length IsLetterOf new.letters after.world.scene.messages later.letters in
        let posted = item-at after.world.scene.messages slot (omega (arith, as_many, slice_get_within new.letters slot letter is)) in
        true_from_ne_false letter.is_delivered
        (λ fresh. none (suc slot) (record { posted = posted.0; there = posted.1; such = refl; fresh = λ has. absurd (true≢false (sym ((later.marked slot letter is).1 has) ∙ fresh)) }))

    -- then the first that wait are behind all
    all-first : StandsFor (record new { first = length new.letters }) after
    all-first = record {
      goes_on = later.goes_on;
      events = later.events;
      run = later.run;
      cluster_is = later.cluster_is;
      clock_is = later.clock_is;
      last_is = later.last_is;
      devices = λ device member. let is = later.devices device member in record { folders = is.folders; sure = is.sure; same = is.same; is_up = is.is_up };
      letters = later.letters;
      marked = later.marked;
      within = later.within;
      first = omega arith;
      delivered = λ slot letter below is. each-delivered slot letter is;
      operations = later.operations;
      clusters = later.clusters;
      requests = later.requests;
      numbers = later.numbers;
      closed = later.closed;
    }

  -- the line is done
  pub all-does : (new : WorldModel) (ends : List EndLine) → LeadsBy (DeliversFrom model.first before) before new [] ends → DoesIt event.All before (record { sent = []; ends = ends; shown = [] }) (record new { first = length new.letters })
  all-does new ends leads =
      let as_many = zip-length IsLetterOf model.letters before.world.scene.messages stands.letters in
      let so = delivered-so IsAny (λ scripted. ⊤) model.first (λ scripted holds message messages there above. refl) (λ earlier now messages holds such adds. tt) leads.steps before leads.after tt (omega (arith, stands.first, as_many)) first-delivered leads.are_steps leads.unfolded in
      record {
        steps = leads.steps;
        after = leads.after;
        fine = refl;
        spare = λ spent. true≢false (sym spent.0);
        does = record {
          unfolds = delivers-all leads.steps before leads.after leads.are_steps so.leasts so.none;
          steps = leads.are_steps;
          tells = record { sent = refl; ends = subst (TellsEnds before leads.steps) (sym leads.told) leads.ends; shown = refl };
        };
        stands = all-first new leads.after leads.stands so.none;
      }
