-- An operation that runs out: its own messages are delivered until none waits, it gives up those that are open, and so on until it is over.
use Rattle.std.proofs.Common.{◌≡◌, ◌≢◌, inr, ⊎_elim, ℕ, zero, suc, ◌<◌, ◌≤◌, false, Bool, if◌then◌else◌, ◌↔◌, Contains, List, [], ◌∷◌, ◌++◌, length, map, reverse, slice_get, Some, None, refl, sym, ap, subst, ◌∙◌, append-nil, append_assoc, arith}
use Rattle.std.proofs.lemmas.List.{length-map, length-reverse}
use Rattle.std.proofs.lemmas.Bool.{cases_lt, false_from_ne_true, true_from_ne_false}
use Rattle.std.proofs.lemmas.Option.{none-some, slice_get_within}
use Rattle.sw_message.specs.Transcript.{opens}
use Rattle.sw_message.specs.declared.sent.Sent.{Sent}
use Rattle.sw_law_scene.specs.Scene.{Answer, Message, Request}
use Rattle.sw_core.specs.Event.{Event, GiveUp, Happens}
use Rattle.sw_core.specs.World as worlds
use Rattle.sw_core.proofs.Happening.{run-sound}
use Rattle.sw_core.proofs.Numbered.{numbered-within}
use Rattle.sw_sim_exchange.specs.declared.lines.EndLine.{EndLine}
use Rattle.sw_sim_world.specs.Leading.{DeliversFrom, GivesUpOpen, LeadsBy}
use Rattle.sw_sim_exchange.specs.Kept.{IsKeptAt}
use Rattle.sw_sim_world.specs.ScriptedWorld.{AreSteps, IsOver, IsOwn, NoneWaits, ScriptedWorld, Step, delivered_by, events_in, open_tickets, operation_of, tickets_in}
use Rattle.sw_sim_world.specs.Standing.{IsKeptOf, IsLetterOf, StandsFor, WorldModel}
use Rattle.sw_sim_world.specs.Unfolding.{RunsOut}
use Rattle.sw_sim_exchange.specs.declared.letter.Letter.{Letter}
use Rattle.sw_sim_world.proofs.Leasts.{AreDelivered, NoneUpTo, delivered-so, none-still, runs-on}
use Rattle.sw_sim_world.proofs.Messages.{Adds, given-adds, message-cases, more-messages}
use Rattle.sw_sim_world.proofs.Slots.{item-at, zip-at, zip-length}
use Rattle.sw_sim_world.proofs.Stretches.{LedOn, led-more, of-kind}
use Rattle.sw_sim_world.proofs.Telling.{kept-running}
use Rattle.sw_sim_world.proofs.HasTold.{IsThere}
use Rattle.sw_sim_world.proofs.Waiting.{waits}

-- the messages above a number are those of an operation
pub record OwnFrom (number first : ℕ) (scripted : ScriptedWorld) : Type 0 where
  pub reaches : first ≤ length scripted.world.scene.messages
  pub own : (message : ℕ) (posted : Message) → worlds.numbered scripted.world.scene.messages message ≡ Some posted → IsOwn number posted → first < message
  pub others : (message : ℕ) (posted : Message) → worlds.numbered scripted.world.scene.messages message ≡ Some posted → first < message → IsOwn number posted

-- what is so once it gave up messages of these tickets
record HasGiven (number first : ℕ) (tickets : List ℕ) (from : ℕ) (before : ScriptedWorld) (steps : List Step) (now : ScriptedWorld) : Type 0 where
  runs : (rest : List Step) → RunsOut number now [] rest → RunsOut number before tickets (steps ++ rest)
  own : OwnFrom number first now
  none : NoneUpTo (IsOwn number) from now
  within : from ≤ length now.world.scene.messages
  as_many : length now.world.operations ≡ length before.world.operations

module _ (number first : ℕ) where
  -- the messages that an event of it adds are its own
  own-still : (before after : ScriptedWorld) → OwnFrom number first before → Adds number before.world after.world → OwnFrom number first after
  own-still before after own adds = record {
    reaches = omega (arith, own.reaches, more-messages number before.world after.world adds);
    own = λ message posted is mine. ⊎_elim (λ old. own.own message posted old mine) (λ new. omega (arith, own.reaches, new.0)) (message-cases number before.world after.world adds message posted is);
    others = λ message posted is above. ⊎_elim (λ old. own.others message posted old above) (λ new. new.1) (message-cases number before.world after.world adds message posted is);
  }

  -- ---- its messages are delivered

  -- as the least that waits is delivered again and again, each is its own
  own-delivered : (from : ℕ) → first ≤ from → (steps : List Step) (before now : ScriptedWorld) → OwnFrom number first before → from ≤ length before.world.scene.messages → NoneUpTo (IsOwn number) from before
      → AreSteps before steps now → DeliversFrom from before steps → AreDelivered (IsOwn number) (OwnFrom number first) before steps now
  own-delivered from reached =
      delivered-so (IsOwn number) (OwnFrom number first) from
      (λ scripted own message posted there above. own.others message posted there (omega (arith, reached, above)))
      (λ before after posted own mine adds. own-still before after own (subst (λ (n : ℕ). Adds n before.world after.world) mine adds))

  -- ---- it gives up

  -- what is so once it gave up these tickets
  given : (steps : List Step) (tickets : List ℕ) (from : ℕ) (before now : ScriptedWorld) → OwnFrom number first before → NoneUpTo (IsOwn number) from before → from ≤ length before.world.scene.messages → AreSteps before steps now
      → events_in steps ≡ map (GiveUp number) tickets → HasGiven number first tickets from before steps now
  given [] [] from before now own none within same events = subst (HasGiven number first [] from before []) (sym same) (record { runs = λ rest runs. runs; own = own; none = none; within = within; as_many = refl })
  given [] (ticket ∷ tickets) from before now own none within same events = absurd (cc)
  given (step ∷ steps) [] from before now own none within are events = absurd (cc)
  given (step ∷ steps) (ticket ∷ tickets) from before now own none within (is_step, are) events =
      let event_is : step.event ≡ GiveUp number ticket = cc in
      let others : events_in steps ≡ map (GiveUp number) tickets = cc in
      let adds = given-adds before.world step.after.world number ticket (subst (λ (event : Event). Happens event before.world step.after.world) event_is is_step.happens) in
      let delivered : before.delivered ≡ step.after.delivered = sym (is_step.delivered ∙ ap (λ (event : Event). delivered_by event before.delivered) event_is) in
      let later = given steps tickets from step.after now (own-still before step.after own adds)
      (none-still (IsOwn number) from number before step.after adds within (λ message has. subst (λ (numbers : List ℕ). Contains numbers message) delivered has) none)
      (omega (arith, within, more-messages number before.world step.after.world adds)) are others in
      record {
        runs = λ rest runs. (event_is, later.runs rest runs);
        own = later.own;
        none = later.none;
        within = later.within;
        as_many = later.as_many ∙ adds.as_many;
      }

-- ---- how far it is

-- None of its messages waits, and whatever it does then runs out.
pub record RunningOut (number : ℕ) (before : ScriptedWorld) (left : WorldModel) (old new : List EndLine) : Type 0 where
  pub first : ℕ
  pub steps : List Step
  pub now : ScriptedWorld
  pub led : LedOn before steps now left old new
  pub own : OwnFrom number first now
  pub none : NoneWaits (IsOwn number) now
  pub runs : (rest : List Step) → RunsOut number now [] rest → RunsOut number before [] (steps ++ rest)
  pub as_many : length now.world.operations ≡ length before.world.operations

-- ---- at first

-- the operation of a letter is that of its message
letter-operation : (letter : Letter) (posted : Message) → IsLetterOf letter posted → letter.operation ≡ operation_of posted
letter-operation letter (Request at number sent) is = is.0
letter-operation letter (Answer at number sent reply) is = is.0

module _ (model : WorldModel) (before : ScriptedWorld) (stands : StandsFor model before) where
  -- the letter of a message
  letter-of : (slot : ℕ) (posted : Message) → slice_get before.world.scene.messages slot ≡ Some posted → (letter : Letter) × (slice_get model.letters slot ≡ Some letter) × (letter.operation ≡ operation_of posted)
  letter-of slot posted is =
      let as_many = zip-length IsLetterOf model.letters before.world.scene.messages stands.letters in
      let letter = item-at model.letters slot (omega (arith, as_many, slice_get_within before.world.scene.messages slot posted is)) in
      (letter.0, letter.1, letter-operation letter.0 posted (zip-at IsLetterOf model.letters before.world.scene.messages stands.letters slot letter.0 posted letter.1 is))

  module _ (number first : ℕ) (each : (slot : ℕ) (letter : Letter) → slice_get model.letters slot ≡ Some letter → (letter.operation ≡ number) ↔ (first ≤ slot)) where
    -- its messages are behind the slot
    is-above : (message : ℕ) (posted : Message) → worlds.numbered before.world.scene.messages message ≡ Some posted → IsOwn number posted → first < message
    is-above zero posted none mine = absurd (none-some posted none)
    is-above (suc slot) posted is mine = let letter = letter-of slot posted is in omega (arith, (each slot letter.0 letter.1).0 (letter.2 ∙ mine))

    -- those behind the slot are its own
    is-own : (message : ℕ) (posted : Message) → worlds.numbered before.world.scene.messages message ≡ Some posted → first < message → IsOwn number posted
    is-own zero posted none above = absurd (none-some posted none)
    is-own (suc slot) posted is above = let letter = letter-of slot posted is in sym letter.2 ∙ (each slot letter.0 letter.1).1 (omega (arith, above))

    -- so it is of the world of the script
    own-from : first ≤ length model.letters → OwnFrom number first before
    own-from within = record { reaches = omega (arith, within, zip-length IsLetterOf model.letters before.world.scene.messages stands.letters); own = is-above; others = is-own }

module _ (number : ℕ) (before : ScriptedWorld) where
  -- its first messages were delivered
  first-run : (first : ℕ) (left : WorldModel) (old new : List EndLine) → OwnFrom number first before → LeadsBy (DeliversFrom first before) before left old new → RunningOut number before left old new
  first-run first left old new own leads =
      let so = own-delivered number first first (omega arith) leads.steps before leads.after own own.reaches (λ message below waits. absurd (omega (arith, below, own.own message waits.posted waits.there waits.such))) leads.are_steps leads.unfolded in
      record {
        first = first;
        steps = leads.steps;
        now = leads.after;
        led = record { are_steps = leads.are_steps; mine = leads.mine; told = leads.told; ends = leads.ends; stands = leads.stands };
        own = so.holds;
        none = so.none;
        runs = runs-on number leads.steps before leads.after leads.are_steps so.leasts;
        as_many = so.as_many;
      }

  -- where there is no message yet from there on, none is delivered
  none-behind : (first count : ℕ) → length before.world.scene.messages ≤ first → length before.world.scene.messages ≤ count → (steps : List Step) → DeliversFrom first before steps → DeliversFrom count before steps
  none-behind first count behind all [] none = λ message above waiting. absurd (omega (arith, all, above, numbered-within before.world.scene.messages message waiting.posted waiting.there))
  none-behind first count behind all (step ∷ steps) (message, least, is, rest) = absurd (omega (arith, behind, least.above, numbered-within before.world.scene.messages message least.waits.posted least.waits.there))

  -- so it is how far it is once the first messages were delivered
  pub begins-run : (model : WorldModel) (stands : StandsFor model before) (first : ℕ) → ((slot : ℕ) (letter : Letter) → slice_get model.letters slot ≡ Some letter → (letter.operation ≡ number) ↔ (first ≤ slot))
      → (left : WorldModel) (old new : List EndLine) → LeadsBy (DeliversFrom first before) before left old new → RunningOut number before left old new
  begins-run model stands first each left old new leads =
      let count = length model.letters in
      let as_many = zip-length IsLetterOf model.letters before.world.scene.messages stands.letters in
      ⊎_elim
      (λ behind.
      first-run count left old new
      (own-from model before stands number count
      (λ slot letter is. let within = slice_get_within model.letters slot letter is in ((λ mine. absurd (omega (arith, (each slot letter is).0 mine, within, behind))), (λ above. absurd (omega (arith, above, within)))))
      (omega arith))
      (record {
        steps = leads.steps;
        after = leads.after;
        are_steps = leads.are_steps;
        unfolded = none-behind first count (omega (arith, behind, as_many)) (omega (arith, as_many)) leads.steps leads.unfolded;
        mine = leads.mine;
        told = leads.told;
        ends = leads.ends;
        stands = leads.stands;
      }))
      (λ within. first-run first left old new (own-from model before stands number first each within) leads)
      (cases_lt count first)

  -- there are as many operations
  pub still-within : (model : WorldModel) (stands : StandsFor model before) (left : WorldModel) (old new : List EndLine) → RunningOut number before left old new → number ≤ length model.operations → number ≤ length left.operations
  still-within model stands left old new run within =
      omega (arith, within, run.as_many, zip-length IsKeptOf model.operations before.world.operations stands.operations, zip-length IsKeptOf left.operations run.now.world.operations run.led.stands.operations)

  -- ---- one round more

  -- it begins to give up those that are open
  begins : (now : ScriptedWorld) → NoneWaits (IsOwn number) now → (tickets : List ℕ) → open_tickets number now ≡ tickets → (tickets ≡ [] → ⊥) → (steps : List Step) → RunsOut number now tickets steps → RunsOut number now [] steps
  begins now none [] opened some steps runs = absurd (some refl)
  begins now none (ticket ∷ tickets) opened some [] runs = absurd runs
  begins now none (ticket ∷ tickets) opened some (step ∷ steps) runs = inr (none, ticket, tickets, opened, runs.0, runs.1)

  -- it gave up those that were open, and what that made was delivered
  pub one-round : (left between : WorldModel) (old middle later : List EndLine) (run : RunningOut number before left old middle) → open_tickets number run.now ≢ [] → (given_up : LeadsBy (GivesUpOpen number run.now) run.now between middle later)
      → (count : ℕ) → count ≡ length left.letters → (last : WorldModel) (new : List EndLine) → LeadsBy (DeliversFrom count given_up.after) given_up.after last later new → RunningOut number before last old new
  one-round left between old middle later run some given_up count is last new delivered =
      let as_many = zip-length IsLetterOf left.letters run.now.world.scene.messages run.led.stands.letters in
      let within : count ≤ length run.now.world.scene.messages = omega (arith, is, as_many) in
      let reached : run.first ≤ count = omega (arith, is, as_many, run.own.reaches) in
      let gave = given number run.first given_up.steps (open_tickets number run.now) count run.now given_up.after run.own (λ message below waits. run.none message waits) within given_up.are_steps given_up.unfolded in
      let so = own-delivered number run.first count reached delivered.steps given_up.after delivered.after gave.own gave.within gave.none delivered.are_steps delivered.unfolded in
      let led = led-more before run.steps run.now left old middle run.led between later (GivesUpOpen number run.now) given_up in
      record {
        first = run.first;
        steps = run.steps ++ given_up.steps ++ delivered.steps;
        now = delivered.after;
        led = led-more before (run.steps ++ given_up.steps) given_up.after between old later led last new (DeliversFrom count given_up.after) delivered;
        own = so.holds;
        none = so.none;
        runs = λ rest runs.
            let all = gave.runs (delivered.steps ++ rest) (runs-on number delivered.steps given_up.after delivered.after delivered.are_steps so.leasts rest runs) in
            subst (RunsOut number before []) (sym (append_assoc (run.steps ++ given_up.steps) delivered.steps rest ∙ append_assoc run.steps given_up.steps (delivered.steps ++ rest)))
            (run.runs (given_up.steps ++ (delivered.steps ++ rest)) (begins run.now run.none (open_tickets number run.now) refl some (given_up.steps ++ (delivered.steps ++ rest)) all));
        as_many = so.as_many ∙ gave.as_many ∙ run.as_many;
      }

  -- ---- the end

  -- it is over, and none waits
  pub ran-out : (left : WorldModel) (old new : List EndLine) (run : RunningOut number before left old new) → IsOver number run.now → LeadsBy (RunsOut number before []) before left old new
  ran-out left old new run over = of-kind before run.steps run.now left old new run.led (RunsOut number before []) (subst (RunsOut number before []) (append-nil run.steps) (run.runs [] (over, run.none)))

-- an operation that is not over has open tickets
module _ (model : WorldModel) (scripted : ScriptedWorld) (stands : StandsFor model scripted) (number : ℕ) (there : IsThere model scripted number) where
  -- for where it waits, some are open
  pub some-open : there.operation.is_over ≡ false → open_tickets number scripted ≢ []
  some-open running none =
      let operation = there.operation in
      let sound = (run-sound model.cluster stands.events scripted.world stands.run).operations number operation there.there in
      let some = waits operation.begun sound.valid operation.past sound.run (kept-running there.kept operation there.is running).1 in
      let listed : reverse (map (λ (sent : Sent). sent.ticket) (opens operation.past)) ≡ [] =
      sym (ap tickets_in there.there ∙ ap (λ (is_over : Bool). if is_over then [] else reverse (map (λ (sent : Sent). sent.ticket) (opens operation.past))) running) ∙ none in
      absurd (omega (arith, some, ap (λ (tickets : List ℕ). length tickets) listed, length-reverse (map (λ (sent : Sent). sent.ticket) (opens operation.past)), length-map (opens operation.past) (λ (sent : Sent). sent.ticket)))

  -- nothing is kept of one that is over
  pub is-over : there.kept.op ≡ None → IsOver number scripted
  is-over none = (there.operation, there.there, true_from_ne_false there.operation.is_over (λ running. absurd (none-some (kept-running there.kept there.operation there.is running).0.0.op (sym none ∙ (kept-running there.kept there.operation there.is running).0.0.goes))))

  -- and something of one that is not
  pub is-running : (there.kept.op ≡ None → ⊥) → there.operation.is_over ≡ false
  is-running some = false_from_ne_true there.operation.is_over (λ over. some (subst (IsKeptAt there.kept there.operation.begun there.operation.past) over there.is.is_at))
