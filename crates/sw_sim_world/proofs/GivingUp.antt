-- An operation that gives up its open messages, ticket by ticket: how far it is.
use Rattle.std.proofs.Common.{◌≡◌, ◌≢◌, inl, ℕ, suc, ◌+◌, ◌<◌, ◌≤◌, Bool, true, false, true≢false, if◌then◌else◌, List, [], ◌∷◌, ◌++◌, length, map, reverse, Option, Some, None, is_some, refl, sym, ap, subst, ◌∙◌, arith}
use Rattle.std.proofs.lemmas.Bool.{false_from_ne_true}
use Rattle.std.proofs.lemmas.List.{map_push}
use Rattle.sw_message.specs.Transcript.{after_answer, given, open_at, opens}
use Rattle.sw_message.specs.declared.sent.Sent.{Sent}
use Rattle.sw_core.specs.Event.{Event, GiveUp, idle}
use Rattle.sw_core.specs.World as worlds
use Rattle.sw_core.proofs.Happening.{run-sound}
use Rattle.sw_core.proofs.Transcripts.{told-given}
use Rattle.sw_sim_exchange.specs.declared.lines.EndLine.{EndLine}
use Rattle.sw_sim_world.specs.Leading.{GivesUpOpen, LeadsBy, LeadsByOne}
use Rattle.sw_sim_exchange.specs.Work.{work_of}
use Rattle.sw_sim_world.specs.ScriptedWorld.{AreSteps, ScriptedWorld, Step, events_in, open_tickets, tickets_in}
use Rattle.sw_sim_world.specs.Standing.{IsKeptOf, StandsFor, WorldModel, exchange_of}
use Rattle.sw_sim_exchange.specs.declared.operating.Operating.{Operating}
use Rattle.sw_sim_world.proofs.Closing.{handed-more, handed-same, told-other}
use Rattle.sw_sim_world.proofs.Likeness.{alike}
use Rattle.sw_sim_world.proofs.OpenTickets.{is_open, none-passing, passing, passing-less, passing-more, tickets-open}
use Rattle.sw_sim_world.proofs.Slots.{zip-numbered}
use Rattle.sw_sim_world.proofs.Stretches.{LedOn, led-one, none-led, of-kind, step_of}
use Rattle.sw_sim_world.proofs.Telling.{idle-leads, kept-running, not-told, proceeds-there, told-leads, was-idle, was-told}
use Rattle.sw_sim_world.proofs.HasTold.{HasTold, IsThere, did-nothing, no-more-work, told-length}

-- what is there where something is
some-from : {A : Type 0} (found : Option A) → is_some found ≡ true → (item : A) × (found ≡ Some item)
some-from None some = absurd (true≢false (sym some))
some-from (Some item) some = (item, refl)

-- nothing is where none is
none-from : {A : Type 0} (found : Option A) → is_some found ≡ false → found ≡ None
none-from None none = refl
none-from (Some item) none = absurd (true≢false none)

-- whether a ticket of an operation is open: none is of one that is over
abbrev pub has_open : Option worlds.Operating → (ticket : ℕ) → Bool
has_open None ticket = false
has_open (Some operation) ticket = if operation.is_over then false else is_open operation.past ticket

-- whether it is one in a world
abbrev pub open_in : (number : ℕ) → ScriptedWorld → (ticket : ℕ) → Bool
open_in number scripted ticket = has_open (worlds.numbered scripted.world.operations number) ticket

-- the open tickets are those
module _ (model : WorldModel) (scripted : ScriptedWorld) (stands : StandsFor model scripted) (number : ℕ) (operation : worlds.Operating) (there : worlds.numbered scripted.world.operations number ≡ Some operation) (count : ℕ)
    (all : operation.is_over ≡ false → count ≡ length (given operation.past)) where
  -- by whether the operation is over
  by_over : (is_over : Bool) → operation.is_over ≡ is_over
      → (if is_over then [] else reverse (map (λ (sent : Sent). sent.ticket) (opens operation.past))) ≡ passing (λ ticket. if is_over then false else is_open operation.past ticket) count
  by_over true over = sym (none-passing count)
  by_over false running =
      let sound = run-sound model.cluster stands.events scripted.world stands.run in
      tickets-open operation.begun operation.past (sound.operations number operation there).run ∙ ap (passing (is_open operation.past)) (sym (all running))

  -- the open tickets of the number are those below the count at which one is open
  tickets-passing : open_tickets number scripted ≡ passing (open_in number scripted) count
  tickets-passing = subst (λ (found : Option worlds.Operating). tickets_in found ≡ passing (has_open found) count) (sym there) (by_over operation.is_over refl)

-- ---- how far it is

-- The tickets below one were given up, those of them that were open. The others below the count are open as they were.
pub record GivingUp (number : ℕ) (before : ScriptedWorld) (ticket count : ℕ) (initial left : WorldModel) (old new : List EndLine) : Type 0 where
  pub steps : List Step
  pub now : ScriptedWorld
  pub led : LedOn before steps now left old new
  pub events : events_in steps ≡ map (GiveUp number) (passing (open_in number before) ticket)
  pub operation : worlds.Operating
  pub there : worlds.numbered now.world.operations number ≡ Some operation
  pub enough : operation.is_over ≡ false → count ≤ length (given operation.past)
  pub same : operation.is_over ≡ false → (other : ℕ) → ticket ≤ other → other < count → is_open operation.past other ≡ open_in number before other
  pub work : work_of (exchange_of left) ≤ work_of (exchange_of initial)
  pub fewer : (steps ≡ [] → ⊥) → work_of (exchange_of left) < work_of (exchange_of initial)
  pub as_many : length left.operations ≡ length initial.operations

-- at first
none-given : (model : WorldModel) (before : ScriptedWorld) → StandsFor model before → (number count : ℕ) (operation : worlds.Operating) → worlds.numbered before.world.operations number ≡ Some operation
    → (operation.is_over ≡ false → count ≡ length (given operation.past)) → (ends : List EndLine) → GivingUp number before 0 count model model ends ends
none-given model before stands number count operation there all ends = record {
  steps = [];
  now = before;
  led = none-led before model ends stands;
  events = refl;
  operation = operation;
  there = there;
  enough = λ running. omega (arith, all running);
  same = λ running other above within. subst (λ (found : Option worlds.Operating). is_open operation.past other ≡ has_open found other) (sym there)
      (ap (λ (is_over : Bool). if is_over then false else is_open operation.past other) (sym running));
  work = omega arith;
  fewer = λ some. absurd (some refl);
  as_many = refl;
}

module _ (number : ℕ) (before : ScriptedWorld) (ticket count : ℕ) (initial left : WorldModel) (old middle : List EndLine) (giving : GivingUp number before ticket count initial left old middle) where
  -- the ticket was closed
  passed : open_in number before ticket ≡ false → GivingUp number before (suc ticket) count initial left old middle
  passed closed = record {
    steps = giving.steps;
    now = giving.now;
    led = giving.led;
    events = giving.events ∙ ap (map (GiveUp number)) (sym (passing-less (open_in number before) ticket closed));
    operation = giving.operation;
    there = giving.there;
    enough = giving.enough;
    same = λ running other above within. giving.same running other (omega (arith, above)) within;
    work = giving.work;
    fewer = giving.fewer;
    as_many = giving.as_many;
  }

  -- it is given up
  module _ (opened : open_in number before ticket ≡ true) (later : WorldModel) (new : List EndLine) where
    -- the step of it is added
    gave : (one : LeadsByOne (GiveUp number ticket) giving.now later middle new) (operation : worlds.Operating) → worlds.numbered one.after.world.operations number ≡ Some operation
        → (operation.is_over ≡ false → count ≤ length (given operation.past)) → (operation.is_over ≡ false → (other : ℕ) → suc ticket ≤ other → other < count → is_open operation.past other ≡ open_in number before other)
        → work_of (exchange_of later) < work_of (exchange_of initial) → length later.operations ≡ length initial.operations → GivingUp number before (suc ticket) count initial later old new
    gave one operation there enough same less as_many = record {
      steps = giving.steps ++ step_of (GiveUp number ticket) one.after ∷ [];
      now = one.after;
      led = led-one before giving.steps giving.now left old middle giving.led later new (GiveUp number ticket) one;
      events = map_push (λ (step : Step). step.event) giving.steps (step_of (GiveUp number ticket) one.after)
          ∙ ap (λ (events : List Event). events ++ GiveUp number ticket ∷ []) giving.events
          ∙ sym (map_push (GiveUp number) (passing (open_in number before) ticket) ticket)
          ∙ ap (map (GiveUp number)) (sym (passing-more (open_in number before) ticket opened));
      operation = operation;
      there = there;
      enough = enough;
      same = same;
      work = omega (arith, less);
      fewer = λ some. less;
      as_many = as_many;
    }

    -- where nothing was given up yet, the operation is as it was, so it is running
    first-running : giving.steps ≡ [] → giving.operation.is_over ≡ false
    first-running none =
        let now_is : giving.now ≡ before = subst (λ (steps : List Step). AreSteps before steps giving.now) none giving.led.are_steps in
        let found : worlds.numbered before.world.operations number ≡ Some giving.operation = subst (λ (scripted : ScriptedWorld). worlds.numbered scripted.world.operations number ≡ Some giving.operation) now_is giving.there in
        let passes : has_open (Some giving.operation) ticket ≡ true = subst (λ (one : Option worlds.Operating). has_open one ticket ≡ true) found opened in
        false_from_ne_true giving.operation.is_over (λ over. absurd (true≢false (sym passes ∙ ap (λ (is_over : Bool). if is_over then false else is_open giving.operation.past ticket) over)))

    module _ (kept : Operating) (here : worlds.numbered left.operations number ≡ Some kept) (told_it : HasTold number ticket None kept left later middle new) where
      -- what is kept is of the operation
      is-kept : IsKeptOf kept giving.operation
      is-kept = zip-numbered IsKeptOf left.operations giving.now.world.operations giving.led.stands.operations number kept giving.operation here giving.there

      -- no more is left to do
      work-left : work_of (exchange_of later) ≤ work_of (exchange_of left)
      work-left = no-more-work number ticket None kept left later middle new told_it giving.operation is-kept

      -- less is left than at first, where some was given up before or this was open
      fewer-later : (giving.steps ≡ [] → work_of (exchange_of later) < work_of (exchange_of left)) → work_of (exchange_of later) < work_of (exchange_of initial)
      fewer-later first = by_steps giving.steps refl
        where
          by_steps : (steps : List Step) → giving.steps ≡ steps → work_of (exchange_of later) < work_of (exchange_of initial)
          by_steps [] none = omega (arith, first none, giving.work)
          by_steps (step ∷ steps) some = omega (arith, work-left, giving.fewer (λ none. let apart : step ∷ steps ≡ [] = sym some ∙ none in absurd (cc)))

      -- there are as many operations
      length-later : length later.operations ≡ length initial.operations
      length-later = told-length number ticket None kept left later middle new told_it giving.operation is-kept ∙ giving.as_many

      -- the operation is over
      gave-over : giving.operation.is_over ≡ true → GivingUp number before (suc ticket) count initial later old new
      gave-over over =
          let nothing = did-nothing number ticket None kept left later middle new told_it giving.operation is-kept over in
          let now = giving.now in
          let idled : LeadsByOne (GiveUp number ticket) now left middle middle =
          idle-leads left now giving.led.stands (GiveUp number ticket) left.letters now.delivered (alike left now giving.led.stands).post refl middle
          (not-told now.world (idle now.world) number ticket None giving.operation giving.there over refl) giving.led.stands.closed in
          let one : LeadsByOne (GiveUp number ticket) now later middle new =
          subst (λ (model : WorldModel). LeadsByOne (GiveUp number ticket) now model middle new) (sym nothing.0) (subst (λ (ends : List EndLine). LeadsByOne (GiveUp number ticket) now left middle ends) (sym nothing.1) idled) in
          let world_is = was-idle now.world one.after.world number ticket None giving.operation giving.there one.is_step.happens over in
          gave one giving.operation (subst (λ (world : worlds.World). worlds.numbered world.operations number ≡ Some giving.operation) (sym world_is) giving.there)
          (λ running. absurd (true≢false (sym over ∙ running))) (λ running. absurd (true≢false (sym over ∙ running)))
          (fewer-later (λ none. absurd (true≢false (sym over ∙ first-running none)))) length-later

      -- it is running
      gave-running : ticket < count → giving.operation.is_over ≡ false → GivingUp number before (suc ticket) count initial later old new
      gave-running below running =
          let now = giving.now in
          let operation = giving.operation in
          let at = (kept-running kept operation is-kept running).0.0 in
          let waiting = some-from (open_at ticket operation.past) (giving.same running ticket (omega arith) below ∙ opened) in
          let heard = told_it.heard operation.begun operation.past waiting.0 at waiting.1 in
          let one = told-leads left now giving.led.stands (GiveUp number ticket) left.letters now.delivered (alike left now giving.led.stands).post refl number ticket None operation giving.there running
          (λ slot when other sent reply made has. inl has) (λ after happens. happens) later middle new heard.0 told_it.rest in
          let goes = was-told now.world one.after.world number ticket None operation giving.there one.is_step.happens running in
          let past = after_answer operation.past ticket None in
          let many : count ≤ length (given past) = omega (arith, giving.enough running, ap (λ (sents : List Sent). length sents) (told-given operation.past ticket None)) in
          gave one goes.later
          (proceeds-there now.world one.after.world number operation past giving.there goes)
          (λ still. omega (arith, many, handed-more operation.begun goes.sents past goes.later.past goes.goes_on.handed))
          (λ still other above within.
          ap is_some (handed-same operation.begun goes.sents past goes.later.past other goes.goes_on.handed (omega (arith, many, within)))
          ∙ ap is_some (told-other operation.past ticket None other (λ same. absurd (omega (arith, same, above))))
          ∙ giving.same running other (omega (arith, above)) within)
          (fewer-later (λ none. heard.1)) length-later

  -- ---- one ticket more

  module _ (later : WorldModel) (new : List EndLine) (kept : Operating) (here : worlds.numbered left.operations number ≡ Some kept) (told_it : HasTold number ticket None kept left later middle new) (below : ticket < count) where
    -- what is kept is of the operation
    is-kept-now : IsKeptOf kept giving.operation
    is-kept-now = zip-numbered IsKeptOf left.operations giving.now.world.operations giving.led.stands.operations number kept giving.operation here giving.there

    -- the call did nothing
    nothing-given : (later ≡ left) × (new ≡ middle) → open_in number before ticket ≡ false → GivingUp number before (suc ticket) count initial later old new
    nothing-given nothing closed =
        subst (λ (model : WorldModel). GivingUp number before (suc ticket) count initial model old new) (sym nothing.0)
        (subst (λ (ends : List EndLine). GivingUp number before (suc ticket) count initial left old ends) (sym nothing.1) (passed closed))

    -- by whether the ticket was open, and whether the operation is over
    by_open : (opened is_over : Bool) → open_in number before ticket ≡ opened → giving.operation.is_over ≡ is_over → GivingUp number before (suc ticket) count initial later old new
    by_open true true opened over = gave-over opened later new kept here told_it over
    by_open true false opened running = gave-running opened later new kept here told_it below running
    by_open false true closed over = nothing-given (did-nothing number ticket None kept left later middle new told_it giving.operation is-kept-now over) closed
    by_open false false closed running =
        nothing-given
        (told_it.closed giving.operation.begun giving.operation.past (kept-running kept giving.operation is-kept-now running).0.0
        (none-from (open_at ticket giving.operation.past) (giving.same running ticket (omega arith) below ∙ closed)))
        closed

    -- so the next ticket is to come
    pub one-given : GivingUp number before (ticket + 1) count initial later old new
    one-given =
        let next : suc ticket ≡ ticket + 1 = omega arith in
        subst (λ (number_done : ℕ). GivingUp number before number_done count initial later old new) next (by_open (open_in number before ticket) giving.operation.is_over refl refl)

-- ---- from the first ticket to the last

-- a list of which nothing is made is empty
nothing-mapped : {A B : Type 0} (f : A → B) (items : List A) → map f items ≡ [] → items ≡ []
nothing-mapped f [] none = refl
nothing-mapped f (item ∷ items) none = absurd (cc)

module _ (model : WorldModel) (before : ScriptedWorld) (stands : StandsFor model before) (number : ℕ) (at : IsThere model before number) (count : ℕ) (counted : count ≡ length at.kept.tickets) where
  -- so many it handed out
  all-tickets : at.operation.is_over ≡ false → count ≡ length (given at.operation.past)
  all-tickets running = counted ∙ (kept-running at.kept at.operation at.is running).0.0.tickets.count

  -- its open tickets are those below the count at which one is open
  open-tickets : open_tickets number before ≡ passing (open_in number before) count
  open-tickets = tickets-passing model before stands number at.operation at.there count all-tickets

  -- at first none is given up
  pub giving-first : (ends : List EndLine) → GivingUp number before 0 count model model ends ends
  giving-first ends = none-given model before stands number count at.operation at.there all-tickets ends

  module _ (left : WorldModel) (old new : List EndLine) (giving : GivingUp number before count count model left old new) where
    -- at last all that were open are
    pub giving-last : LeadsBy (GivesUpOpen number before) before left old new
    giving-last =
        of-kind before giving.steps giving.now left old new giving.led (GivesUpOpen number before)
        (giving.events ∙ ap (map (GiveUp number)) (sym open-tickets))

    -- where there was one, less is left to do
    pub giving-fewer : open_tickets number before ≢ [] → work_of (exchange_of left) < work_of (exchange_of model)
    giving-fewer some = giving.fewer (λ none.
        let events : map (GiveUp number) (passing (open_in number before) count) ≡ [] = sym giving.events ∙ ap events_in none in
        some (open-tickets ∙ nothing-mapped (GiveUp number) (passing (open_in number before) count) events))
