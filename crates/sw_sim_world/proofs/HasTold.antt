-- What a call that tells an operation an answer did: nothing where it is over or the ticket is closed, and else it went on.
use Rattle.std.proofs.Common.{◌≡◌, ℕ, ◌<◌, ◌≤◌, Bool, true, false, List, length, Option, Some, None, Result, Ok, Err, OnOk, refl, sym, ap, subst, ◌∙◌, length-set, arith}
use Rattle.sw_message.specs.Transcript.{Step, after_answer, open_at}
use Rattle.sw_message.specs.declared.reply.Reply.{Reply}
use Rattle.sw_message.specs.declared.sent.Sent.{Sent}
use Rattle.sw_operation.specs.Operating.{Begun}
use Rattle.sw_core.specs.World as worlds
use Rattle.sw_sim_exchange.specs.declared.lines.EndLine.{EndLine}
use Rattle.sw_sim_exchange.specs.Exchange.{ExchangeModel, Proceeded, slot_of}
use Rattle.sw_sim_exchange.specs.Kept.{IsAt, IsKeptAt}
use Rattle.sw_sim_exchange.specs.Work.{work_of}
use Rattle.sw_sim_world.specs.ScriptedWorld.{ScriptedWorld}
use Rattle.sw_sim_world.specs.Standing.{IsKeptOf, StandsFor, WorldModel, exchange_of}
use Rattle.sw_sim_exchange.specs.declared.operating.Operating.{Operating}
use Rattle.sw_sim_world.proofs.Slots.{numbered-some, zip-length, zip-numbered}
use Rattle.sw_sim_world.proofs.Telling.{ignored, kept-running}

pub record HasTold (number ticket : ℕ) (answer : Option Reply) (kept : Operating) (old new : WorldModel) (before after : List EndLine) : Type 0 where
  pub over : kept.op ≡ None → (new ≡ old) × (after ≡ before)
  pub closed : (begun : Begun) (past : List Step) → IsAt kept begun past → open_at ticket past ≡ None → (new ≡ old) × (after ≡ before)
  pub heard : (begun : Begun) (past : List Step) (sent : Sent) → IsAt kept begun past → open_at ticket past ≡ Some sent →
      Proceeded number begun (after_answer past ticket answer) (exchange_of old) (exchange_of new) before after × (work_of (exchange_of new) < work_of (exchange_of old))
  pub rest : new ≡ record old { letters = new.letters; operations = new.operations }

-- a world of the program with another exchange
abbrev pub with_exchange : WorldModel → ExchangeModel → WorldModel
with_exchange model exchange = record model { letters = exchange.letters; operations = exchange.operations }

-- what the exchange says of such a call is so of the world
module _ (number ticket : ℕ) (answer : Option Reply) (kept : Operating) (model : WorldModel) (old new : ExchangeModel) (before after : List EndLine) where
  -- of one that is done
  pub told-so : (kept.op ≡ None → (new ≡ old) × (after ≡ before)) → ((begun : Begun) (past : List Step) → IsAt kept begun past → open_at ticket past ≡ None → (new ≡ old) × (after ≡ before))
      → ((begun : Begun) (past : List Step) (sent : Sent) → IsAt kept begun past → open_at ticket past ≡ Some sent → Proceeded number begun (after_answer past ticket answer) old new before after × (work_of new < work_of old))
      → HasTold number ticket answer kept (with_exchange model old) (with_exchange model new) before after
  told-so over closed heard = record {
    over = λ none. (ap (with_exchange model) (over none).0, (over none).1);
    closed = λ begun past at none. let same = closed begun past at none in (ap (with_exchange model) same.0, same.1);
    heard = heard;
    rest = refl;
  }

  -- and of one that may want memory
  pub has-told : {A E : Type 0} (result : Result A E) → (kept.op ≡ None → OnOk result ((new ≡ old) × (after ≡ before)))
      → ((begun : Begun) (past : List Step) → IsAt kept begun past → open_at ticket past ≡ None → OnOk result ((new ≡ old) × (after ≡ before)))
      → ((begun : Begun) (past : List Step) (sent : Sent) → IsAt kept begun past → open_at ticket past ≡ Some sent → OnOk result (Proceeded number begun (after_answer past ticket answer) old new before after × (work_of new < work_of old)))
      → (Q : Type 0) → (HasTold number ticket answer kept (with_exchange model old) (with_exchange model new) before after → Q) → OnOk result Q
  has-told (Ok done) over closed heard Q gives = gives (told-so over closed heard)
  has-told (Err refused) over closed heard Q gives = tt

module _ (number ticket : ℕ) (answer : Option Reply) (kept : Operating) (old new : WorldModel) (before after : List EndLine) (has : HasTold number ticket answer kept old new before after) (operation : worlds.Operating) (is : IsKeptOf kept operation) where
  -- an operation that is running went on by the answer that was made
  pub went-on : (real : Option Reply) → ((sent : Sent) → open_at ticket operation.past ≡ Some sent → answer ≡ real) → worlds.numbered old.operations number ≡ Some kept → operation.is_over ≡ false
      → Proceeded number operation.begun (after_answer operation.past ticket real) (exchange_of old) (exchange_of new) before after
  went-on real same here running = by_open (open_at ticket operation.past) refl
    where
      at : IsAt kept operation.begun operation.past
      at = (kept-running kept operation is running).0.0

      by_open : (opened : Option Sent) → open_at ticket operation.past ≡ opened → Proceeded number operation.begun (after_answer operation.past ticket real) (exchange_of old) (exchange_of new) before after
      by_open None closed =
          let unchanged = has.closed operation.begun operation.past at closed in
          subst (λ (left : WorldModel). Proceeded number operation.begun (after_answer operation.past ticket real) (exchange_of old) (exchange_of left) before after) (sym unchanged.0)
          (subst (λ (ends : List EndLine). Proceeded number operation.begun (after_answer operation.past ticket real) (exchange_of old) (exchange_of old) before ends) (sym unchanged.1)
          (ignored number ticket real operation (exchange_of old) kept before here is running closed))
      by_open (Some sent) opened =
          subst (λ (given : Option Reply). Proceeded number operation.begun (after_answer operation.past ticket given) (exchange_of old) (exchange_of new) before after) (same sent opened) (has.heard operation.begun operation.past sent at opened).0

  -- one that is over did nothing
  pub did-nothing : operation.is_over ≡ true → (new ≡ old) × (after ≡ before)
  did-nothing over = has.over (subst (IsKeptAt kept operation.begun operation.past) over is.is_at)

  -- where nothing was done, no more is left to do
  unchanged-work : (new ≡ old) × (after ≡ before) → work_of (exchange_of new) ≤ work_of (exchange_of old)
  unchanged-work unchanged = omega (arith, ap (λ (model : WorldModel). work_of (exchange_of model)) unchanged.0)

  -- no more is left to do
  pub no-more-work : work_of (exchange_of new) ≤ work_of (exchange_of old)
  no-more-work = by_over operation.is_over refl
    where
      by_open : operation.is_over ≡ false → (opened : Option Sent) → open_at ticket operation.past ≡ opened → work_of (exchange_of new) ≤ work_of (exchange_of old)
      by_open running None closed = unchanged-work (has.closed operation.begun operation.past (kept-running kept operation is running).0.0 closed)
      by_open running (Some sent) opened = omega (arith, (has.heard operation.begun operation.past sent (kept-running kept operation is running).0.0 opened).1)

      by_over : (is_over : Bool) → operation.is_over ≡ is_over → work_of (exchange_of new) ≤ work_of (exchange_of old)
      by_over true over = unchanged-work (did-nothing over)
      by_over false running = by_open running (open_at ticket operation.past) refl

  -- there are as many operations
  pub told-length : length new.operations ≡ length old.operations
  told-length = by_over operation.is_over refl
    where
      unchanged : (new ≡ old) × (after ≡ before) → length new.operations ≡ length old.operations
      unchanged same = ap (λ (model : WorldModel). length model.operations) same.0

      by_open : operation.is_over ≡ false → (opened : Option Sent) → open_at ticket operation.past ≡ opened → length new.operations ≡ length old.operations
      by_open running None closed = unchanged (has.closed operation.begun operation.past (kept-running kept operation is running).0.0 closed)
      by_open running (Some sent) opened =
          let proceeded = (has.heard operation.begun operation.past sent (kept-running kept operation is running).0.0 opened).0 in
          ap (λ (store : ExchangeModel). length store.operations) proceeded.new_is ∙ length-set old.operations (slot_of number) proceeded.kept

      by_over : (is_over : Bool) → operation.is_over ≡ is_over → length new.operations ≡ length old.operations
      by_over true over = unchanged (did-nothing over)
      by_over false running = by_open running (open_at ticket operation.past) refl

-- ---- the operation of a number

pub record IsThere (model : WorldModel) (scripted : ScriptedWorld) (number : ℕ) : Type 0 where
  pub kept : Operating
  pub operation : worlds.Operating
  pub here : worlds.numbered model.operations number ≡ Some kept
  pub there : worlds.numbered scripted.world.operations number ≡ Some operation
  pub is : IsKeptOf kept operation

-- there is one of each number, and it is kept
pub operation-of : (model : WorldModel) (scripted : ScriptedWorld) → StandsFor model scripted → (number : ℕ) → 0 < number → number ≤ length model.operations → IsThere model scripted number
operation-of model scripted stands number some within =
    let kept = numbered-some model.operations number some within in
    let operation = numbered-some scripted.world.operations number some (omega (arith, within, zip-length IsKeptOf model.operations scripted.world.operations stands.operations)) in
    record {
      kept = kept.0;
      operation = operation.0;
      here = kept.1;
      there = operation.1;
      is = zip-numbered IsKeptOf model.operations scripted.world.operations stands.operations number kept.0 operation.0 kept.1 operation.1;
    }
