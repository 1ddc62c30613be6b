use Rattle.std.proofs.Common.{◌≡◌, ◌<◌, ℕ, List, Some, None, slice_get, slice_index_or, slice_set, inl, inr, refl, sym, ap, subst, ◌∙◌, length}
use Rattle.std.proofs.lemmas.Result.{err_from_is_err_and}
use Rattle.sw_message.specs.Running.{IsOf}
use Rattle.sw_core.specs.World.{numbered}
use Rattle.sw_sim_exchange.specs.Exchange.{ExchangeModel}
use Rattle.sw_sim_exchange.specs.Letters.{marked}
use Rattle.sw_sim_exchange.specs.declared.letter.Letter.{Letter}
use Rattle.sw_sim_nodes.specs.Nodes.{NodesModel}
use Rattle.sw_script.specs.declared.event.Event.TheVariants as event
use Rattle.sw_script.specs.declared.fault.LineFault.TheVariants.{NoMessage}
use Rattle.sw_sim_world.specs.Doing.{request_fault}
use Rattle.sw_sim_world.specs.Leading.{DoesIt}
use Rattle.sw_sim_world.specs.ScriptedWorld.{ScriptedWorld}
use Rattle.sw_sim_world.specs.Standing.{IsLetterOf, StandsFor, WorldModel}
use Rattle.sw_sim_world.specs.WorldInside.{inner_seen}
use Rattle.sw_sim_world.specs.declared.inner.Inner.TheInside.{Inside}
use Rattle.sw_sim_world.proofs.Crashing.{CrashesOrNot, crashes-does, no-message, no-request, none-numbered}
use Rattle.sw_sim_world.proofs.Delivered.{may-call}
use Rattle.sw_sim_world.proofs.Deliveries.{with_nodes}
use Rattle.sw_sim_world.proofs.Slots.{indexed}
use Rattle.sw_sim_world.proofs.LetterMessages.{request-of}
use Rattle.sw_sim_world.proofs.Wants.{drawing-none, wanted}
use Rattle.sw_sim_world.proofs.inner.Inner.crash.Goals as goal
use Rattle.sw_sim_world.proofs.inner.Inner.crash.Goals.{else-not-is_down, then-not-is_down+in_ok-crash}

-- ---- the letter at the slot

-- what is seen of the inside stands for what the whole stands for
seen : (inside : Inside) (now : WorldModel) (before : ScriptedWorld) → inner_seen inside ≡ now → StandsFor now before → StandsFor (inner_seen inside) before
seen inside now before same stands = subst (λ (model : WorldModel). StandsFor model before) (sym same) stands

-- the letter that was read is that of the slot
found : (inside : Inside) (now : WorldModel) (letters : List Letter) (slot : ℕ) (letter : Letter) → inner_seen inside ≡ now → slot < length now.letters → letters ≡ inside.exchange.letters → letter ≡ slice_index_or letters slot letter
    → slice_get inside.exchange.letters slot ≡ Some letter
found inside now letters slot letter same within are is =
    indexed inside.exchange.letters slot letter (subst (λ (model : WorldModel). slot < length model.letters) (sym same) within) (is ∙ ap (λ (ones : List Letter). slice_index_or ones slot letter) are)

-- ---- lines that name no request

pub returns-in_err-slot-clause-faults : goal.returns-in_err-slot-clause-faults
returns-in_err-slot-clause-faults c before stands =
    let p = err_from_is_err_and c.from_residual.result c.from_residual.ensures.1 in
    let none = none-numbered IsLetterOf c.args.self.now.letters before.world.scene.messages stands.letters c.args.message c.in_err-slot.ensures.1 in
    no-message (event.Crash c.args.message c.args.calls c.args.pick) before c.from_residual.result p.0 p.1 (p.2 ∙ c.in_err-slot.ensures.0) (ap request_fault none) c.args.self.now _ refl

pub returns-in_default-clause-faults : goal.returns-in_default-clause-faults
returns-in_default-clause-faults c before stands =
    let letter = c.index-letters-slot.result in
    let here = found c.self.inside c.args.self.now c.letters.result.now c.in_ok-slot.slot letter c.self.view_is c.in_ok-slot.ensures.1 c.letters.ensures c.index-letters-slot.is in
    let none = no-request (inner_seen c.self.inside) before (seen c.self.inside c.args.self.now before c.self.view_is stands) c.in_ok-slot.slot letter here c.in_default.field-0 c.in_default.is in
    (subst (λ (message : ℕ). request_fault (numbered before.world.scene.messages message) ≡ Some NoMessage) (sym c.in_ok-slot.ensures.0) none, refl)

-- ---- what the nodes ask for

-- the letter's message may be sent to its device
asked : (c : goal.After-crash-arg-1) → IsOf c.self.inside.nodes.cluster c.index-letters-slot.result.device c.in-Request.msg
asked c =
    let letter = c.index-letters-slot.result in
    let here = found c.self.inside c.args.self.now c.letters.result.now c.in_ok-slot.slot letter c.self.view_is c.in_ok-slot.ensures.1 c.letters.ensures c.index-letters-slot.is in
    may-call (inner_seen c.self.inside) c.requires.0 (seen c.self.inside c.args.self.now c.requires.0 c.self.view_is c.requires.1) c.in_ok-slot.slot letter here c.in-Request.msg c.in-Request.is

pub crash-requires-clause-member : goal.crash-requires-clause-member
crash-requires-clause-member c = (asked c).member

pub crash-requires-clause-place : goal.crash-requires-clause-place
crash-requires-clause-place c = (asked c).place

-- ---- the crash

module _ (c : goal.After-nothing_told) where
  abbrev letter : Letter
  letter = c.index-letters-slot.result

  abbrev slot : ℕ
  slot = c.in_ok-slot.slot

  abbrev rest : WorldModel
  rest = inner_seen c.self.inside

  here : slice_get c.self.inside.exchange.letters slot ≡ Some letter
  here = found c.self.inside c.args.self.now c.letters.result.now slot letter c.self.view_is c.in_ok-slot.ensures.1 c.letters.ensures c.index-letters-slot.is

  -- with these nodes, the letter was marked
  left : (later : NodesModel) → c.if-not-is_down.self-inside ≡ record c.self.inside { nodes = later }
      → inner_seen (record c.if-not-is_down.self-inside { exchange = c.mark.new.self }) ≡ record (with_nodes rest later) { letters = slice_set c.self.inside.exchange.letters slot (marked letter) }
  left later is =
      let marks = c.mark.ensures letter (ap (λ (inside : Inside). slice_get inside.exchange.letters slot) is ∙ here) in
      ap (λ (exchange : ExchangeModel). inner_seen (record c.if-not-is_down.self-inside { exchange = exchange })) marks
      ∙ ap (λ (inside : Inside). inner_seen (record inside { exchange = record inside.exchange { letters = slice_set inside.exchange.letters slot (marked letter) } })) is

  -- and the line is done
  does : (before : ScriptedWorld) (stands : StandsFor c.args.self.now before) (later : NodesModel) → c.if-not-is_down.self-inside ≡ record c.self.inside { nodes = later }
      → CrashesOrNot c.self.inside.nodes letter.device c.in-Request.msg c.args.calls c.args.pick later
      → DoesIt (event.Crash c.args.message c.args.calls c.args.pick) before c.nothing_told.result (inner_seen (record c.if-not-is_down.self-inside { exchange = c.mark.new.self }))
  does before stands later is either =
      subst (λ (model : WorldModel). DoesIt (event.Crash c.args.message c.args.calls c.args.pick) before c.nothing_told.result model) (sym (left later is))
      (subst (λ (message : ℕ). DoesIt (event.Crash message c.args.calls c.args.pick) before c.nothing_told.result (record (with_nodes rest later) { letters = slice_set c.self.inside.exchange.letters slot (marked letter) })) (sym c.in_ok-slot.ensures.0)
      (crashes-does c.self.inside.nodes rest before (seen c.self.inside c.args.self.now before c.self.view_is stands) slot letter here c.in-Request.msg c.in-Request.is c.args.calls c.args.pick c.nothing_told.result c.nothing_told.ensures later either))

pub returns-clause-does : goal.returns-clause-does
returns-clause-does c before stands = elim c.if-not-is_down.branch [
  | then-not-is_down+in_ok-crash w ↦ does c before stands w.crash.new.self w.self-inside-is (inr (sym w.if-not-is_down.ensures, w.in_ok-crash.ensures.crashes))
  | else-not-is_down w ↦ does c before stands c.self.inside.nodes w.self-inside-is (inl (sym w.if-not-is_down.ensures, refl))
]

-- ---- memory that is wanted for it

pub returns-in_err-crash-clause-faults : goal.returns-in_err-crash-clause-faults
returns-in_err-crash-clause-faults c before stands =
    let line = event.Crash c.args.message c.args.calls c.args.pick in
    let letter = c.index-letters-slot.result in
    let there = found c.self.inside c.args.self.now c.letters.result.now c.in_ok-slot.slot letter c.self.view_is c.in_ok-slot.ensures.1 c.letters.ensures c.index-letters-slot.is in
    let ask = request-of (inner_seen c.self.inside) before (seen c.self.inside c.args.self.now before c.self.view_is stands) c.in_ok-slot.slot letter there c.in-Request.msg c.in-Request.is in
    wanted line before c.args.self.now _ c.from_residual-in_err-crash.result c.from_residual-in_err-crash.ensures.1
    (drawing-none line before (subst (λ (message : ℕ). request_fault (numbered before.world.scene.messages message) ≡ None) (sym c.in_ok-slot.ensures.0) (ap request_fault ask.made)) refl)
