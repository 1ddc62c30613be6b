use Rattle.std.proofs.Common.{◌≡◌, ℕ, List, ap, subst, sym, ◌∙◌}
use Rattle.sw_view.specs.declared.event.Event.{Event}
use Rattle.sw_pass.specs.Known.{Covers, HasSlot, Held, history}
use Rattle.sw_pass.specs.Steps.{noted, old_of}
use Rattle.sw_pass.specs.declared.known.Known.{Known}
use Rattle.sw_cell.specs.Learning.{HasLearnt}
use Rattle.sw_cell.specs.Locked.{LockedModel}
use Rattle.sw_cell.specs.Standing.{HasHistory}
use Rattle.sw_cell.proofs.Closing.{has_history, pass_own, pass_same}
use Rattle.sw_cell.proofs.Joined.{learnt_after}
use Rattle.sw_cell.proofs.locked.Locked.close.Given.{Over}
use Rattle.sw_cell.proofs.locked.Locked.close.Goals as goal

-- the pass behind its note is as it was
same : (g : Over) (c : goal.After-drop-seat-inside g) → c.note.new.self.known ≡ c.args.pass.now.known
same g c = ap (λ (pass : Held). pass.known) c.note.ensures.same

first_is : (g : Over) (c : goal.After-drop-seat-inside g) → c.note.result.known ≡ noted c.note.new.self.known
first_is g c = c.note.ensures.known ∙ ap noted (sym (same g c))

-- it knows what the seat knew
told : (g : Over) (c : goal.After-drop-seat-inside g) → Covers c.note.new.self.known (old_of c.self.inside.seat.known)
told g c =
    subst (λ (pass : Known). Covers pass (old_of c.self.inside.seat.known)) (sym (same g c))
    (subst (λ (one : LockedModel g.row.D.Denot). Covers c.args.pass.now.known (old_of one.known)) (sym c.self.view_is) c.requires.told)

pub returns-clause-learnt : goal.returns-clause-learnt
returns-clause-learnt g c =
    subst (λ (pass : Known). HasLearnt g.C.OfCluster.cluster pass c.join-2.new.self.known) (same g c)
    (learnt_after c.note.new.self.known c.note-2.result.known c.join-2.new.self.known c.join-2.ensures.known g.C.OfCluster.cluster c.join-2.ensures.learnt)

pub returns-clause-same : goal.returns-clause-same
returns-clause-same g c = λ slot.
    pass_same c.note.new.self.known c.self.inside.seat.known c.note.result.known c.join.new.self.known c.note-2.result.known c.join-2.new.self.known (first_is g c) c.join.ensures.known c.note-2.ensures.known c.join-2.ensures.known
    g.C.OfCluster.cluster c.join.ensures.learnt (told g c) slot
    ∙ ap (λ (known : Known). history known.histories slot) (same g c)

pub returns-clause-whole : goal.returns-clause-whole
returns-clause-whole g c =
    let seat = c.self.inside.seat in
    subst (λ (one : LockedModel g.row.D.Denot). history c.join-2.new.self.known.histories one.slot ≡ history one.known.histories one.slot) c.self.view_is
    (sym (pass_own c.note.new.self.known seat.known c.note.result.known c.join.new.self.known c.note-2.result.known c.join-2.new.self.known (first_is g c) c.join.ensures.known c.note-2.ensures.known c.join-2.ensures.known
    g.C.OfCluster.cluster c.join.ensures.learnt (told g c) seat.slot c.join.ensures.node))

pub returns-clause-disk : goal.returns-clause-disk
returns-clause-disk g c =
    let seat = c.self.inside.seat in
    let device = ap (λ (one : LockedModel g.row.D.Denot). one.node.device) c.self.view_is in
    let own = pass_own c.note.new.self.known seat.known c.note.result.known c.join.new.self.known c.note-2.result.known c.join-2.new.self.known (first_is g c) c.join.ensures.known c.note-2.ensures.known c.join-2.ensures.known
    g.C.OfCluster.cluster c.join.ensures.learnt (told g c) seat.slot c.join.ensures.node in
    record {
      slot = seat.slot;
      at = subst (λ (id : ℕ). HasSlot g.C.OfCluster.cluster id seat.slot) device c.self.invariant.slot;
      has = subst (λ (events : List Event). HasHistory g.C.OfCluster.cluster g.D.Disk.seen c.args.self.node.device events c.unmount.result) own
          (has_history g.C.OfCluster.cluster g.D.Disk.seen (history seat.known.histories seat.slot) c.self.inside.node c.args.self.node.device c.unmount.result c.unmount.ensures device c.self.invariant.replayed c.self.invariant.counted);
    }
