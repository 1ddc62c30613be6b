use Rattle.std.proofs.Common.{ℕ, ◌≤◌, subst, sym, ◌∙◌}
use Rattle.std.specs.Prelude.{option_copied}
use Rattle.sw_types.specs.Stamp.{greatest_stamp}
use Rattle.sw_message.specs.Running.{StillTells}
use Rattle.sw_pass.specs.declared.known.Known.{Known}
use Rattle.sw_local.specs.Link.{Drew, LocalModel, Spent, told_by}
use Rattle.sw_local.proofs.Drawing.{HasDrawn, HasSpent, draws, knows_drawn, knows_spent, learns_drawn, spends, tells_drawn, tells_spent}
use Rattle.sw_local.proofs.link.LocalLinkDraw.draw.Given as given
use Rattle.sw_local.proofs.link.LocalLinkDraw.draw.Goals as goal

-- ---- a stamp was drawn

abbrev before : (g : given.Over) → goal.After-units-units g → LocalModel g.row.T.Denot
before g c = record { known = c.self.inside.pass.known; clock = c.self.inside.clock.now; lost = c.self.inside.lost.items; calls = c.self.inside.calls; losses = c.self.inside.losses; refused = c.self.inside.refused; wants = c.self.inside.wants }

drawn : (g : given.Over) (c : goal.After-units-units g) → HasDrawn g.C.OfCluster.cluster g.T.Clock.shows (before g c) c.args.name.now (option_copied c.args.object) c.in-Ok.stamp c.draw.new.self.known
drawn g c = record {
  mark = c.loss_mark.result;
  found = c.loss_mark.new.self.known;
  time = c.now-time.result;
  look = record { looked = c.loss_mark.ensures.known; rises = c.loss_mark.ensures.rises; above = c.loss_mark.ensures.above; shown = c.now-time.ensures };
  drawn = (c.in-Ok.ensures {u = tt}).drawn;
  fresh = (c.in-Ok.ensures {u = tt}).fresh;
  knows = c.self.invariant.1;
  named = c.requires.name;
  is_object = c.requires.object;
  bound = subst (λ (stamp : ℕ). stamp ≤ greatest_stamp) c.units-units.ensures.value c.units-units.ensures.bound;
}

pub invariant_of-self : goal.invariant_of-self
invariant_of-self g c = ((c.in-Ok.ensures {u = tt}).table ∙ c.loss_mark.ensures.table ∙ c.self.invariant.0, knows_drawn (drawn g c))

pub returns-in-Ok-clause-draws : goal.returns-in-Ok-clause-draws
returns-in-Ok-clause-draws g c = (
  subst (λ (it : LocalModel g.row.T.Denot). Drew g.T.Clock.shows it c.args.name.now (option_copied c.args.object) c.in-Ok.stamp (record (before g c) { known = c.draw.new.self.known })) c.self.view_is (draws (drawn g c)),
  knows_drawn (drawn g c),
)

pub returns-in-Ok-clause-tells : goal.returns-in-Ok-clause-tells
returns-in-Ok-clause-tells g c =
    let after : Known = c.draw.new.self.known in
    subst (λ (it : LocalModel g.row.T.Denot). StillTells ⊥ (told_by g.C.OfCluster.cluster g.D.Disk.tells it.known) (told_by g.C.OfCluster.cluster g.D.Disk.tells after))
    c.self.view_is (tells_drawn (drawn g c) g.D.Disk.tells)

pub returns-in-Ok-clause-learns : goal.returns-in-Ok-clause-learns
returns-in-Ok-clause-learns g c = learns_drawn (drawn g c) g.D.Disk.tells

-- ---- none was

abbrev before_none : (g : given.Over) → goal.After-self-1 g → LocalModel g.row.T.Denot
before_none g c = record { known = c.self.inside.pass.known; clock = c.self.inside.clock.now; lost = c.self.inside.lost.items; calls = c.self.inside.calls; losses = c.self.inside.losses; refused = c.self.inside.refused; wants = c.self.inside.wants }

spent : (g : given.Over) (c : goal.After-self-1 g) → HasSpent g.C.OfCluster.cluster g.T.Clock.shows (before_none g c) c.draw.new.self.known
spent g c = record {
  mark = c.loss_mark.result;
  found = c.loss_mark.new.self.known;
  time = c.now-time.result;
  look = record { looked = c.loss_mark.ensures.known; rises = c.loss_mark.ensures.rises; above = c.loss_mark.ensures.above; shown = c.now-time.ensures };
  refused = (c.in-Err.ensures {u = tt}).spent;
  knows = c.self.invariant.1;
}

pub invariant_of-self-in-Err : goal.invariant_of-self-in-Err
invariant_of-self-in-Err g c = ((c.in-Err.ensures {u = tt}).table ∙ c.loss_mark.ensures.table ∙ c.self.invariant.0, knows_spent (spent g c))

pub returns-in-Err-clause-draws : goal.returns-in-Err-clause-draws
returns-in-Err-clause-draws g c = (
  subst (λ (it : LocalModel g.row.T.Denot). Spent g.T.Clock.shows it (record (before_none g c) { known = c.draw.new.self.known; refused = c.saturating_add-self-inside.result })) c.self.view_is
      (subst (λ (refused : ℕ). Spent g.T.Clock.shows (before_none g c) (record (before_none g c) { known = c.draw.new.self.known; refused = refused })) (sym c.saturating_add-self-inside.ensures) (spends (spent g c))),
  knows_spent (spent g c),
)

pub returns-in-Err-clause-tells : goal.returns-in-Err-clause-tells
returns-in-Err-clause-tells g c =
    let after : Known = c.draw.new.self.known in
    subst (λ (it : LocalModel g.row.T.Denot). StillTells ⊥ (told_by g.C.OfCluster.cluster g.D.Disk.tells it.known) (told_by g.C.OfCluster.cluster g.D.Disk.tells after))
    c.self.view_is (tells_spent (spent g c) g.D.Disk.tells)
