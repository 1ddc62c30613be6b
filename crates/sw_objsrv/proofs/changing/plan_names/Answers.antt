use Rattle.sw_objsrv.proofs.changing.plan_names.Goals as goal

pub returns : goal.returns
returns c = record {
  purged = record { later = c.in_ok-later.later; after = c.in_ok-later.ensures; all = c.in_ok-obsolete.ensures.all; ascend = c.in_ok-obsolete.ensures.ascend };
  floor_is = c.floor.ensures;
  short = c.in_ok-obsolete.ensures.short;
}
