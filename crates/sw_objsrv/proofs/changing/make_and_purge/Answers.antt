use Rattle.sw_objsrv.proofs.Floors.{floors_again}
use Rattle.sw_objsrv.proofs.changing.make_and_purge.Goals as goal

pub returns-clause-floors : goal.returns-clause-floors
returns-clause-floors g c =
    floors_again c.make_files-change.result c.args.place.now c.in_ok-plan.plan.floor.before c.args.floors.now.floors c.prepare.new.floors.floors c.settle.new.floors.floors
    c.in_ok-plan.ensures.before c.settle.ensures.unmade c.in_ok-plan.ensures.others c.settle.ensures.others
