-- A pass by its fields.
use Rattle.sw_daemon.specs.Standing.{PassModel}
use Rattle.sw_daemon.specs.declared.pass_op.PassOp.TheInside.{Inside}

abbrev pub pass_seen : Inside → PassModel
pass_seen pass = record {
  cluster = pass.cluster.now;
  device = pass.device;
  course = pass.course;
  stage = pass.stage;
  before = pass.before;
  count = pass.count;
}
