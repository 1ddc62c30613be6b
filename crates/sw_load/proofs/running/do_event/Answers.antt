use Rattle.sw_load.proofs.Progress.{only_memory}
use Rattle.sw_load.proofs.running.do_event.Goals as goal

pub only_memory-requires : goal.only_memory-requires
only_memory-requires c =
    let may = c.requires.may in
    only_memory c.args.event.now may.0 c.in-Err.fault c.args.world.now c.step.new.self may.2 (c.in-Err.ensures.faults may.0 may.1)
