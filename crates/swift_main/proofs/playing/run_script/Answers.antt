use Rattle.sw_sim_world.specs.ScriptedWorld.{empty_script}
use Rattle.sw_play.specs.declared.playing.PlayEnd.TheVariants as ended
use Rattle.swift_main.proofs.Outcomes.{script_answers}
use Rattle.swift_main.proofs.playing.run_script.Goals as goal

pub returns-in-Done : goal.returns-in-Done
returns-in-Done c stands =
    script_answers c.args.world.now.cluster c.args.script.now ended.Done c.play.new.world c.new-text.result c.play.new.text c.finish.result c.new-text.ensures
    (c.in-Done.ensures.played (empty_script c.args.world.now.cluster) stands) c.finish.ensures.done c.finish.ensures.no_memory

pub returns-in-Line : goal.returns-in-Line
returns-in-Line c stands =
    script_answers c.args.world.now.cluster c.args.script.now (ended.Line c.in-Line.line c.in-Line.fault) c.play.new.world c.new-text.result c.play.new.text c.finish-in-Line.result c.new-text.ensures
    (c.in-Line.ensures.played (empty_script c.args.world.now.cluster) stands) c.finish-in-Line.ensures.done c.finish-in-Line.ensures.no_memory

pub returns-in-Spent : goal.returns-in-Spent
returns-in-Spent c stands =
    script_answers c.args.world.now.cluster c.args.script.now (ended.Spent c.in-Spent.line) c.play.new.world c.new-text.result c.play.new.text c.finish-in-Spent.result c.new-text.ensures
    (c.in-Spent.ensures.played (empty_script c.args.world.now.cluster) stands) c.finish-in-Spent.ensures.done c.finish-in-Spent.ensures.no_memory

pub returns-in-NoMemory : goal.returns-in-NoMemory
returns-in-NoMemory c stands =
    script_answers c.args.world.now.cluster c.args.script.now ended.NoMemory c.play.new.world c.new-text.result c.play.new.text c.finish-in-NoMemory.result c.new-text.ensures
    (c.in-NoMemory.ensures.played (empty_script c.args.world.now.cluster) stands) c.finish-in-NoMemory.ensures.done c.finish-in-NoMemory.ensures.no_memory
