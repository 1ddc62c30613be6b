use Rattle.std.proofs.Common.{◌+◌, ◌<◌, List, ℕ, length, refl, sym, ◌∙◌, ap, subst, arith}
use Rattle.std.specs.Option.{option_copied}
use Rattle.sw_script.specs.Line.{lines_of}
use Rattle.sw_script.specs.declared.fault.LineFault.{LineFault}
use Rattle.sw_play.specs.Lines.{StopsLine}
use Rattle.sw_play.specs.Play.{Played}
use Rattle.sw_play.specs.declared.playing.LineStop.{LineStop}
use Rattle.sw_play.specs.declared.playing.PlayEnd.TheVariants.{Line, NoMemory, Spent}
use Rattle.sw_play.proofs.Cuts.{IsCounted, copied_some, first_line, lines_left, one_line_more}
use Rattle.sw_play.proofs.Progress.{Progress, line_done, none_done, played_done, played_line, played_part, played_spent}
use Rattle.sw_play.proofs.playing.play.Goals as goal

pub lines-init : goal.lines-init
lines-init c = record {
  cluster = refl;
  counted = omega arith;
  progress = λ before stands. none_done before c.args.world.now c.args.text.now (lines_of c.args.input.now) stands;
}

pub lines-preserved : goal.lines-preserved
lines-preserved c =
    let all = lines_of c.args.input.now in
    let script = c.in-Some.script.now in
    let line = c.cut_at.result.0.now in
    let after = option_copied c.cut_at.result.1 in
    let lines = first_line c.lines.left c.in-Some.script line after c.in-Some.is c.cut_at.ensures.cut in
    record {
      cluster = c.in-Ok.ensures.cluster ∙ c.lines.invariant.cluster;
      counted =
          one_line_more c.lines.number (length c.args.input.now) script line after
          (subst (λ text. IsCounted c.lines.number (length c.args.input.now) text) (ap option_copied c.in-Some.is) c.lines.invariant.counted)
          (copied_some (λ rest. length line + length rest < length script) c.cut_at.result.1 c.cut_at.ensures.shorter);
      progress = λ before stands.
          let progress = subst (λ texts. Progress before c.lines.world c.args.text.now c.lines.text c.lines.number texts all) lines (c.lines.invariant.progress before stands) in
          line_done before c.lines.world c.do_line.new.world c.args.text.now c.lines.text c.do_line.new.text c.lines.number line (lines_left after) all progress (c.in-Ok.ensures.ok progress.after progress.stands);
    }

pub returns-in-Err-Fault-clause-played : goal.returns-in-Err-Fault-clause-played
returns-in-Err-Fault-clause-played c before stands =
    let all = lines_of c.args.input.now in
    let line = c.cut_at.result.0.now in
    let after = option_copied c.cut_at.result.1 in
    let lines = first_line c.lines.left c.in-Some.script line after c.in-Some.is c.cut_at.ensures.cut in
    let progress = c.lines.invariant.progress before stands in
    let stops = subst (λ (stop : LineStop). StopsLine progress.after line stop c.lines.world c.do_line.new.world) c.in-Err-Fault.field-0-is (c.in-Err-Fault.ensures.stops progress.after progress.stands) in
    subst (λ (fault : LineFault). Played before all (Line (c.lines.number + 1) fault) c.do_line.new.world c.args.text.now c.do_line.new.text) (sym c.in-Err-Fault.fault-is)
    (subst (λ (text : List ℕ). Played before all (Line (c.lines.number + 1) c.in-Err-Fault.fault) c.do_line.new.world c.args.text.now text) (sym c.in-Err-Fault.ensures.text)
    (played_line before c.lines.world c.args.text.now c.lines.text c.lines.number (lines_left (option_copied c.lines.left)) all progress line (lines_left after) lines c.do_line.new.world c.in-Err-Fault.fault stops))

pub returns-in-Err-Spent-clause-played : goal.returns-in-Err-Spent-clause-played
returns-in-Err-Spent-clause-played c before stands =
    let all = lines_of c.args.input.now in
    let line = c.cut_at.result.0.now in
    let after = option_copied c.cut_at.result.1 in
    let lines = first_line c.lines.left c.in-Some.script line after c.in-Some.is c.cut_at.ensures.cut in
    let progress = c.lines.invariant.progress before stands in
    let stops = subst (λ (stop : LineStop). StopsLine progress.after line stop c.lines.world c.do_line.new.world) c.in-Err-Spent.field-0-is (c.in-Err-Spent.ensures.stops progress.after progress.stands) in
    subst (λ (text : List ℕ). Played before all (Spent (c.lines.number + 1)) c.do_line.new.world c.args.text.now text) (sym c.in-Err-Spent.ensures.text)
    (played_spent before c.lines.world c.args.text.now c.lines.text c.lines.number (lines_left (option_copied c.lines.left)) all progress line (lines_left after) lines c.do_line.new.world stops)

pub returns-in-Err-NoMemory-clause-played : goal.returns-in-Err-NoMemory-clause-played
returns-in-Err-NoMemory-clause-played c before stands =
    let all = lines_of c.args.input.now in
    let wants = c.in-Err-NoMemory.ensures.wants c.in-Err-NoMemory.field-0-is in
    subst (λ (text : List ℕ). Played before all NoMemory c.do_line.new.world c.args.text.now text) (sym c.in-Err-NoMemory.ensures.text)
    (played_part before c.lines.world c.args.text.now c.lines.text c.lines.number (lines_left (option_copied c.lines.left)) all (c.lines.invariant.progress before stands) c.do_line.new.world wants)

pub returns-clause-played : goal.returns-clause-played
returns-clause-played c before stands =
    let all = lines_of c.args.input.now in
    played_done before c.lines.world c.args.text.now c.lines.text c.lines.number (lines_left (option_copied c.lines.left)) all (c.lines.invariant.progress before stands)
    (ap (λ left. lines_left (option_copied left)) c.in_default.is)
