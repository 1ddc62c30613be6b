use Rattle.std.proofs.Common.{◌∙◌, sym}
use Rattle.sw_play.proofs.OneSteps.{empty_reached}
use Rattle.sw_load.proofs.Alike.{one_summary}
use Rattle.sw_load.proofs.laws.summary_law.Goals as goal

pub returns : goal.returns
returns c = λ cluster events one other rules x y.
    x.counted
    ∙ one_summary (record { one = c.event_law.ensures.one; crash = c.event_law.ensures.crash; sure = c.event_law.ensures.sure }) cluster events _ x.story y.story x.after y.after _ (empty_reached cluster rules) x.does y.does
    ∙ sym y.counted
