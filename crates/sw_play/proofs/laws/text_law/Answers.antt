use Rattle.sw_play.proofs.OneSteps.{EventLaw}
use Rattle.sw_play.proofs.OneStory.{one_story, same_text, text_front}
use Rattle.sw_play.proofs.laws.text_law.Goals as goal

told : goal.After-event_law → EventLaw
told c = record { one = c.event_law.ensures.one; crash = c.event_law.ensures.crash; sure = c.event_law.ensures.sure }

pub returns-clause-same : goal.returns-clause-same
returns-clause-same c = λ cluster lines one other text others rules x y.
    same_text cluster lines one other text others x y (one_story (told c) cluster lines x.story y.story one other x.after y.after rules x.plays y.plays)

pub returns-clause-front : goal.returns-clause-front
returns-clause-front c = λ cluster lines one other text others rules x y.
    text_front cluster lines one other text others x y (one_story (told c) cluster lines x.story y.story one other x.after y.after rules x.plays y.plays)

pub returns-clause-story : goal.returns-clause-story
returns-clause-story c = λ cluster. one_story (told c) cluster
