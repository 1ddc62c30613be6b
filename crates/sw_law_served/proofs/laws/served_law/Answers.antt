use Rattle.sw_law_served.proofs.Answers.{shows_soundly}
use Rattle.sw_law_served.proofs.Lost.{answers_lost}
use Rattle.sw_law_served.proofs.laws.served_law.Goals as goal

pub returns-clause-shows : goal.returns-clause-shows
returns-clause-shows g c = λ cluster request before after result may answers. shows_soundly cluster g.T.Clock.shows request before after may result answers

pub returns-clause-lost : goal.returns-clause-lost
returns-clause-lost g c = λ cluster tells request before after result answers. answers_lost cluster tells g.T.Clock.shows request before after result answers
