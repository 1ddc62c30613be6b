use Rattle.sw_law_scene.proofs.Filed.{filed, genuine}
use Rattle.sw_law_scene.proofs.laws.filed_law.Goals as goal

pub returns-clause-filed : goal.returns-clause-filed
returns-clause-filed c = λ cluster learnt device msg reply before after sound were right warranted handled. filed cluster learnt device msg reply before after sound were right warranted handled

pub returns-clause-genuine : goal.returns-clause-genuine
returns-clause-genuine c = λ cluster learnt device msg reply before after sound were right handled. genuine cluster learnt device msg reply before after sound were right handled
