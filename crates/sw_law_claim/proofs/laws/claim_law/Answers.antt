use Rattle.sw_law_claim.specs.Claim.{ATombstone}
use Rattle.sw_law_claim.proofs.Crashes.{crash_bears}
use Rattle.sw_law_claim.proofs.Normal.{normal_bears}
use Rattle.sw_law_claim.proofs.Steps.{step_bears, step_keeps, step_lists, step_stamped}
use Rattle.sw_law_claim.proofs.laws.claim_law.Goals as goal

pub returns-clause-keeps : goal.returns-clause-keeps
returns-clause-keeps c = λ cluster device room msg place before after reply claim right stamped is_place step aside borne. step_keeps cluster device room msg before after reply claim stamped place right is_place step aside borne

pub returns-clause-bears : goal.returns-clause-bears
returns-clause-bears c = λ cluster device room msg place before after reply claim about stamped step claims. step_bears cluster device room msg before after reply claim place about step stamped claims

pub returns-clause-lists : goal.returns-clause-lists
returns-clause-lists c = λ cluster device room msg place before after reply listing claim about step has borne. step_lists cluster device room msg before after reply claim place about step listing has borne

pub returns-clause-stamped : goal.returns-clause-stamped
returns-clause-stamped c = λ cluster device room msg place before after reply listing stamp about step has there.
    step_stamped cluster device room msg before after reply (record { stamp = stamp; what = ATombstone }) place about step listing has stamp there

pub returns-clause-normal : goal.returns-clause-normal
returns-clause-normal c = λ primary files normal claim is. normal_bears primary files normal is claim

pub returns-clause-crashes : goal.returns-clause-crashes
returns-clause-crashes c = crash_bears
