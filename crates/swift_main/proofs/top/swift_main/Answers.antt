use Rattle.std.proofs.Common.{refl}
use Rattle.swift_main.specs.declared.status.Status.TheVariants.{NoMemory}
use Rattle.swift_main.proofs.Refused.{refused}
use Rattle.swift_main.proofs.top.swift_main.Goals as goal

pub returns-in-Err-clause-does : goal.returns-in-Err-clause-does
returns-in-Err-clause-does g c = (NoMemory, c.code-in-Err.ensures, refused _ _ _ _ _ (refl, refl))
