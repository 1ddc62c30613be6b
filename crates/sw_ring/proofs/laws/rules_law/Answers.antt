use Rattle.sw_ring.proofs.NoFault.{no_fault}
use Rattle.sw_ring.proofs.Soundness.{sound}
use Rattle.sw_ring.proofs.Witness.{witness}
use Rattle.sw_ring.proofs.laws.rules_law.Goals as goal

pub returns-clause-no_fault : goal.returns-clause-no_fault
returns-clause-no_fault c = no_fault

pub returns-clause-sound : goal.returns-clause-sound
returns-clause-sound c = sound

pub returns-clause-witness : goal.returns-clause-witness
returns-clause-witness c = witness
