use Rattle.sw_core.proofs.Machines.{numbers}
use Rattle.sw_core.proofs.laws.tickets_law.Goals as goal

pub returns : goal.returns
returns c = record { tickets = numbers }
