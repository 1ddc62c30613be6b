use Rattle.swift_main.proofs.Inputs.{input_is}
use Rattle.swift_main.proofs.laws.input_law.Goals as goal

pub returns : goal.returns
returns c = input_is
