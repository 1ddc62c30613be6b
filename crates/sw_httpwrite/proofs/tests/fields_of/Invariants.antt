use Rattle.sw_httpwrite.specs.Answer.{AreInLines}
use Rattle.sw_httpwrite.proofs.tests.fields_of.Given as goal

abbrev pub invariant-loop-pair : goal.invariant-loop-pair
invariant-loop-pair l = AreInLines l.fields.items
