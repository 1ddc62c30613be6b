use Rattle.sw_telling.specs.Telling.{TellingModel}
use Rattle.sw_telling.proofs.Tells.{with_clock}
use Rattle.sw_telling.proofs.telling.Telling.set_clock.Goals as goal

pub invariant_of-self : goal.invariant_of-self
invariant_of-self c =
    let before : TellingModel = record { nodes = c.self.inside.nodes; known = c.self.inside.known; clock = c.self.inside.clock; last = c.self.inside.last; refused = c.self.inside.refused; is_silent = c.self.inside.is_silent } in
    with_clock before c.self.invariant c.args.clock c.self.inside.refused
