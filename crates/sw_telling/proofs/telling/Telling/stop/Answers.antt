use Rattle.sw_telling.specs.Telling.{TellingModel}
use Rattle.sw_telling.proofs.Tells.{with_stopped}
use Rattle.sw_telling.proofs.telling.Telling.stop.Goals as goal

pub invariant_of-self : goal.invariant_of-self
invariant_of-self c =
    let before : TellingModel = record { nodes = c.self.inside.nodes; known = c.self.inside.known; clock = c.self.inside.clock; last = c.self.inside.last; refused = c.self.inside.refused; is_silent = c.self.inside.is_silent } in
    with_stopped before c.self.invariant c.stop.new.self c.args.device c.stop.result c.stop.ensures.stops c.stop.ensures.refused
