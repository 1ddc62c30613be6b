use Rattle.std.proofs.Common.{◌≡◌, ℕ, false, List, ap, sym, ◌∙◌}
use Rattle.sw_serve.specs.Soundly.{fresh_link}
use Rattle.sw_serve.proofs.Soundly.{serves_soundly}
use Rattle.sw_serve.proofs.connection.serve_connection.Goals as goal

pub returns-clause-serves : goal.returns-clause-serves
returns-clause-serves g c =
    let link = c.new-link.result in
    let fresh : link ≡ fresh_link link.known c.args.clock.now =
    c.new-link.ensures.rest ∙ ap (λ (lost : List ℕ). record { known = link.known; clock = c.args.clock.now; lost = lost; calls = 0; losses = 0; refused = 0; wants = false }) c.new.ensures.items in
    serves_soundly g.C.OfCluster.cluster g.D.Disk.tells g.T.Clock.shows c.args.clock.now _ _ _ _ _ _ c.args.pass.known link.known link c.serve_over-end.result c.serve_over-end.new.link c.finish.result.known c.new-link.ensures.learnt fresh
    (sym c.finish.ensures.known) (rw c.cluster.ensures at c.serve_over-end.ensures.serves)
