use Rattle.std.proofs.lemmas.Bool.{false≢true}
use Rattle.sw_hashdir.proofs.Obsoletes.{obsolete_below}
use Rattle.sw_hashdir.proofs.obsolete.is_obsolete.Goals as goal

pub returns-then-is_primary : goal.returns-then-is_primary
returns-then-is_primary c =
    obsolete_below c.args.names.now c.args.floor.now c.args.name.now c.args.is_primary c.is_below_floor.result c.requires.name c.requires.floor c.if-is_primary.true
    (λ twin. false≢true (c.if-is_twin.ensures.1 twin)) c.is_below_floor.ensures
