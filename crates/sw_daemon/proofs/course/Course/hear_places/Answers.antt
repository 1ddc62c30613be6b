use Rattle.std.proofs.Common.{sym, subst}
use Rattle.std.specs.List.{All}
use Rattle.sw_daemon.specs.Coursing.{IsOfHash, IsSound}
use Rattle.sw_daemon.proofs.course.Course.hear_places.Goals as goal

pub returns-in_default-clause-sound : goal.returns-in_default-clause-sound
returns-in_default-clause-sound c = c.pass_over.ensures.sound c.args.cluster.now c.requires.sound

pub returns-else-is_primary-clause-sound : goal.returns-else-is_primary-clause-sound
returns-else-is_primary-clause-sound c =
    let old = subst (IsSound c.args.cluster.now) (sym c.self.view_is) c.requires.sound in
    let right = subst (λ power. All (IsOfHash power) c.in_ok-places.places.items) c.part_power.ensures.power c.in_ok-places.ensures.right in
    c.next_place.ensures.sound c.args.cluster.now (record { task = old.task; places = right; parts = old.parts })
