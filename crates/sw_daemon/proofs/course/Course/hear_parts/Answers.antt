use Rattle.std.proofs.Common.{◌^◌, ◌<◌, sym, subst}
use Rattle.std.specs.List.{All}
use Rattle.sw_daemon.specs.Coursing.{IsSound}
use Rattle.sw_daemon.proofs.course.Course.hear_parts.Goals as goal

pub returns-in_ok-self-inside-in-Some-PartList-clause-sound : goal.returns-in_ok-self-inside-in-Some-PartList-clause-sound
returns-in_ok-self-inside-in-Some-PartList-clause-sound c =
    let old = subst (IsSound c.args.cluster.now) (sym c.self.view_is) c.requires in
    let below = subst (λ power. All (λ part. part < 2 ^ power) c.in_ok-self-inside-in-Some-PartList.field-0.items) c.part_power.ensures.power c.in_ok-self-inside-in-Some-PartList.ensures.below in
    c.next_part.ensures.sound c.args.cluster.now (record { task = old.task; places = old.places; parts = below })

pub returns-in_default-clause-sound : goal.returns-in_default-clause-sound
returns-in_default-clause-sound c = c.pass_over.ensures.sound c.args.cluster.now c.requires
