use Rattle.std.proofs.Common.{sym, subst}
use Rattle.sw_daemon.specs.Coursing.{IsOfHash, IsSound}
use Rattle.sw_daemon.proofs.Pops.{first_all, rest_all}
use Rattle.sw_daemon.proofs.course.Course.next_place.Goals as goal
use Rattle.sw_daemon.proofs.course.Course.next_place.Goals.{in-ListOther-1, in-ListParts-1}

pub returns-in-Some-clause-sound : goal.returns-in-Some-clause-sound
returns-in-Some-clause-sound c = λ cluster sound.
    let old = subst (IsSound cluster) (sym c.self.view_is) sound in
    let after : IsSound cluster _ = record {
      task = first_all (IsOfHash cluster.part_power) _ c.pop_front.new.self.items c.pop_front.result c.in-Some.place c.pop_front.ensures.items c.in-Some.is old.places;
      places = rest_all (IsOfHash cluster.part_power) _ c.pop_front.new.self.items c.pop_front.result c.pop_front.ensures.items old.places;
      parts = old.parts;
    } in
    elim c.match-self.branch [ in-ListOther-1 w ↦ rw w.self-is after | in-ListParts-1 w ↦ rw w.self-is after ]

pub returns-in-None-clause-sound : goal.returns-in-None-clause-sound
returns-in-None-clause-sound c = λ cluster sound.
    let old = subst (IsSound cluster) (sym c.self.view_is) sound in
    c.next_part.ensures.sound cluster (record {
      task = old.task;
      places = rest_all (IsOfHash cluster.part_power) _ c.pop_front.new.self.items c.pop_front.result c.pop_front.ensures.items old.places;
      parts = old.parts;
    })
