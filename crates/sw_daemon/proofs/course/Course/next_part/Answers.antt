use Rattle.std.proofs.Common.{◌^◌, ◌<◌, sym, subst}
use Rattle.std.proofs.lemmas.List.Elements.{All-nil}
use Rattle.sw_daemon.specs.Coursing.{IsOfHash, IsSound}
use Rattle.sw_daemon.proofs.Pops.{first_all, rest_all}
use Rattle.sw_daemon.proofs.course.Course.next_part.Goals as goal
use Rattle.sw_daemon.proofs.course.Course.next_part.Goals.{in-Some, in-None}

pub returns-clause-sound : goal.returns-clause-sound
returns-clause-sound c = λ cluster sound.
    let parts = (subst (IsSound cluster) (sym c.self.view_is) sound).parts in
    record {
      task = elim c.match-pop_front.branch [
        | in-Some w ↦ rw w.t-8-is (first_all (λ part. part < 2 ^ cluster.part_power) _ c.pop_front.new.self.items c.pop_front.result w.in-Some.part c.pop_front.ensures.items w.in-Some.is parts)
        | in-None w ↦ rw w.t-8-is tt
      ];
      places = rw c.clear.ensures.items (All-nil (IsOfHash cluster.part_power));
      parts = rest_all (λ part. part < 2 ^ cluster.part_power) _ c.pop_front.new.self.items c.pop_front.result c.pop_front.ensures.items parts;
    }
