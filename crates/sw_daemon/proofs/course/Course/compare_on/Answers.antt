use Rattle.std.proofs.Common.{◌≡◌, ℕ, ◌^◌, ◌<◌, List, [], filter, refl, sym, ap, subst, ◌∙◌, arith}
use Rattle.std.specs.List.{All}
use Rattle.std.proofs.lemmas.List.{nil_from_length}
use Rattle.std.proofs.lemmas.List.Elements.{All-filter, All-head, All-tail}
use Rattle.sw_hashpath.specs.Place.{PlaceModel}
use Rattle.sw_suffix.specs.Suffix.{suffix_number}
use Rattle.sw_message.specs.Message.{IsMember}
use Rattle.sw_daemon.specs.Comparing.{Comparing, has_suffix}
use Rattle.sw_daemon.specs.Coursing.{Course, IsComparing, IsCourse, IsOfHash, IsSound}
use Rattle.sw_daemon.specs.Pass.{AsksOn, Does, ListOther, Status, next_place}
use Rattle.sw_daemon.proofs.Comparisons.{are_due, comparing_of, sound_of}
use Rattle.sw_daemon.proofs.course.Course.compare_on.Goals as goal

pub returns-in-Some-clause-follows : goal.returns-in-Some-clause-follows
returns-in-Some-clause-follows c = λ course part own heard device others is same.
    let seen = subst (λ (one : Course). IsCourse one course) (sym c.self.view_is) is in
    let was = subst (λ (one : Comparing). IsComparing one part own heard device others) (sym c.comparing.view_is) (comparing_of c.self.inside.task course.task c.in-ListOther.comparing part own heard device others c.in-ListOther.is same seen.task) in
    let next : Status = Does (record { task = ListOther part own heard c.in-Some.device c.pop_front.new.self.items; places = course.places; parts = course.parts; report = course.report }) in (
      next,
      subst (λ (these : List ℕ). AsksOn part own heard these course.places course.parts course.report next) (sym c.in-Some.ensures.items ∙ was.others_are) refl,
      record {
        task = record { part_is = was.part_is; own_is = was.own_is; differing = was.differing; device_is = refl; others_are = refl };
        places_are = seen.places_are;
        parts_are = seen.parts_are;
        report_is = seen.report_is;
      },
    )

pub returns-in-Some-clause-sound : goal.returns-in-Some-clause-sound
returns-in-Some-clause-sound c = λ cluster sound.
    let old = subst (IsSound cluster) (sym c.self.view_is) sound in
    let task = sound_of cluster c.self.inside.task c.in-ListOther.comparing c.in-ListOther.is old.task in
    let part = subst (λ (one : Comparing). one.part < 2 ^ cluster.part_power) (sym c.comparing.view_is) task.0 in
    let others = subst (All (IsMember cluster)) (ap (λ (one : Comparing). one.others) (sym c.comparing.view_is) ∙ c.in-Some.ensures.items) task.2 in
    record {
      task = (part, All-head (IsMember cluster) c.in-Some.device c.pop_front.new.self.items others, All-tail (IsMember cluster) c.in-Some.device c.pop_front.new.self.items others);
      places = old.places;
      parts = old.parts;
    }

pub returns-in-None-clause-follows : goal.returns-in-None-clause-follows
returns-in-None-clause-follows c = λ course part own heard device others is same.
    let seen = subst (λ (one : Course). IsCourse one course) (sym c.self.view_is) is in
    let was = subst (λ (one : Comparing). IsComparing one part own heard device others) (sym c.comparing.view_is) (comparing_of c.self.inside.task course.task c.in-ListOther.comparing part own heard device others c.in-ListOther.is same seen.task) in
    let none : c.comparing.inside.others.items ≡ [] = nil_from_length c.comparing.inside.others.items (omega (arith, c.in-None.ensures.cases.0, c.comparing.inside.others.ok.0)) in
    let due = c.keep_differing.new.places.items in
    let due_are = c.keep_differing.ensures ∙ ap (filter (λ (place : PlaceModel). has_suffix c.comparing.inside.differing (suffix_number place.hash))) seen.places_are in (
      next_place due course.parts course.report,
      subst (λ (these : List ℕ). AsksOn part own heard these course.places course.parts course.report (next_place due course.parts course.report)) (sym none ∙ was.others_are)
          (due, are_due c.comparing.inside.differing own heard course.places due was.differing due_are, refl),
      rw (sym seen.parts_are, sym seen.report_is) c.next_place.ensures.follows,
    )

pub returns-in-None-clause-sound : goal.returns-in-None-clause-sound
returns-in-None-clause-sound c = λ cluster sound.
    let old = subst (IsSound cluster) (sym c.self.view_is) sound in
    let kept = All-filter (λ (place : PlaceModel). has_suffix c.comparing.inside.differing (suffix_number place.hash)) (IsOfHash cluster.part_power) c.self.inside.places.items old.places in
    let task = subst (λ (one : Comparing). (one.part < 2 ^ cluster.part_power) × IsMember cluster one.device × All (IsMember cluster) one.others) (sym c.comparing.view_is)
    (sound_of cluster c.self.inside.task c.in-ListOther.comparing c.in-ListOther.is old.task) in
    c.next_place.ensures.sound cluster (record {
      task = (task.0, task.1, subst (All (IsMember cluster)) c.in-None.ensures.items task.2);
      places = subst (All (IsOfHash cluster.part_power)) (sym c.keep_differing.ensures) kept;
      parts = old.parts;
    })
