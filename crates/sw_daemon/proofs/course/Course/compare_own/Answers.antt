use Rattle.std.proofs.Common.{◌≡◌, ℕ, List, [], refl, sym, subst, ◌∙◌, arith}
use Rattle.std.specs.List.{All}
use Rattle.std.proofs.lemmas.List.{nil_from_length}
use Rattle.std.proofs.lemmas.List.Elements.{All-head, All-nil, All-tail}
use Rattle.sw_hashpath.specs.Place.{PlaceModel}
use Rattle.sw_message.specs.Message.{IsMember}
use Rattle.sw_daemon.specs.Coursing.{Course, IsCourse, IsOfHash, IsSound, IsStatus}
use Rattle.sw_daemon.specs.Pass.{AsksOn, Does, ListOther, Status, next_place}
use Rattle.sw_daemon.specs.declared.report.PassReport.{PassReport}
use Rattle.sw_daemon.proofs.Comparisons.{none_differ, none_due}
use Rattle.sw_daemon.proofs.course.Course.compare_own.Goals as goal
use Rattle.sw_daemon.proofs.course.Course.compare_own.Goals.{in-ListOther-1, in-ListParts-1}

pub returns-in-Some-clause-follows : goal.returns-in-Some-clause-follows
returns-in-Some-clause-follows c = λ course is.
    let seen = subst (λ (one : Course). IsCourse one course) (sym c.self.view_is) is in
    let hashes = c.args.hashes.now in
    let next : Status = Does (record { task = ListOther c.args.part hashes [] c.in-Some.device c.pop_front.new.self.items; places = course.places; parts = course.parts; report = course.report }) in
    let asks = subst (λ (these : List ℕ). AsksOn c.args.part hashes [] these course.places course.parts course.report next) (sym c.in-Some.ensures.items ∙ c.in_ok-others.ensures.others) refl in
    let after : IsStatus _ next = record {
      task = record { part_is = refl; own_is = c.from-own.ensures ∙ c.in_ok-from_slice.ensures.items; differing = none_differ c.new.result hashes c.new.ensures; device_is = refl; others_are = refl };
      places_are = seen.places_are;
      parts_are = seen.parts_are;
      report_is = seen.report_is;
    } in
    (next, asks, elim c.match-self.branch [ in-ListOther-1 w ↦ rw w.self-is after | in-ListParts-1 w ↦ rw w.self-is after ])

pub returns-in-Some-clause-sound : goal.returns-in-Some-clause-sound
returns-in-Some-clause-sound c =
    let cluster = c.args.cluster.now in
    let old = subst (IsSound cluster) (sym c.self.view_is) c.requires.sound in
    let members = subst (All (IsMember cluster)) c.in-Some.ensures.items c.in_ok-others.ensures.members in
    let after : IsSound cluster _ = record {
      task = (c.requires.part, All-head (IsMember cluster) c.in-Some.device c.pop_front.new.self.items members, All-tail (IsMember cluster) c.in-Some.device c.pop_front.new.self.items members);
      places = old.places;
      parts = old.parts;
    } in
    elim c.match-self.branch [ in-ListOther-1 w ↦ rw w.self-is after | in-ListParts-1 w ↦ rw w.self-is after ]

pub returns-in-None-clause-follows : goal.returns-in-None-clause-follows
returns-in-None-clause-follows c = λ course is.
    let seen = subst (λ (one : Course). IsCourse one course) (sym c.self-in-None.view_is) is in
    let hashes = c.args.hashes.now in
    let none : c.in_ok-others.others.items ≡ [] = nil_from_length c.in_ok-others.others.items (omega (arith, c.in-None.ensures.cases.0, c.in_ok-others.others.ok.0)) in (
      next_place [] course.parts course.report,
      subst (λ (these : List ℕ). AsksOn c.args.part hashes [] these course.places course.parts course.report (next_place [] course.parts course.report)) (sym none ∙ c.in_ok-others.ensures.others) ([], none_due hashes course.places, refl),
      subst (λ (parts : List ℕ). IsStatus c.next_place.new.self (next_place [] parts course.report)) seen.parts_are
          (subst (λ (report : PassReport). IsStatus c.next_place.new.self (next_place [] c.self-in-None.inside.parts.items report)) seen.report_is
          (subst (λ (places : List PlaceModel). IsStatus c.next_place.new.self (next_place places c.self-in-None.inside.parts.items c.self-in-None.inside.report)) c.clear.ensures.items c.next_place.ensures.follows)),
    )

pub returns-in-None-clause-sound : goal.returns-in-None-clause-sound
returns-in-None-clause-sound c =
    let cluster = c.args.cluster.now in
    let old = subst (IsSound cluster) (sym c.self-in-None.view_is) c.requires.sound in
    c.next_place.ensures.sound cluster (record { task = old.task; places = subst (All (IsOfHash cluster.part_power)) (sym c.clear.ensures.items) (All-nil (IsOfHash cluster.part_power)); parts = old.parts })
