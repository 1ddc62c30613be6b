use Rattle.std.proofs.Common.{[], ◌∷◌, ◌++◌, List, Some, refl, sym, subst, ◌∙◌}
use Rattle.sw_suffix.specs.Table.{Hashed}
use Rattle.sw_daemon.specs.Comparing.{Comparing, MoreDiffer}
use Rattle.sw_daemon.specs.Coursing.{Course, IsComparing, IsCourse, IsSound}
use Rattle.sw_daemon.specs.Pass.{Course as ACourse, ListOther}
use Rattle.sw_daemon.proofs.Comparisons.{comparing_of, more_heard, sound_compared}
use Rattle.sw_daemon.proofs.course.Course.hear_hashes.Goals as goal

pub returns-clause-follows : goal.returns-clause-follows
returns-clause-follows c = λ course part own heard device others is same.
    let seen = subst (λ (one : Course). IsCourse one course) (sym c.self.view_is) is in
    let was = subst (λ (one : Comparing). IsComparing one part own heard device others) (sym c.comparing.view_is) (comparing_of c.self.inside.task course.task c.in-ListOther.comparing part own heard device others c.in-ListOther.is same seen.task) in
    let hashes = c.args.hashes.now in
    let more = subst (λ (own : List Hashed). MoreDiffer c.comparing.inside.differing own hashes c.add.new.self) (c.as_slice-own.ensures ∙ was.own_is) c.in_ok-add.ensures.more in
    let after : ACourse = record course { task = ListOther part own (heard ++ Some hashes ∷ []) device others } in
    c.compare_on.ensures.follows after part own (heard ++ Some hashes ∷ []) device others
    (record {
      task = record {
        part_is = was.part_is;
        own_is = was.own_is;
        differing = more_heard c.comparing.inside.differing c.add.new.self own hashes heard was.differing more;
        device_is = was.device_is;
        others_are = was.others_are;
      };
      places_are = seen.places_are;
      parts_are = seen.parts_are;
      report_is = seen.report_is;
    }) refl

pub returns-clause-sound : goal.returns-clause-sound
returns-clause-sound c = λ cluster sound.
    let old = subst (IsSound cluster) (sym c.self.view_is) sound in
    c.compare_on.ensures.sound cluster (record { task = sound_compared cluster c.self.inside.task c.in-ListOther.comparing c.in-ListOther.is _ (sym c.comparing.view_is) old.task; places = old.places; parts = old.parts })
