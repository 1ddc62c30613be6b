use Rattle.std.proofs.Common.{[], ◌∷◌, ◌++◌, None, refl, sym, ap, subst}
use Rattle.sw_daemon.specs.Comparing.{Comparing}
use Rattle.sw_daemon.specs.Coursing.{Course, IsComparing, IsCourse, IsSound}
use Rattle.sw_daemon.specs.Pass.{Course as ACourse, ListOther, missed}
use Rattle.sw_daemon.proofs.Comparisons.{all_differ, comparing_of, sound_compared}
use Rattle.sw_daemon.proofs.course.Course.miss_hashes.Goals as goal

pub returns-clause-follows : goal.returns-clause-follows
returns-clause-follows c = λ course part own heard device others is same.
    let seen = subst (λ (one : Course). IsCourse one course) (sym c.self.view_is) is in
    let was = subst (λ (one : Comparing). IsComparing one part own heard device others) (sym c.comparing.view_is) (comparing_of c.self.inside.task course.task c.in-ListOther.comparing part own heard device others c.in-ListOther.is same seen.task) in
    let after : ACourse = record course { task = ListOther part own (heard ++ None ∷ []) device others; report = missed course.report } in
    c.compare_on.ensures.follows after part own (heard ++ None ∷ []) device others
    (subst (λ (one : Course). IsCourse one after) (sym c.count_miss.ensures) (record {
      task = record {
        part_is = was.part_is;
        own_is = was.own_is;
        differing = all_differ c.add_all.new.self own heard c.add_all.ensures;
        device_is = was.device_is;
        others_are = was.others_are;
      };
      places_are = seen.places_are;
      parts_are = seen.parts_are;
      report_is = ap missed seen.report_is;
    })) refl

pub returns-clause-sound : goal.returns-clause-sound
returns-clause-sound c = λ cluster sound.
    let old = subst (IsSound cluster) (sym c.self.view_is) sound in
    c.compare_on.ensures.sound cluster (subst (IsSound cluster) (sym c.count_miss.ensures)
    (record { task = sound_compared cluster c.self.inside.task c.in-ListOther.comparing c.in-ListOther.is _ (sym c.comparing.view_is) old.task; places = old.places; parts = old.parts }))
