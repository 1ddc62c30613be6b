-- A course by its fields.
use Rattle.sw_recon.specs.Course.{Course}
use Rattle.sw_recon.specs.declared.course.Course.TheInside.{Inside}

abbrev pub course_seen : Inside → Course
course_seen course = record {
  entry = course.entry;
  later = course.later.items;
  treatment = course.treatment;
  removed = course.removed;
  kept = course.kept.items;
}
