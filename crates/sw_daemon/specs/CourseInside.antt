-- A course by its fields.
use Rattle.sw_daemon.specs.Coursing.{Course}
use Rattle.sw_daemon.specs.declared.course.Course.TheInside.{Inside}

abbrev pub course_seen : Inside → Course
course_seen course = record { task = course.task; places = course.places.items; parts = course.parts.items; report = course.report }
