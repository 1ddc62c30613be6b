pub mod Causes
pub mod Course
pub mod CourseInside
pub mod Inside
pub mod Revert
pub mod Sends
pub mod Standing
