pub mod Causes
pub mod Get
pub mod GetInside
pub mod Inside
pub mod Meaning
pub mod Round
pub mod Standing
