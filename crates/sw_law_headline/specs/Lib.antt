pub mod Headline
pub mod Invariant
pub mod Timed
