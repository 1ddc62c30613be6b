pub mod Full
pub mod Lines
pub mod Play
pub mod Promised
pub mod Same
pub mod Story
