pub mod Event
pub mod Sound
pub mod World
pub mod WorldMove
