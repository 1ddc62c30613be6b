pub mod Beginning
pub mod Finding
pub mod Stopped
pub mod Untouched
