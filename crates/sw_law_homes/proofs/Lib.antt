pub mod Buried
pub mod Committed
pub mod Counting
pub mod DecidedHeard
pub mod Devices
pub mod Fewer
pub mod Floors
pub mod Heard
