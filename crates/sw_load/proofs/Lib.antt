pub mod Alike
pub mod Devices
pub mod Progress
pub mod Stamps
