pub mod Devices
pub mod Disks
pub mod Filed
pub mod Moves
pub mod Scene
pub mod SceneMove
pub mod Sound
