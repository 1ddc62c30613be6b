pub mod Begun
pub mod Fresh
