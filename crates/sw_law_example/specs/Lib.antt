pub mod Example
pub mod Loss
pub mod Pair
