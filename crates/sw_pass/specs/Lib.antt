pub mod Known
pub mod Losses
pub mod Pairs
pub mod Rule
pub mod Steps
