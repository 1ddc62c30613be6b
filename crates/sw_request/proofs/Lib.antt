pub mod Lines
pub mod Pairs
pub mod Refusals
pub mod Targets
pub mod Tokens
