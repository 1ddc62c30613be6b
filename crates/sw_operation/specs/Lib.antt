pub mod Ends
pub mod Operating
pub mod Standing
