pub mod LaneLemmas
pub mod Words
pub mod Pieces
pub mod BlockSteps
pub mod Lists
pub mod Continued
pub mod Together
