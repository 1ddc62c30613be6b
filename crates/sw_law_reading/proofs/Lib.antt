pub mod Acknowledged
pub mod Called
pub mod Chains
pub mod Counted
pub mod Ended
pub mod Fragments
pub mod Links
pub mod Shows
