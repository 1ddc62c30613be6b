pub mod Chains
pub mod Images
pub mod Settling
pub mod Used
