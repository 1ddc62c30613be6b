pub mod Decided
pub mod Duties
pub mod Promise
