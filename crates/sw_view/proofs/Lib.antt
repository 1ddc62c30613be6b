pub mod Growth
pub mod Known
pub mod Within
