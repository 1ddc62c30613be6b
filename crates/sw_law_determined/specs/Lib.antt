pub mod Cut
pub mod Sure
