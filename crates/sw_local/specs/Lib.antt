pub mod Link
pub mod Sound
