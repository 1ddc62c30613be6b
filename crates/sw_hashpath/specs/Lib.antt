pub mod FileName
pub mod Place
