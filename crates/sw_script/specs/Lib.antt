pub mod Cut
pub mod Line
pub mod Word
pub mod Words
