pub mod Books
pub mod Drawing
pub mod Hearing
pub mod Shows
pub mod Tells
