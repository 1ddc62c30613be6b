pub mod Causes
pub mod Delete
pub mod Inside
pub mod Standing
