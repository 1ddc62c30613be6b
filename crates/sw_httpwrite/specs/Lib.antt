pub mod Answer
pub mod Response
