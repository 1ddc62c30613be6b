pub mod BuiltIn
pub mod Cluster
pub mod Inside
pub mod Members
pub mod Numbered
pub mod Reading
pub mod Ring
pub mod Rules
