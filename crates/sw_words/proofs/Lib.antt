pub mod ByteLists
pub mod Rules
