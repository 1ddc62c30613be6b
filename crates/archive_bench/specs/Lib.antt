pub mod Archives
pub mod Cost
pub mod Task
