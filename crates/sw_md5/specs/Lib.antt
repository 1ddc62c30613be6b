pub mod Side
pub mod UnderWay
