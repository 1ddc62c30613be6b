pub mod HandingOut
pub mod Hearing
pub mod Resting
pub mod SentLines
pub mod TicketFlags
