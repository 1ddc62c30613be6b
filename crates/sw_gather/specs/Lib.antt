pub mod Choices
pub mod Gathered
pub mod Mailbox
pub mod MailboxInside
