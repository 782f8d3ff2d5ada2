pub mod Inboxes
pub mod Turns
pub mod Notes
pub mod Crossed
