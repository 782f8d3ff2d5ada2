pub mod Senders
pub mod Spawnings
pub mod Receivers
