pub mod Goes
pub mod Slots
pub mod Written
