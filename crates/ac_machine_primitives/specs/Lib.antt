pub mod Consts
pub mod Meant
