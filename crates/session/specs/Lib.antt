pub mod Consoles
pub mod Sessions
pub mod Scripts
