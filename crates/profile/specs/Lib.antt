pub mod Maps
pub mod Groups
pub mod Profiles
pub mod Lengths
