pub mod Commands
pub mod Coming
pub mod Fields
pub mod Numerals
pub mod Verbs
pub mod Parsing
pub mod Arguments
pub mod Narrowing
