pub mod Stretches
pub mod Readings
pub mod Segments
pub mod Corrections
pub mod Lines
pub mod Digits
pub mod Hex
pub mod Spellings
