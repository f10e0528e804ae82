pub mod LaidCells
pub mod Heard
pub mod Outcomes
pub mod Led
pub mod Neighbours
