pub mod Records
pub mod Recorded
pub mod Faults
pub mod Batches
pub mod Writers
