pub mod Questions
pub mod Series
