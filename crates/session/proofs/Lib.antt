pub mod Executions
pub mod HeldLines
