pub mod Lists
pub mod Runs
pub mod Maps
pub mod Labels
pub mod Series
pub mod Bases
pub mod Standing
pub mod Histories
