pub mod Folds
pub mod Journals
