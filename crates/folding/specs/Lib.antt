pub mod Piles
pub mod Journals
