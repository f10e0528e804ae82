pub mod Joins
mod Spreads
pub mod Counts
mod Pushes
mod Cuts
mod Finds
pub mod Places
pub mod Fills
mod Outcomes
mod Journals
mod Corrections
pub mod Nths
pub mod Gathered
pub mod Rivals
pub mod Tidying
pub mod Folding
pub mod Truths
mod Layouts
mod Finished
mod Walks
mod Folds
pub mod Drafts
