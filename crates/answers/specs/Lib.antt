pub mod Texts
pub mod Changes
pub mod Views
pub mod Shown
