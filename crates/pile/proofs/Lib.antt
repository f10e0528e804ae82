mod Lays
mod Turns
mod Drafts
mod Notes
mod Leads
mod Starts
mod Folds
