mod Drafts
pub mod Separated
mod RecordBytes
mod Hex
