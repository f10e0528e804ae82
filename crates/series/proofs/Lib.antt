pub mod Nths
mod Flats
