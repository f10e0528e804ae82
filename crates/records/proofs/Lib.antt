mod Numbers
mod Oks
pub mod Fields
pub mod RoundTrips
mod Readings
mod Placings
pub mod Batching
mod Steps
