mod Told
mod Readings
mod Flattening
mod Piles
