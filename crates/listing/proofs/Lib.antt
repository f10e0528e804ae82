mod Shown
mod Grown
mod Readouts
