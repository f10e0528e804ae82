mod Aheads
mod Sizes
mod Places
