mod Batches
mod Denoted
mod Running
