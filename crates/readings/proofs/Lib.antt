pub mod Positions
pub mod Tables
pub mod Runs
pub mod Steps
pub mod Bare
pub mod Onward
pub mod Sought
pub mod Slices
pub mod Dropped
pub mod Pairs
pub mod Changed
pub mod Follows
pub mod Traces
pub mod Stand
pub mod Reaches
pub mod Acting
mod Example
