pub mod Found
pub mod Keeps
mod Zipped
pub mod Tables
