-- Scripts, which are run line by line.
pub mod Faults
pub mod Runs
pub mod Scripts
pub mod Places
