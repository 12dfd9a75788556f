-- What a table of kept steps holds.
pub mod Steps
pub mod Tables
