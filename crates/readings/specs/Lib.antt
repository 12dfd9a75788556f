-- A reader as its callers see it, what each call does to it, and what every history of calls promises. That steps are the book's
-- has one proof at most, so that it can be an invariant of the reader's type.
pub mod Views
pub mod OneProof
pub mod Runs
pub mod Readings
pub mod Calls
pub mod Entries
pub mod Changing
pub mod Histories
pub mod Example
