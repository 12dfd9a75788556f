-- Texts of events.
pub mod Words
