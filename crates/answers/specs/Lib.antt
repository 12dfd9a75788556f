-- The text of answers.
pub mod Texts
