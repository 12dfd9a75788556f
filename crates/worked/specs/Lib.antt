-- Worked lines: calls on a new reader with what they answer (Lines), and all of them as one result (Worked).
pub mod Lines
pub mod Worked
