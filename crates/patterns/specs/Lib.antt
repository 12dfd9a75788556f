-- Pattern texts: their marks, their classes, how they are read, and what they are refused for.
pub mod Refusals
pub mod Buffers
pub mod Marks
pub mod Classes
pub mod Reading
pub mod Parsing
pub mod Outcome
pub mod Grammar
pub mod Meaning
pub mod Rules
