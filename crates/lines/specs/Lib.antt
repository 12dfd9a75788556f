-- Which lines spell which command.
pub mod Parts
pub mod Numerals
pub mod Hex
pub mod Lines
