pub mod Decoding
pub mod Leading
mod HexText
mod Numerals
pub mod Refusing
pub mod Parting
pub mod Spelling
pub mod Words
