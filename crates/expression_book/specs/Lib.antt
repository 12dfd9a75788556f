-- What an expression book means and promises (Tables, Promises), and the words of its inner contracts: what is kept for a position
-- (Rows) and for an expression that waits (Parts), and what holds while a rule is built (Building).
pub mod Rows
pub mod Tables
pub mod Parts
pub mod Building
pub mod Promises
pub mod Laws
