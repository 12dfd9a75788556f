-- Expressions, the sets of texts that they denote, their positions, the commands that write them, and the rules of a
-- book that are expressions.
pub mod Expression
pub mod Positions
pub mod CodeRange
pub mod Commands
pub mod Rules
pub mod Tokens
