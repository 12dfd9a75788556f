-- What a rule book means, what a change does to it, and what refusals tell.
pub mod Meaning
pub mod Changes
pub mod Refusals
pub mod Texts
pub mod Kinds
