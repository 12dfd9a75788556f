-- Readers over expression books, when two of them answer alike, and what `==` says of what their callers see.
pub mod Runs
pub mod Alike
pub mod Sights
