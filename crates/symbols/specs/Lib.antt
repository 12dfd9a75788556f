-- What an event is printed as.
pub mod Texts
