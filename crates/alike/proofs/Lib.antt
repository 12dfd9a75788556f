pub mod Changing
pub mod Twins
pub mod Calls
pub mod Agreeing
pub mod Sights
