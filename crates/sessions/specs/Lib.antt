-- Sessions.
pub mod Sessions
pub mod Views
