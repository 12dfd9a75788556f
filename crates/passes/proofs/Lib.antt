mod Running
pub mod Steps
