pub mod View
pub mod Seen
pub mod Answers
pub mod Cursors
