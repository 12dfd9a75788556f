mod Edits
mod Removed
pub mod Alike
mod Deleted
mod Grown
mod Pieces
mod Built
mod Obeyed
mod Underway
mod Finished
mod Added
mod Asked
mod Made
mod Expressed
mod Both
