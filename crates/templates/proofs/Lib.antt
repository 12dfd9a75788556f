mod Made
mod Texts
mod Invariants
mod Alike
mod Changes
