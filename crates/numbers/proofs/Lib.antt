mod Rows
mod Ways
mod Texts
mod Expressed
