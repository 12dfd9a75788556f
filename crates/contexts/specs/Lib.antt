-- What commands do to the reader in use.
pub mod Uses
pub mod Contexts
