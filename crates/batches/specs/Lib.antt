-- Which bytes are a batch (Records), and what running it does (Runs).
pub mod Records
pub mod Runs
