mod Bytes
mod Writing
