-- What the number book means, and the texts that it reads.
pub mod Number
pub mod Laws
