-- What templates take, and what the template book means.
pub mod Templates
pub mod Laws
pub mod Tables
