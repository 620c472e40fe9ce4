pub mod Models
pub mod Promises
