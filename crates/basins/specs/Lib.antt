pub mod Exits
pub mod Promises
pub mod Walks
pub mod Tracing
pub mod Parting
pub mod Draining
