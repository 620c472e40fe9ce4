pub mod Heap
pub mod Limits
pub mod Calls
pub mod Rows
