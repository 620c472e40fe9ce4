pub mod Causes
pub mod CellFaults
pub mod Neighbours
pub mod Parts
pub mod Positions
pub mod Taken
pub mod Writes
