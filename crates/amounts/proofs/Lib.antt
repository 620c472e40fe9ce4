pub mod Sums
pub mod Carrying
pub mod Accumulating
pub mod RowBytes
pub mod Passes
pub mod Promised
pub mod Redraining
pub mod Rains
