mod Order
mod Sifts
mod Loops
pub mod Laws
mod Bounds
mod Sorting
mod Operations
