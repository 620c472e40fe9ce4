pub mod Table
pub mod Conditions
pub mod Faults
pub mod Accepted
pub mod Theorems
