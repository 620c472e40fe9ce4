pub mod Printing
pub mod Lines
pub mod Memory
pub mod Reports
pub mod Basins
pub mod Changing
