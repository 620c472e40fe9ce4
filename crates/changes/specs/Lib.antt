pub mod Text
pub mod Theorems
pub mod Applied
pub mod Moved
pub mod Row
pub mod Meaning
pub mod Current
