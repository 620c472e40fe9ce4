pub mod Printed
pub mod Values
pub mod Texts
pub mod Told
pub mod Rowed
