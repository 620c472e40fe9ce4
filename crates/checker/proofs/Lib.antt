pub mod FirstBad
pub mod Sides
pub mod Sending
pub mod Parts
pub mod Standing
pub mod Gathering
pub mod Meaning
pub mod DrainedTable
