pub mod Linear
pub mod Shift
pub mod Over
pub mod Parts
pub mod Entries
