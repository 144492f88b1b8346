pub mod Bits
pub mod Station
pub mod Sheet
