pub mod Buffers
pub mod Layouts
