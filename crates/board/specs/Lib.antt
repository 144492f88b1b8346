pub mod Dues
pub mod Rounds
pub mod Shown
