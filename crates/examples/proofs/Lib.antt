pub mod ExamplesHold
pub mod HasRuns
