pub mod Runs
pub mod Loops
pub mod Laws
pub mod MeaningLaws
pub mod WantedLaws
pub mod MaskLaws
