pub mod LineText
pub mod OutcomeText
pub mod TotalText
