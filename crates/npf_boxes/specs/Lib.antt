pub mod Cell
pub mod Fit
pub mod Part
