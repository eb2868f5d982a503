pub mod Cells
pub mod Due
pub mod Telling
pub mod Step
