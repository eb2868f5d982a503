pub mod Marks
pub mod MarksLaw
pub mod Steps
pub mod StepsLaw
