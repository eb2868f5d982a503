pub mod Asked
pub mod Explanation
pub mod ExplanationLaw
