pub mod Possible
pub mod Tested
pub mod Witness
pub mod PossibleLaw
