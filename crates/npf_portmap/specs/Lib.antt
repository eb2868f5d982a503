pub mod Candidate
pub mod Laws
