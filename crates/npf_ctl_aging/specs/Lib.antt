pub mod Aging
pub mod Laws
