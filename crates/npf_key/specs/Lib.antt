pub mod Key
pub mod Laws
pub mod Port
pub mod Translated
