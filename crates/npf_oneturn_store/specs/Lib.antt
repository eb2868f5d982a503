pub mod Connection
pub mod Hash
pub mod Keys
pub mod Places
pub mod RepresentLaw
pub mod Represents
pub mod Store
