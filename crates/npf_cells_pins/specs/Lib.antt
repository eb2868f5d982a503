pub mod Epochs
pub mod Pinning
pub mod PinsLaw
