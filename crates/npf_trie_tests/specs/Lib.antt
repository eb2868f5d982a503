pub mod Built
pub mod ByProtocol
pub mod Hands
