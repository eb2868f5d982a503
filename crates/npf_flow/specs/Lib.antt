pub mod Flows
pub mod Laws
pub mod Run
pub mod Timeout
