pub mod HoldKey
pub mod LookUp
pub mod Nodes
pub mod Stores
