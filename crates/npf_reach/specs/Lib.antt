pub mod Kinds
pub mod Packets
