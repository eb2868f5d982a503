pub mod Bytes
pub mod Packet
pub mod Phases
