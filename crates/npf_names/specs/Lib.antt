pub mod Icmp
pub mod Names
pub mod Protocol
pub mod Service
