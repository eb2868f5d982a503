pub mod Draw
pub mod Datagram
pub mod Workload
pub mod WorkloadLaw
