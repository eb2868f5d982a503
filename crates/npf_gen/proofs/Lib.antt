pub mod DrawLemmas
pub mod DatagramLemmas
pub mod WorkloadLemmas
