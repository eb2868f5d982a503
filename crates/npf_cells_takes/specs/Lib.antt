pub mod PoolKinds
pub mod PrivateKinds
pub mod SlotKinds
pub mod TakesLaw
