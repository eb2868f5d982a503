mod BuildableLemmas
mod CountLemmas
mod ElementLemmas
mod FaultLemmas
mod LawLemmas
mod LoadLemmas
pub mod LoadedLemmas
mod ModelLemmas
mod NoneLemmas
pub mod TableLemmas
pub mod TableNameLemmas
mod TextNameLemmas
