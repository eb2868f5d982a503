pub mod DefaultLemmas
pub mod DuplicateLemmas
pub mod FaultLemmas
pub mod LimitLemmas
pub mod MapLemmas
pub mod NameLemmas
pub mod PairLemmas
pub mod ParameterLemmas
