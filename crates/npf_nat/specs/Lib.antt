pub mod Answer
pub mod FirstPort
pub mod Laws
pub mod MapPlan
pub mod Netmap
pub mod Npt
pub mod PrefixPair
