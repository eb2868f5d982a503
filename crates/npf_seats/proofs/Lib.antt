pub mod ListLemmas
pub mod PrefixLemmas
pub mod SeatLemmas
pub mod SumLemmas
