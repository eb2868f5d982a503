pub mod RankedLemmas
pub mod SideLemmas
pub mod PairLemmas
pub mod PassedLemmas
pub mod RowLemmas
pub mod SameLemmas
