mod BindingLemmas
pub mod CompileLemmas
mod ConfigLemmas
mod DescribesLemmas
mod FinalLemmas
mod LayoutLemmas
mod MatchLemmas
pub mod MisfitLemmas
mod NumberLemmas
mod NumberedLemmas
pub mod PairLemmas
mod PlaceLemmas
mod RowLemmas
mod TableLemmas
mod WalkLemmas
