mod AgreeLemmas
mod CutLemmas
mod FamilyLemmas
mod SortLemmas
mod RowLemmas
mod ChangeLemmas
mod TopLemmas
mod BothLemmas
