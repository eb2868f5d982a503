mod PartLemmas
mod PhaseLemmas
