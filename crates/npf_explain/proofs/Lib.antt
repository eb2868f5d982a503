mod AskedLemmas
mod DeciderLemmas
mod FoundLemmas
mod GroupLemmas
mod LawLemmas
