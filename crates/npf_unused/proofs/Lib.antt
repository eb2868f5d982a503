pub mod UsableLemmas
