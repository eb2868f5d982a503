mod LawLemmas
mod PlaceLemmas
mod ReasonLemmas
mod SideLemmas
