mod LawLemmas
mod LeftOutLemmas
mod ListedLemmas
mod ReasonLemmas
