mod OwnLemmas
mod PublishedLemmas
mod UnlinkedLemmas
mod ZeroLemmas
