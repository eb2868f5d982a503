mod FirstLemmas
mod ReadLemmas
mod ToldLemmas
