pub mod TimeoutsLemmas
