mod ScanLemmas
mod SoleLemmas
