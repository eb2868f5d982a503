pub mod AddressLemmas
pub mod ErrorSumLemmas
pub mod ScatteredLemmas
pub mod SumLemmas
