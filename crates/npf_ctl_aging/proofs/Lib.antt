mod CountLemmas
mod OrderLemmas
mod PartLemmas
mod SumLemmas
mod TickLemmas
