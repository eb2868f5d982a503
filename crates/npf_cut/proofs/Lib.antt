mod RangeLemmas
mod SpanLemmas
mod StartLemmas
mod PartitionLemmas
mod DimensionLemmas
mod SetBitsLemmas
