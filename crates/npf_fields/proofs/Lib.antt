pub mod FieldBytes
pub mod FieldNumbers
pub mod RangeNumbers
