pub mod Begins
pub mod Between
pub mod Copy
pub mod Ends
pub mod Expiries
pub mod Frees
pub mod Passes
pub mod SlotVisit
