pub mod Among
pub mod Class
pub mod Found
pub mod Key
pub mod Order
