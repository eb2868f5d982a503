pub mod Arrivals
pub mod Traces
pub mod Gathering
pub mod Within
