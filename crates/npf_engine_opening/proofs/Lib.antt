pub mod DrawingLemmas
pub mod RoomLemmas
pub mod SayingLemmas
pub mod StartingLemmas
pub mod WayLemmas
