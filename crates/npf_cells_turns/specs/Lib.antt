pub mod EndKinds
pub mod NoteKinds
pub mod SightKinds
pub mod TurnKinds
pub mod TurnsLaw
pub mod WordKinds
