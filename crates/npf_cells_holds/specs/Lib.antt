pub mod Aims
pub mod HoldKinds
pub mod HoldsLaw
pub mod LockKinds
pub mod LookKinds
pub mod PublishKinds
pub mod UnlinkKinds
