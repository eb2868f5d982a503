pub mod Alike
pub mod WitnessFiles
pub mod Fault
pub mod FilesLaw
