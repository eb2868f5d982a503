pub mod TreatmentLaw
