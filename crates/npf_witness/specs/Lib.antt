pub mod WitnessText
