pub mod RuleWeight
pub mod Instruction
pub mod Tail
pub mod Premise
pub mod Condition
pub mod Endpoint
pub mod Program
pub mod ProgramLength
