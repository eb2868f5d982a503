pub mod GroupLine
pub mod LintText
pub mod Loaded
pub mod ProcedureLine
pub mod RuleLine
pub mod TableLine
