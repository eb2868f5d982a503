pub mod FaultLemmas
pub mod SameLemmas
pub mod SettingLemmas
pub mod TextLemmas
