pub mod PageLemmas
pub mod SettingLemmas
