pub mod Error
pub mod ErrorTranslated
pub mod ErrorVerified
pub mod Header
pub mod Quoted
pub mod Within
