pub mod DigitLemmas
pub mod EventLemmas
pub mod FrontLemmas
pub mod NameLemmas
pub mod ScriptLemmas
pub mod ValueLemmas
