pub mod CallLaws
pub mod DeviceLaws
pub mod PassageLaws
pub mod OptionLaws
pub mod ChainLaws
pub mod CommandLineLaws
pub mod LineLaws
