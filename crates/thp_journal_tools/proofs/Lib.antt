pub mod CommandLineLaws
pub mod CheckLaws
mod ScriptLaws
mod CountLaws
mod ProgressLaws
mod NodeLaws
mod DrawLaws
pub mod KeptLaws
