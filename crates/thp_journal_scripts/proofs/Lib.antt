mod LateScanLaws
pub mod FoldingLaws
pub mod JournalScriptLaws
pub mod NodeScriptLaws
pub mod RepeatLaws
pub mod ScriptBatchLaws
pub mod WholeScanLaws
