pub mod SetTexts
pub mod EventLines
pub mod Journals
pub mod Streams
pub mod Histories
pub mod Totals
pub mod Room
pub mod Prelude
