pub mod RunLemmas
pub mod LineLemmas
pub mod JournalLemmas
pub mod StreamLaws
pub mod Pieces
