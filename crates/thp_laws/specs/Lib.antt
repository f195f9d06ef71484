pub mod OneReport
pub mod OneRun
pub mod OneStep
pub mod OneText
pub mod ReadBack
pub mod Repeated
pub mod SameTotals
pub mod Reportable
