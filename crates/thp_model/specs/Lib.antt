pub mod Prelude
pub mod Lists
