pub mod SharingLaws
