pub mod PrintedLaws
pub mod SiteLaws
pub mod Sites
