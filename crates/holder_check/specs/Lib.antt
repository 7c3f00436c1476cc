pub mod Holder
pub mod Contacts
pub mod Above
