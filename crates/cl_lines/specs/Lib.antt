pub mod Comments
pub mod Next
pub mod Numbers
pub mod Rounding
pub mod Texts
pub mod Words
