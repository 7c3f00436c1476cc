pub mod Drawing
pub mod Valid
