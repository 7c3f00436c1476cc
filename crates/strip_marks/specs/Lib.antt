pub mod Marks
pub mod Words
pub mod RayMarks
pub mod RowMarks
