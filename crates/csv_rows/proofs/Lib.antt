pub mod Fields
pub mod RowsOf
pub mod Marks
pub mod RecordCount
pub mod ReaderFacts
pub mod TableFacts
pub mod FaultLaws
