pub mod Names
pub mod Bill
pub mod Faults
pub mod Rows
pub mod Orders
pub mod Lines
pub mod Laws
