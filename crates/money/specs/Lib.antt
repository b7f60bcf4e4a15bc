pub mod Number
pub mod Price
pub mod Laws
