-- Names in order, and the names that no local variable is given.
pub mod Barred
pub mod Order
pub mod inner
