pub mod Decimal
pub mod Meaning
pub mod Printed
pub mod Whole
pub mod Inner
