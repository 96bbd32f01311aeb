-- `Tests` has what the tests of two stamps say, `Order` and `Spans` what holds of stamps in order, `Walks` what the library's walks over stamps
-- find, `Brought` what each operation brings.
pub mod Tests
pub mod Order
pub mod Spans
pub mod Walks
pub mod Brought
