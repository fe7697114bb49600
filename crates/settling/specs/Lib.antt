pub mod Printed
pub mod Settles
pub mod Told
