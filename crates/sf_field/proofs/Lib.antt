pub mod Moduli
pub mod Programs
