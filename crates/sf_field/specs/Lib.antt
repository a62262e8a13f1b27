pub mod Moduli
