-- Why syzygies of minimal generators have no constants.
pub mod Generators
pub mod Constants
