pub mod PackedNumbers
