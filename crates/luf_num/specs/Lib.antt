-- Numerals, floats and their words. What a reader has to believe stands in Numeral, Float and Word; inner is for private functions.
pub mod Float
pub mod Numeral
pub mod Word
pub mod inner
