-- A prototype's function without its lines, by the prototype's parts; two lists compared place by place.
pub mod Stripped
pub mod Compared
