-- Where the lines of a text begin, and the place of a byte.
pub mod Place
