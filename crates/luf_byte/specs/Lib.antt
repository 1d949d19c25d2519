-- Classes of bytes, what a text begins with, and line ends.
pub mod Class
pub mod Front
pub mod LineEnd
