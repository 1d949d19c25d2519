pub mod Apart
pub mod Beside
pub mod Formed
pub mod Lexed
pub mod Reread
pub mod Shown
pub mod Tells
pub mod Unflagged
