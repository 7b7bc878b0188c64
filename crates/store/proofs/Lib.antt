-- Laws by kind: the pages, what is stored, what a byte does, and what every change keeps.
pub mod Pages
pub mod Stored
pub mod Takes
pub mod Kept
