-- What the program moves (Moving), laws of it, and what it prints (Printing).
pub mod Moving
pub mod laws
