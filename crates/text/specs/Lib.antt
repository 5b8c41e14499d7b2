-- The text of a line: decimal numbers (Decimal), lines (Line, Lines), and what it means to put a text into a buffer (Puts), and so
-- into an output (Outputs).
pub mod Puts
pub mod Outputs
pub mod Decimal
pub mod Line
pub mod Lines
pub mod laws
