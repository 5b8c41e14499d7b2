-- Records of a lent table that are made.
pub mod Loans
pub mod laws
