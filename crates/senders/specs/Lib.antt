-- Sets of senders: as tests on numbers (Sets), and as the masks that a program holds (Masks, with the laws in MaskLaws and Within).
pub mod Sets
pub mod Masks
pub mod laws
