pub mod Instruction
pub mod Short
