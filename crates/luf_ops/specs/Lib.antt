-- The operations, their instructions, and the word of an instruction.
pub mod Operation
pub mod Instruction
