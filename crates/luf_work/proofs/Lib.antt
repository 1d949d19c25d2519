pub mod Answered
pub mod FormatLemmas
pub mod ListLemmas
pub mod MinifyLemmas
pub mod RefusalLemmas
pub mod WantOfMemory
