pub mod Rules
pub mod Accepted
pub mod Short
pub mod Tellable
pub mod WhichRow
