pub mod Fine
pub mod Numbers
pub mod RowKinds
