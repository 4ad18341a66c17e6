pub mod RowText
