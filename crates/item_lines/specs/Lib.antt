pub mod ItemText
