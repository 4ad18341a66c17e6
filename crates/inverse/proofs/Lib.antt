pub mod Sorted
pub mod Small
pub mod Fronts
pub mod Leaf
pub mod Single
pub mod Claims
