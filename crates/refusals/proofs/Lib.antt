pub mod Order
pub mod Numbered
pub mod Apart
pub mod Within
pub mod Calls
pub mod Scans
