pub mod Crossing
pub mod HeapBox
pub mod Parts
