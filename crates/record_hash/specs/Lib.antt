pub mod Functions
pub mod Digests
pub mod ShaDigests
pub mod ToyDigests
pub mod Shapes
