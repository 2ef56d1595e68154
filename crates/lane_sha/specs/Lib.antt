pub mod Hmac
pub mod Lanes
pub mod Turns
pub mod Padding
pub mod Texts
