-- What the laws of the host cite, in reading order.
pub mod Running
pub mod Carried
pub mod Served
pub mod SettingUp
pub mod Mirroring
