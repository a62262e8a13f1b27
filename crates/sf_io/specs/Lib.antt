pub mod Count
pub mod Pull
pub mod Push
pub mod Calls
pub mod MemSource
pub mod MemSink
