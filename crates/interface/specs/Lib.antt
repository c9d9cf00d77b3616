pub mod Interface
pub mod Narrow
pub mod InterfaceLaws
