pub mod Dvalues
