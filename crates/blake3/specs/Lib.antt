pub mod Tree
pub mod Firsts
pub mod TreeLaws
pub mod FirstLaws
pub mod ByteLaws
