pub mod Permutation
pub mod PermutationLaws
pub mod Shuffle
pub mod Always
pub mod Cases
pub mod Turns
