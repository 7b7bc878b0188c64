pub mod Stages
pub mod States
