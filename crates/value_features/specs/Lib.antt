pub mod Deciders
