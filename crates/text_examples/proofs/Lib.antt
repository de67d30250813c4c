pub mod Evaluation
pub mod VehicleTree
