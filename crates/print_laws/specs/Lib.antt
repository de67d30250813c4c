pub mod Items
pub mod ItemTokens
pub mod ItemWalk
pub mod Fitting
pub mod ItemsReadBack
pub mod ModelsReadBack
pub mod SameModels
pub mod InTheProfile
