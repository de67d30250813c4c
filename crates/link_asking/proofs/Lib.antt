pub mod LeastLaws
pub mod HidingLaws
pub mod AskLaws
pub mod TurnLaws
pub mod OutcomeLaws
pub mod StartLaws
