pub mod LoopLaws
pub mod StoreLimits
pub mod OutcomeLimits
pub mod TickLaws
