pub mod Plan
pub mod Running
pub mod ProfilePromise
pub mod ReadToEnd
pub mod TextSteps
pub mod TextPromise
