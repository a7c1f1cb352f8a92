pub mod CheckAnswers
pub mod Checked
