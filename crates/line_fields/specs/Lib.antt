pub mod Field
pub mod Need
pub mod LineRead
