pub mod Adduct
pub mod Table
pub mod Charges
pub mod Fit
pub mod Selected
pub mod inside
