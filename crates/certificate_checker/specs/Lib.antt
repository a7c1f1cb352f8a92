pub mod Places
pub mod BoundPlaces
pub mod inside
