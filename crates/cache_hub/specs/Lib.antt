pub mod OpenLanes
pub mod Due
pub mod Catching
pub mod Hubs
