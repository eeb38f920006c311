pub mod Mirrors
pub mod Following
pub mod Taking
pub mod Objects
pub mod Laws
pub mod Clusters
