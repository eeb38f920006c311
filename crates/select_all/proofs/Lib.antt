pub mod StreamLaws
pub mod EventLaws
pub mod ListingLaws
pub mod FloorLaws
pub mod FloorSteps
pub mod OrderLaws
pub mod FollowLaws
pub mod SelectionLaws
