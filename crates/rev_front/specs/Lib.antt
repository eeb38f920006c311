pub mod Passes
pub mod Rule
pub mod Kept
pub use Rattle.atomic_table.specs.Seated
