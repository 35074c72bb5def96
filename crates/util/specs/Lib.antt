pub use Rattle.zero.specs.Zero
pub mod Small
