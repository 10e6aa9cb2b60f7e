pub use Rattle.fq_messages.specs.Ending
pub use Rattle.fq_messages.specs.Input
pub use Rattle.fq_shell.specs.Arguments
pub mod Program
pub mod Named
pub mod Examples
