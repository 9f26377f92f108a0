pub mod Results
pub mod Records
pub use Rattle.nd_eval.specs.Faults
pub use Rattle.nd_syntax.specs.Trees.Syntax
