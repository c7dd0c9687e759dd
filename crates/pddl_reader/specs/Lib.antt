pub use Rattle.domain_reader.specs.Domains
pub use Rattle.problem_reader.specs.Problems
