-- The search for leaves at which too many variables are in scope.
use Rattle.std.specs.Prelude.{None}
use Rattle.ac_resolve_scopes.specs.Searches.{Search}
use Rattle.ac_resolve_scopes.specs.Counts.{crowded}

abbrev pub crowd : Search
crowd = record {
  ty = λ S T. None;
  pattern = λ S p. None;
  variable = λ S at x. crowded S;
  dotted = λ S m x. None;
  constant = λ S. None;
  parts = λ n. None;
  arms = λ n. None;
}
