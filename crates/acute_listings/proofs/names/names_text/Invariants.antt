use Rattle.std.proofs.Common.{◌≡◌, ◌≤◌, ◌++◌, drop, map}
use Rattle.ac_terms.specs.Read.{entry_of, environment_of}
use Rattle.acute_listings.specs.DefinitionNames.{names_from, names_shown}
use Rattle.acute_listings.proofs.names.names_text.Given as goal

abbrev pub invariant-loop-entry : goal.invariant-loop-entry
invariant-loop-entry l = record {
  written : l.text.0 ++ names_from l.number (map entry_of (drop l.entry-index l.env.entries)) ≡ names_shown (environment_of l.env);
  few : l.number ≤ l.entry-index;
}
