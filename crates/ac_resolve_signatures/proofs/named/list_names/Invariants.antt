use Rattle.std.proofs.Common.{◌≡◌, [], map, drop}
use Rattle.std.specs.Prelude.{is_some}
use Rattle.ac_types.specs.Types.{Bytes}
use Rattle.ac_resolve_scopes.specs.Scopes.{binders_to}
use Rattle.ac_resolve_scopes.specs.Searches.{least}
use Rattle.ac_resolve_scopes.specs.Repeated.{repeated_name}
use Rattle.ac_resolve_signatures.specs.Reads.{named, contains_name}
use Rattle.ac_resolve_signatures.proofs.Repeats.{seen_words}
use Rattle.ac_resolve_signatures.proofs.named.list_names.Given as goal

abbrev pub invariant-loop-name : goal.invariant-loop-name
invariant-loop-name l = record {
  seen : (x : Bytes) → contains_name l.words x ≡ is_some (binders_to x (seen_words l.name-index l.names));
  first : repeated_name [] (map named l.names) ≡ least l.repeated (repeated_name (seen_words l.name-index l.names) (map named (drop l.name-index l.names)));
}
