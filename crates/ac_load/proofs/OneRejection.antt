-- What is rejected is rejected in one part and as one kind.
use Rattle.std.proofs.Common.{◌≡◌, ℕ, List}
use Rattle.sha2.specs.Sha256.{sha256}
use Rattle.ac_types.specs.Types.{Bytes}
use Rattle.ac_syntax.specs.declared.fault.ParseFault.{ParseFault}
use Rattle.ac_syntax.specs.Texts.{SameCause, same, both_syntax}
use Rattle.ac_load_rules.specs.Causes.{Cause}
use Rattle.ac_load_rules.specs.Accepting.{Shelved, SameRefusal, equal as one_cause, unparsed}
use Rattle.ac_load_rules.proofs.OneAnswer.{one_refused}
use Rattle.ac_load.specs.Kinds.{parse_kind, kind_of, of_cause}
use Rattle.ac_load.specs.Loading.{Rejects, SameKind, equal, two_places}
use Rattle.ac_load.specs.declared.kind.Kind.{Kind}

same_fault : {e f : ParseFault} → SameCause e f → SameKind (parse_kind e) (parse_kind f)
same_fault same = equal
same_fault both_syntax = two_places

same_kind : {c d : Cause} → SameRefusal c d → SameKind (kind_of c) (kind_of d)
same_kind one_cause = equal
same_kind (unparsed s) = same_fault s

pub one_rejected : (text : Bytes) (shelf : List Shelved) (k n : ℕ) (a b : Kind) → Rejects text shelf k a → Rejects text shelf n b → (k ≡ n) × SameKind a b
one_rejected text shelf k n a b (of_cause r) (of_cause q) = let one = one_refused sha256 r q in (one.part, same_kind one.cause)
