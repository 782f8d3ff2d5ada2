-- A text beside a shelf loads as one program, or is rejected.
use Rattle.std.proofs.Common.{◌≡◌, ℕ, List}
use Rattle.sha2.specs.Sha256.{sha256}
use Rattle.ac_types.specs.Types.{Bytes, Typ}
use Rattle.ac_terms.specs.Terms.{Expr}
use Rattle.ac_terms.specs.Defs.{Environment}
use Rattle.ac_load_rules.specs.Accepting.{Shelved}
use Rattle.ac_load_rules.proofs.OneAnswer.{one_result}
use Rattle.ac_load.specs.Loading.{Loads, Rejects}
use Rattle.ac_load.specs.declared.kind.Kind.{Kind}
use Rattle.ac_load.proofs.Loaded as loaded

pub not_rejected : {text : Bytes} {shelf : List Shelved} {part : ℕ} {kind : Kind} {E : Environment} {e : Expr} {T : Typ} → Rejects text shelf part kind → Loads text shelf E e T → ⊥
not_rejected {text} {shelf} {part} {kind} {E} {e} {T} r l = loaded.not_rejected text shelf part kind E e T r l

pub one_program : {text : Bytes} {shelf : List Shelved} {E F : Environment} {e f : Expr} {T U : Typ} → Loads text shelf E e T → Loads text shelf F f U → (E ≡ F) × (e ≡ f)
one_program a b = let x = one_result sha256 a b in (x.0, x.1)
