-- The verdicts of texts beside a shelf.
use Rattle.std.specs.Prelude.{List, [], ◌∷◌}
use Rattle.ac_types.specs.Types.{Bytes, Typ}
use Rattle.ac_types.specs.declared.text.Text.{Text}
use Rattle.ac_terms.specs.Terms.{Expr}
use Rattle.ac_terms.specs.Defs.{Environment}
use Rattle.ac_load_rules.specs.Accepting.{Shelved}
use Rattle.ac_load.specs.Loading.{Loads, Rejects}
use Rattle.ac_load.specs.declared.kind.Refusal.{Refusal}
use Rattle.ac_batch.specs.declared.verdict.Verdict.{Verdict}
use Rattle.ac_batch.specs.declared.verdict.Verdict.TheVariants.{Accepted, Refused}

-- a text that loads is accepted, and one that is rejected is refused with its part and kind
pub data IsVerdict (text : Bytes) (shelf : List Shelved) : Verdict → Type 0 where
  accepted : {E : Environment} {e : Expr} {T : Typ} → Loads text shelf E e T → IsVerdict text shelf Accepted
  refused : {r : Refusal} → Rejects text shelf r.part r.kind → IsVerdict text shelf (Refused r)

-- one verdict for each text, in order
abbrev pub AreVerdicts : List Text → List Shelved → List Verdict → Type 0
AreVerdicts [] shelf [] = Unit {0}
AreVerdicts (t ∷ ts) shelf (v ∷ vs) = IsVerdict t.0 shelf v × AreVerdicts ts shelf vs
AreVerdicts texts shelf vs = ⊥
