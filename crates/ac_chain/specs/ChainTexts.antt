-- Which texts of a chain load beside a shelf, and the first that doesn't.
use Rattle.std.specs.Prelude.{◌≡◌, ℕ, List, [], ◌∷◌, ◌++◌, length, map}
use Rattle.ac_types.specs.Types.{Bytes, Typ}
use Rattle.ac_types.specs.declared.text.Text.{Text}
use Rattle.ac_terms.specs.Read.{bytes_of, environment_of, expr_of}
use Rattle.ac_rules.specs.declared.loaded.Loaded.{Loaded}
use Rattle.ac_load_rules.specs.Accepting.{Shelved}
use Rattle.ac_load.specs.Loading.{Loads, Rejects}
use Rattle.ac_load.specs.declared.kind.Kind.{Kind}
use Rattle.ac_colours.specs.Chains.{Programs}

-- the bytes of the texts
abbrev pub texts_of : List Text → List Bytes
texts_of texts = map bytes_of texts

-- programs that are loaded, as their entries and terms
abbrev pub programs_of : List Loaded → Programs
programs_of loaded = map (λ (l : Loaded). (environment_of l.env, expr_of l.main)) loaded

-- each text loads as the program at its place
abbrev pub LoadAs : List Bytes → List Shelved → Programs → Type 0
LoadAs [] shelf [] = Unit {0}
LoadAs (t ∷ ts) shelf (p ∷ ps) = ((T : Typ) × Loads t shelf p.0 p.1 T) × LoadAs ts shelf ps
LoadAs [] shelf (p ∷ ps) = ⊥
LoadAs (t ∷ ts) shelf [] = ⊥

-- the first text that is rejected, counted from 0, its part and the kind of the cause
pub record RejectsFirst (texts : List Bytes) (shelf : List Shelved) (program part : ℕ) (kind : Kind) : Type 0 where
  pub before : List Bytes
  pub text : Bytes
  pub after : List Bytes
  pub order : texts ≡ before ++ text ∷ after
  pub number : program ≡ length before
  pub programs : Programs
  pub load : LoadAs before shelf programs
  pub rejected : Rejects text shelf part kind
