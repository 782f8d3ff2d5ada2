-- The variables of a function's outside.
use Rattle.std.specs.Prelude.{◌≡◌, ℕ, ◌+◌, true, List, [], ◌∷◌, Some}
use Rattle.ac_types.specs.Types.{Typ, TInt}
use Rattle.ac_terms.specs.Terms.{Home}
use Rattle.ac_terms.specs.Defs.{Environment}
use Rattle.ac_rules.specs.Views.{Coloured}
use Rattle.ac_rules.specs.Typing.{kept_in, type_seen}
use Rattle.ac_meaning.specs.BareTerms.{BareValue}
use Rattle.ac_meaning.specs.BareReduction.{BareWritten}
use Rattle.ac_meaning.specs.Substitution.{Slot, Free, Bound}

-- under so many binders more
abbrev pub slot_under : {V : Type 0} → ℕ → Slot V → Slot V
slot_under d (Free i) = Free (d + i)
slot_under d (Bound T v) = Bound T v

-- the types behind the newest, and the newest, which counts as an int where none is kept
abbrev pub later : List Typ → List Typ
later [] = []
later (T ∷ Ts) = Ts

abbrev pub newest_type : List Typ → Typ
newest_type [] = TInt
newest_type (T ∷ Ts) = T

-- the types of captured values as a home sees them, the newest first; one that has none there has one that no term has
abbrev pub IsTypeSeen : Environment → Home → Typ × BareValue → Typ → Type 0
IsTypeSeen E h w T = kept_in Coloured (Some T) ≡ kept_in Coloured (type_seen Coloured true E h w.0)

abbrev pub AreTypes : Environment → Home → BareWritten → List Typ → Type 0
AreTypes E h [] [] = Unit {0}
AreTypes E h (w ∷ ws) (T ∷ Ts) = IsTypeSeen E h w T × AreTypes E h ws Ts
AreTypes _ _ _ _ = ⊥
