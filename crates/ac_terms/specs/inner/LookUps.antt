-- What the look-ups of an environment have, and what of it comes and goes with an entry.
use Rattle.std.specs.Prelude.{◌≡◌, ◌≢◌, ℕ, Bool, true, false, ◌&&◌, List, ◌++◌, map, length, position, Option, Some}
use Rattle.std.specs.List.{list_any}
use Rattle.std.specs.Option.{option_map_or, option_or}
use Rattle.ac_types.specs.Types.{Bytes, same_bytes}
use Rattle.ac_types.specs.Sigs.{Sig_type, Signature, type_under, is_abstract}
use Rattle.ac_types.specs.Partial.{given}
use Rattle.ac_index.specs.Noted.{Noted, first_under, forgetting}
use Rattle.ac_terms.specs.declared.def.Entry as code
use Rattle.ac_terms.specs.Defs.{Def, Entry, names, signature, find_name, declares}
use Rattle.ac_terms.specs.Read.{entry_of}

-- a type of a name has the number of the first entry that declares it, under the name's 32 bytes and then the word
pub record AreInStep (named declared : Noted) (es : List code.Entry) : Type 0 where
  pub names : (n : Bytes) → first_under named n ≡ find_name (map entry_of es) n
  pub types : (n t : Bytes) → length n ≡ 32 → first_under declared (n ++ t) ≡ position (declares n t) (map entry_of es)

-- nothing has the number i
pub record AreBefore (i : ℕ) (named declared : Noted) : Type 0 where
  pub names : (n : Bytes) → first_under named n ≢ Some i
  pub types : (n t : Bytes) → length n ≡ 32 → first_under declared (n ++ t) ≢ Some i

-- whether a definition has the type t in its signature, and whether abstract
abbrev pub has_type : Bytes → Def → Bool
has_type t d = option_map_or (λ (s : Signature). list_any (λ (x : Sig_type). same_bytes x.name t) s.types) (signature d) false

abbrev pub has_abstract : Bytes → Def → Bool
has_abstract t d = option_map_or (λ (s : Signature). is_abstract (type_under t s.types)) (signature d) false

-- whether an entry keeps the name n and has the type t in its signature
abbrev pub lists : Bytes → Bytes → Entry → Bool
lists n t e = names e.name n && has_type t e.def

-- under a type's key: noted where the type is abstract, and else forgotten
abbrev pub spec_noted : Bool → Bool → ℕ → Option ℕ → Option ℕ
spec_noted true here i o = option_or o (given here (Some i))
spec_noted false here i o = forgetting here i o

-- the entry e has the number i there from now on, where no earlier one has its name or its type
pub record AreNoted (i : ℕ) (e : Entry) (named declared named' declared' : Noted) : Type 0 where
  pub names : (n : Bytes) → first_under named' n ≡ option_or (first_under named n) (given (names e.name n) (Some i))
  pub types : (n t : Bytes) → length n ≡ 32 → first_under declared' (n ++ t) ≡ option_or (first_under declared (n ++ t)) (given (declares n t e) (Some i))

-- the entry e has the number i there no longer
pub record AreForgotten (i : ℕ) (e : Entry) (named declared named' declared' : Noted) : Type 0 where
  pub names : (n : Bytes) → first_under named' n ≡ forgetting (names e.name n) i (first_under named n)
  pub types : (n t : Bytes) → length n ≡ 32 → first_under declared' (n ++ t) ≡ forgetting (lists n t e) i (first_under declared (n ++ t))

-- nothing has changed
pub record AreKept (named declared named' declared' : Noted) : Type 0 where
  pub names : (n : Bytes) → first_under named' n ≡ first_under named n
  pub types : (n t : Bytes) → length n ≡ 32 → first_under declared' (n ++ t) ≡ first_under declared (n ++ t)
