-- How types are read exactly, and signatures whatever reads types.
use Rattle.std.specs.Prelude.{ℕ, zero, suc, Bool, true, false, List, [], ◌∷◌, Option, Some, None}
use Rattle.ac_types.specs.Limits.{highest_type, most_items}
use Rattle.ac_types.specs.Types.{Typ, TInt, TBool, TStr, TUnit, TExn, TTuple, TList, TOpt, TFun, TAbs, TMine, no_types, typ, is_small}
use Rattle.ac_types.specs.Sigs.{Typed_name, Sig_type, Signature}
use Rattle.ac_terms.specs.PacketReading.{ReadsPart, give, one, then_read, two_parts_read, times, read_list, tagged, nothing, a_sig_type, a_typed, a_signature}
use Rattle.ac_decode_pieces.specs.ExactReading.{passing, exact_width, exact_name, exact_lower, exact_long_count}

-- an own abstract type stands in a signature alone
abbrev pub exact_mine : Bool → ReadsPart Typ
exact_mine true = one TMine exact_lower
exact_mine false = nothing

-- a type of at most that height
abbrev pub exact_type_table : Bool → ReadsPart Typ → List (ReadsPart Typ)
exact_type_table own f =
    nothing ∷ give TInt ∷ give TBool ∷ give TStr ∷ give TUnit ∷ give TExn ∷
    one TTuple (then_read exact_width (times no_types typ f)) ∷ one TList f ∷ one TOpt f ∷ two_parts_read TFun f f ∷
    two_parts_read TAbs exact_name exact_lower ∷ exact_mine own ∷ []

unfoldable pub exact_type_of : Bool → ℕ → ReadsPart Typ
exact_type_of own zero bs = None
exact_type_of own (suc k) bs = tagged (exact_type_table own (exact_type_of own k)) bs

-- a small type
unfoldable pub exact_type : Bool → ReadsPart Typ
exact_type own = passing is_small (exact_type_of own highest_type)

-- signatures, where `read_type` says whether own abstract types may stand in a type
module _ (read_type : Bool → ReadsPart Typ) where
  abbrev pub manifest_table : List (ReadsPart (Option Typ))
  manifest_table = give None ∷ one Some (read_type true) ∷ []

  unfoldable pub exact_manifest : ReadsPart (Option Typ)
  exact_manifest bs = tagged manifest_table bs

  unfoldable pub exact_sig_type : ReadsPart Sig_type
  exact_sig_type = two_parts_read a_sig_type exact_lower exact_manifest

  unfoldable pub exact_typed : Bool → ReadsPart Typed_name
  exact_typed own = two_parts_read a_typed exact_lower (read_type own)

  -- the types of a struct or of a likespec, and the values of a signature
  unfoldable pub exact_all_typed : Bool → ReadsPart (List Typed_name)
  exact_all_typed own = read_list (exact_long_count 0 most_items) (exact_typed own)

  unfoldable pub exact_sig_types : ReadsPart (List Sig_type)
  exact_sig_types = read_list (exact_long_count 0 most_items) exact_sig_type

  unfoldable pub exact_sig : ReadsPart Signature
  exact_sig = two_parts_read a_signature exact_sig_types (exact_all_typed true)
