-- What a search for faults knows of a scope: of the types in it their sizes alone.
use Rattle.std.specs.Prelude.{◌+◌, min, max, Bool, true, false, not, if◌then◌else◌, Option, Some, None, option_and_then}
use Rattle.std.specs.Option.{option_map_or}
use Rattle.ac_types.specs.Limits.{most_type_parts, highest_type}
use Rattle.ac_types.specs.Partial.{given}
use Rattle.ac_types.specs.Types.{Bytes, Typ, node_count, height, same_bytes}
use Rattle.ac_resolve_scopes.specs.Standard.{is_standard}
use Rattle.ac_resolve_signatures.specs.declared.size.Size.{Size}

-- the parts of a type and its height, each counted up to one past its limit
abbrev pub size_of : Typ → Size
size_of T = record { parts = min (node_count T) (most_type_parts + 1); height = min (height T) (highest_type + 1) }

abbrev pub size_of_leaf : Size
size_of_leaf = record { parts = 1; height = 1 }

abbrev pub size_of_none : Size
size_of_none = record { parts = 0; height = 0 }

-- of a type around, and of two types side by side
abbrev pub around : Size → Size
around s = record { parts = min (s.parts + 1) (most_type_parts + 1); height = min (s.height + 1) (highest_type + 1) }

abbrev pub side_by_side : Size → Size → Size
side_by_side s t = record { parts = min (s.parts + t.parts) (most_type_parts + 1); height = max s.height t.height }

-- what stands behind the name of a definition and a dot
pub record Members : Type 0 where
  pub types : Bytes → Option Size
  pub values : Bytes → Bool

pub record KnownScope : Type 0 where
  -- the definitions by their external names
  pub outer : Bytes → Option Members
  -- the types and the fields with a plain name
  pub types : Bytes → Option Size
  pub fields : Bytes → Bool

-- where a signature, a struct, a likespec or an expression begins
abbrev pub known_outside : (Bytes → Option Members) → KnownScope
known_outside outer = record { outer = outer; types = λ t. None; fields = λ x. false }

-- one more name
abbrev pub updated : {A : Type 0} → Bytes → A → (Bytes → Option A) → Bytes → Option A
updated name a known x = if same_bytes name x then Some a else known x

abbrev pub inserted : Bytes → (Bytes → Bool) → Bytes → Bool
inserted name known x = if same_bytes name x then true else known x

abbrev pub with_size : Bytes → Size → KnownScope → KnownScope
with_size t s K = record K { types = updated t s K.types }

abbrev pub with_named_field : Bytes → KnownScope → KnownScope
with_named_field x K = record K { fields = inserted x K.fields }

-- what `M.` calls, and what `M.t` and `M.x` do
abbrev pub called_definition : KnownScope → Bytes → Option Members
called_definition K m = given (not (is_standard m)) (K.outer m)

abbrev pub dotted_size : KnownScope → Bytes → Bytes → Option Size
dotted_size K m t = option_and_then (λ (b : Members). b.types t) (called_definition K m)

abbrev pub is_value_behind : KnownScope → Bytes → Bytes → Bool
is_value_behind K m x = option_map_or (λ (b : Members). b.values x) (called_definition K m) false
