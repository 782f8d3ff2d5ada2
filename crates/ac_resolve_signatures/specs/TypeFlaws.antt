-- What is wrong with types, by what is known of a scope.
use Rattle.std.specs.Prelude.{ℕ, is_some, Option, None, unwrap_or}
use Rattle.ac_types.specs.Limits.{widest_tuple, highest_type, most_type_parts}
use Rattle.ac_syntax.specs.Trees.{TypeTree, TyInt, TyBool, TyStr, TyUnit, TyExn, TyLocal, TyOf, TyTuple, TyList, TyOpt, TyFun, TypeTrees, no_type_trees, type_tree}
use Rattle.ac_resolve_scopes.specs.Unbound.{unless, unbound_behind}
use Rattle.ac_resolve_scopes.specs.Counts.{over, type_tree_count}
use Rattle.ac_resolve_signatures.specs.declared.flaws.Flaws.{Flaws}
use Rattle.ac_resolve_signatures.specs.declared.size.Size.{Size}
use Rattle.ac_resolve_signatures.specs.declared.types.Measured.{Measured}
use Rattle.ac_resolve_signatures.specs.Joined.{no_flaws, missing, counts, flaws_joined}
use Rattle.ac_resolve_signatures.specs.KnownScopes.{KnownScope, size_of_leaf, size_of_none, around, side_by_side, called_definition, dotted_size}

-- a type without parts: what is wrong with its name, and its size
abbrev pub leaf_of : Option ℕ → Option Size → Measured
leaf_of place size = record { flaws = missing place; size = unwrap_or size size_of_leaf }

abbrev pub constant_type : Measured
constant_type = leaf_of None None

abbrev pub no_type : Measured
no_type = record { flaws = no_flaws; size = size_of_none }

abbrev pub measured_around : Measured → Measured
measured_around m = record m { size = around m.size }

abbrev pub measured_both : Measured → Measured → Measured
measured_both a b = record { flaws = flaws_joined a.flaws b.flaws; size = side_by_side a.size b.size }

abbrev pub measured_with : Flaws → Measured → Measured
measured_with f m = record m { flaws = flaws_joined f m.flaws }

-- the names and the tuples of a type, and its size once it is written out; of more types behind others
abbrev mutual
  pub measured : KnownScope → TypeTree → Measured
  measured K (TyInt at) = constant_type
  measured K (TyBool at) = constant_type
  measured K (TyStr at) = constant_type
  measured K (TyUnit at) = constant_type
  measured K (TyExn at) = constant_type
  measured K (TyLocal at t) = leaf_of (unless (K.types t) at) (K.types t)
  measured K (TyOf at m t) = leaf_of (unbound_behind (is_some (called_definition K m.word)) (dotted_size K m.word t.word) m t) (dotted_size K m.word t.word)
  measured K (TyTuple at parts) = measured_with (counts (over widest_tuple (type_tree_count parts))) (measured_around (measured_all K no_type parts))
  measured K (TyList at item) = measured_around (measured K item)
  measured K (TyOpt at item) = measured_around (measured K item)
  measured K (TyFun at from to) = measured_around (measured_both (measured K from) (measured K to))

  pub measured_all : KnownScope → Measured → TypeTrees → Measured
  measured_all K found no_type_trees = found
  measured_all K found (type_tree t ts) = measured_all K (measured_both found (measured K t)) ts

-- what is wrong with a type where it is written
abbrev pub size_flaws : Size → Flaws
size_flaws s = flaws_joined (counts (over highest_type s.height)) (counts (over most_type_parts s.parts))

abbrev pub written_flaws : Measured → Flaws
written_flaws m = flaws_joined m.flaws (size_flaws m.size)

abbrev pub type_flaws : KnownScope → TypeTree → Flaws
type_flaws K t = written_flaws (measured K t)
