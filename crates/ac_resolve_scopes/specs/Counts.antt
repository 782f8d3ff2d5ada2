-- The search for counts that pass their limits. What is found is one more than the limit.
use Rattle.std.specs.Prelude.{ℕ, suc, nat_le, if◌then◌else◌, List, [], length, Option, Some, None, unwrap_or}
use Rattle.ac_types.specs.Limits.{most_items, most_arms, widest_tuple, most_variables, most_resolves, longest_uri, most_type_parts, highest_type}
use Rattle.ac_types.specs.Types.{node_count, height}
use Rattle.ac_types.specs.Sigs.{Resolve, Uri}
use Rattle.ac_syntax.specs.Trees.{TypeTree, TyInt, TyBool, TyStr, TyUnit, TyExn, TyLocal, TyOf, TyTuple, TyList, TyOpt, TyFun, TypeTrees, no_type_trees, type_tree, PatTree, PatWild, PatVar, PatInt, PatBool, PatStr, PatUnit, PatTuple, PatNil, PatCons, PatAbsent, PatPresent, PatExn, PatExnOf, PatTrees, no_pat_trees, pat_tree, SigTree, FieldTree, DefTree, ModuleDef, ImportDef, MarkDef}
use Rattle.ac_resolve_scopes.specs.Scopes.{NameScope, each_in}
use Rattle.ac_resolve_scopes.specs.Written.{type_in}
use Rattle.ac_resolve_scopes.specs.Definitions.{after_spec, after_field, spec_type, spec_value, item_type, item_field}
use Rattle.ac_resolve_scopes.specs.Searches.{Search, least, least_of, found_in_def}

-- what a count gives at its limit
abbrev pub over : ℕ → ℕ → Option ℕ
over limit count = if nat_le count limit then None else Some (suc limit)

abbrev pub type_tree_count : TypeTrees → ℕ
type_tree_count no_type_trees = 0
type_tree_count (type_tree t ts) = suc (type_tree_count ts)

abbrev pub pat_count : PatTrees → ℕ
pat_count no_pat_trees = 0
pat_count (pat_tree p ps) = suc (pat_count ps)

-- the tuples of a type as it stands
abbrev mutual
  pub wide_type : TypeTree → Option ℕ
  wide_type (TyTuple at parts) = least (over widest_tuple (type_tree_count parts)) (wide_types parts)
  wide_type (TyList at item) = wide_type item
  wide_type (TyOpt at item) = wide_type item
  wide_type (TyFun at from to) = least (wide_type from) (wide_type to)
  wide_type (TyInt at) = None
  wide_type (TyBool at) = None
  wide_type (TyStr at) = None
  wide_type (TyUnit at) = None
  wide_type (TyExn at) = None
  wide_type (TyLocal at t) = None
  wide_type (TyOf at m t) = None

  pub wide_types : TypeTrees → Option ℕ
  wide_types no_type_trees = None
  wide_types (type_tree t ts) = least (wide_type t) (wide_types ts)

-- a type where it is written: its tuples, and its height and its parts once it is written out
abbrev pub large_type : NameScope → TypeTree → Option ℕ
large_type S t = least (wide_type t) (least (over highest_type (height (type_in S t))) (over most_type_parts (node_count (type_in S t))))

abbrev mutual
  pub large_pattern : NameScope → PatTree → Option ℕ
  large_pattern S (PatVar at name ty) = large_type S ty
  large_pattern S (PatTuple at parts) = least (over widest_tuple (pat_count parts)) (large_patterns S parts)
  large_pattern S (PatCons at head tail) = least (large_pattern S head) (large_pattern S tail)
  large_pattern S (PatPresent at item) = large_pattern S item
  large_pattern S (PatExnOf at number item) = large_pattern S item
  large_pattern S (PatWild at) = None
  large_pattern S (PatInt at n) = None
  large_pattern S (PatBool at b) = None
  large_pattern S (PatStr at text) = None
  large_pattern S (PatUnit at) = None
  large_pattern S (PatNil at) = None
  large_pattern S (PatAbsent at) = None
  large_pattern S (PatExn at number) = None

  pub large_patterns : NameScope → PatTrees → Option ℕ
  large_patterns S no_pat_trees = None
  large_patterns S (pat_tree p ps) = least (large_pattern S p) (large_patterns S ps)

-- at the leaves of an expression the most variables are in scope
abbrev pub crowded : NameScope → Option ℕ
crowded S = over most_variables (length S.variables)

abbrev pub large : Search
large = record {
  ty = large_type;
  pattern = large_pattern;
  variable = λ S at x. crowded S;
  dotted = λ S m x. crowded S;
  constant = crowded;
  parts = over widest_tuple;
  arms = over most_arms;
}

-- the types and the values of a signature and of a struct, the types of a likespec, and a resolvespec
abbrev pub many_items : {A B : Type 0} → List A → List B → Option ℕ
many_items types values = least (over most_items (length types)) (over most_items (length values))

abbrev pub many_in_sig : NameScope → SigTree → Option ℕ
many_in_sig S σ = many_items (each_in after_spec spec_type S σ.specs) (each_in after_spec spec_value S σ.specs)

abbrev pub many_in_struct : NameScope → List FieldTree → Option ℕ
many_in_struct S fields = many_items (each_in after_field item_type S fields) (each_in after_field item_field S fields)

abbrev pub long_uri : Resolve → Option ℕ
long_uri (Uri u) = over longest_uri (length u)
long_uri _ = None

abbrev pub many_atoms : List Resolve → Option ℕ
many_atoms by = least (over most_resolves (length by)) (least_of long_uri by)

abbrev pub many_in_lists : NameScope → DefTree → Option ℕ
many_in_lists S (ModuleDef at name σ version fields) = least (many_in_sig S σ) (many_in_struct S fields)
many_in_lists S (ImportDef at name σ wants like by) = least (many_in_sig S σ) (least (over most_items (length (unwrap_or like []))) (many_atoms by))
many_in_lists S (MarkDef at text_at text) = None

abbrev pub large_in_def : NameScope → DefTree → Option ℕ
large_in_def S d = least (many_in_lists S d) (found_in_def large S d)
