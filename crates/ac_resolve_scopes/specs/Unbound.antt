-- The search for names that aren't in scope: variables and fields, types, definitions, and what stands behind a dot. What is found is the place of the name.
use Rattle.std.specs.Prelude.{ℕ, ◌||◌, Bool, true, false, is_some, Option, Some, None}
use Rattle.ac_syntax.specs.Trees.{NameAt, TypeTree, TyInt, TyBool, TyStr, TyUnit, TyExn, TyLocal, TyOf, TyTuple, TyList, TyOpt, TyFun, TypeTrees, no_type_trees, type_tree, PatTree, PatWild, PatVar, PatInt, PatBool, PatStr, PatUnit, PatTuple, PatNil, PatCons, PatAbsent, PatPresent, PatExn, PatExnOf, PatTrees, no_pat_trees, pat_tree, WantsTree, WantsVersion, WantsName, DefTree, ImportDef}
use Rattle.ac_resolve_scopes.specs.Standard.{is_standard}
use Rattle.ac_resolve_scopes.specs.Scopes.{NameScope, definition, before_dot, plain_type, dotted_type, plain_value, dotted_value}
use Rattle.ac_resolve_scopes.specs.Searches.{Search, least, found_in_def}

-- the place, where nothing is there
abbrev pub unless : {A : Type 0} → Option A → ℕ → Option ℕ
unless None at = Some at
unless (Some x) at = None

-- of `M.x` the first name is unbound, or the second
abbrev pub unbound_behind : {A : Type 0} → Bool → Option A → NameAt → NameAt → Option ℕ
unbound_behind false o m x = Some m.at
unbound_behind true o m x = unless o x.at

abbrev mutual
  pub unbound_type : NameScope → TypeTree → Option ℕ
  unbound_type S (TyInt at) = None
  unbound_type S (TyBool at) = None
  unbound_type S (TyStr at) = None
  unbound_type S (TyUnit at) = None
  unbound_type S (TyExn at) = None
  unbound_type S (TyLocal at t) = unless (plain_type S t) at
  unbound_type S (TyOf at m t) = unbound_behind (is_some (before_dot S m.word)) (dotted_type S m.word t.word) m t
  unbound_type S (TyTuple at parts) = unbound_types S parts
  unbound_type S (TyList at item) = unbound_type S item
  unbound_type S (TyOpt at item) = unbound_type S item
  unbound_type S (TyFun at from to) = least (unbound_type S from) (unbound_type S to)

  pub unbound_types : NameScope → TypeTrees → Option ℕ
  unbound_types S no_type_trees = None
  unbound_types S (type_tree t ts) = least (unbound_type S t) (unbound_types S ts)

-- in the types of a pattern
abbrev mutual
  pub unbound_pattern : NameScope → PatTree → Option ℕ
  unbound_pattern S (PatVar at name ty) = unbound_type S ty
  unbound_pattern S (PatTuple at parts) = unbound_patterns S parts
  unbound_pattern S (PatCons at head tail) = least (unbound_pattern S head) (unbound_pattern S tail)
  unbound_pattern S (PatPresent at item) = unbound_pattern S item
  unbound_pattern S (PatExnOf at number item) = unbound_pattern S item
  unbound_pattern S (PatWild at) = None
  unbound_pattern S (PatInt at n) = None
  unbound_pattern S (PatBool at b) = None
  unbound_pattern S (PatStr at text) = None
  unbound_pattern S (PatUnit at) = None
  unbound_pattern S (PatNil at) = None
  unbound_pattern S (PatAbsent at) = None
  unbound_pattern S (PatExn at number) = None

  pub unbound_patterns : NameScope → PatTrees → Option ℕ
  unbound_patterns S no_pat_trees = None
  unbound_patterns S (pat_tree p ps) = least (unbound_pattern S p) (unbound_patterns S ps)

abbrev pub unbound : Search
unbound = record {
  ty = unbound_type;
  pattern = unbound_pattern;
  variable = λ S at x. unless (plain_value S x) at;
  dotted = λ S m x. unbound_behind (is_standard m.word || is_some (definition S m.word)) (dotted_value S m.word x.word) m x;
  constant = λ S. None;
  parts = λ n. None;
  arms = λ n. None;
}

-- the name that an import demands is that of a definition
abbrev pub unbound_wants : NameScope → WantsTree → Option ℕ
unbound_wants S (WantsVersion constraint) = None
unbound_wants S (WantsName name) = unless (definition S name.word) name.at

abbrev pub unbound_demand : NameScope → DefTree → Option ℕ
unbound_demand S (ImportDef at name σ wants like by) = unbound_wants S wants
unbound_demand _ _ = None

abbrev pub unbound_in_def : NameScope → DefTree → Option ℕ
unbound_in_def S d = least (unbound_demand S d) (found_in_def unbound S d)
