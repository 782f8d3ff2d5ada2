-- What is repeated, and what stands in front of it, computed. Each text stands above its tree.
use Rattle.std.proofs.Common.{◌≡◌, refl}
use Rattle.std.specs.Prelude.{pos, true, [], ◌∷◌, codes, Some, None, Ok}
use Rattle.ac_types.specs.Types.{Bytes, TInt}
use Rattle.ac_types.specs.Sigs.{Ranges, HereAlready}
use Rattle.ac_terms.specs.Terms.{Var, Let}
use Rattle.ac_syntax.specs.Trees.{TyInt, TyBool, TyLocal, TyTuple, TyFun, type_trees, PatVar, PatTuple, pat_trees, ExInt, ExUnit, ExTuple, ExVar, ExFun, ExLet, ExMatch, trees, arm_trees, AbstractSpec, ManifestSpec, ValSpec, AbbrevField, ValField, WantsVersion, ModuleDef, ImportDef, MarkDef}
use Rattle.ac_resolve_scopes.specs.Surfaces.{Unbound, Repeated}
use Rattle.ac_resolve_scopes.proofs.Samples.{name, sig, abbreviation, program, number, refuses, means, M, N, f, p, t, x, y}

module _ (digest : Bytes → Bytes) where
  -- a type twice in a signature
  --   module M : sig type t type t = int end = struct end ()
  type_twice : refuses digest [] (program (ModuleDef 0 (name 7 M) (sig 11 (AbstractSpec (name 20 t) ∷ ManifestSpec (abbreviation (name 27 t) (TyInt 31)) ∷ [])) None [] ∷ []) (ExUnit 52)) ≡ Some (Repeated 27)
  type_twice = refl

  -- a value
  --   module M : sig val x : int type t val x : t end = struct end ()
  value_twice : refuses digest [] (program (ModuleDef 0 (name 7 M) (sig 11 (ValSpec (name 19 x) (TyInt 23) ∷ AbstractSpec (name 32 t) ∷ ValSpec (name 38 x) (TyLocal 42 t) ∷ [])) None [] ∷ []) (ExUnit 61)) ≡ Some (Repeated 38)
  value_twice = refl

  -- also in that of an import
  --   import M : sig val x : int val x : int end version * by Here_Already ()
  value_twice_in_an_import : refuses digest [] (program (ImportDef 0 (name 7 M) (sig 11 (ValSpec (name 19 x) (TyInt 23) ∷ ValSpec (name 31 x) (TyInt 35) ∷ [])) (WantsVersion (Ranges [] true)) None (HereAlready ∷ []) ∷ []) (ExUnit 69)) ≡ Some (Repeated 31)
  value_twice_in_an_import = refl

  -- a type twice in a struct
  --   module M : sig end = struct type t = int val x : int = 1 type t = bool end ()
  struct_type_twice : refuses digest [] (program (ModuleDef 0 (name 7 M) (sig 11 []) None (AbbrevField (abbreviation (name 33 t) (TyInt 37)) ∷ ValField (name 45 x) (TyInt 49) (ExInt 55 (pos 1)) ∷ AbbrevField (abbreviation (name 62 t) (TyBool 66)) ∷ []) ∷ []) (ExUnit 75)) ≡ Some (Repeated 62)
  struct_type_twice = refl

  -- a field
  --   module M : sig end = struct val x : int = 1 type t = int val x : t = x end ()
  field_twice : refuses digest [] (program (ModuleDef 0 (name 7 M) (sig 11 []) None (ValField (name 32 x) (TyInt 36) (ExInt 42 (pos 1)) ∷ AbbrevField (abbreviation (name 49 t) (TyInt 53)) ∷ ValField (name 61 x) (TyLocal 65 t) (ExVar 69 x) ∷ []) ∷ []) (ExUnit 75)) ≡ Some (Repeated 61)
  field_twice = refl

  -- a type twice in a likespec
  --   import M : sig end version * like struct type t = int type t = int end by Here_Already ()
  like_twice : refuses digest [] (program (ImportDef 0 (name 7 M) (sig 11 []) (WantsVersion (Ranges [] true)) (Some (abbreviation (name 46 t) (TyInt 50) ∷ abbreviation (name 59 t) (TyInt 63) ∷ [])) (HereAlready ∷ []) ∷ []) (ExUnit 87)) ≡ Some (Repeated 59)
  like_twice = refl

  -- a variable twice in a pattern
  --   match 1 with ((x : int), (x : int)) -> x end
  variable_twice : refuses digest [] (program [] (ExMatch 0 (ExInt 6 (pos 1)) (arm_trees ((PatTuple 13 (pat_trees (PatVar 14 (name 15 x) (TyInt 19) ∷ PatVar 25 (name 26 x) (TyInt 30) ∷ [])), ExVar 39 x) ∷ [])))) ≡ Some (Repeated 26)
  variable_twice = refl

  -- in a struct, too
  --   module M : sig end = struct val f : int * int -> int = fun (p : int * int) -> match p with ((x : int), (x : int)) -> x end end ()
  variable_twice_in_a_struct : refuses digest [] (program (ModuleDef 0 (name 7 M) (sig 11 []) None (ValField (name 32 f) (TyFun 36 (TyTuple 36 (type_trees (TyInt 36 ∷ TyInt 42 ∷ []))) (TyInt 49)) (ExFun 55 (name 60 p) (TyTuple 64 (type_trees (TyInt 64 ∷ TyInt 70 ∷ []))) (ExMatch 78 (ExVar 84 p) (arm_trees ((PatTuple 91 (pat_trees (PatVar 92 (name 93 x) (TyInt 97) ∷ PatVar 103 (name 104 x) (TyInt 108) ∷ [])), ExVar 117 x) ∷ [])))) ∷ []) ∷ []) (ExUnit 127)) ≡ Some (Repeated 104)
  variable_twice_in_a_struct = refl

  -- a mark: the place is that of the later string
  --   mark "A" mark "B" mark "A" mark "B" ()
  mark_twice : refuses digest [] (program (MarkDef 0 5 (codes "A") ∷ MarkDef 9 14 (codes "B") ∷ MarkDef 18 23 (codes "A") ∷ MarkDef 27 32 (codes "B") ∷ []) (ExUnit 36)) ≡ Some (Repeated 23)
  mark_twice = refl

  -- of two repetitions the first
  --   mark "A" module Str : sig end = struct end mark "A" ()
  first_of_two : refuses digest [] (program (MarkDef 0 5 (codes "A") ∷ ModuleDef 9 (name 16 (codes "Str")) (sig 22 []) None [] ∷ MarkDef 43 48 (codes "A") ∷ []) (ExUnit 52)) ≡ Some (Repeated 16)
  first_of_two = refl

  -- a third time is no earlier
  --   module M : sig end = struct type t = int type t = int type t = int end ()
  third_time : refuses digest [] (program (ModuleDef 0 (name 7 M) (sig 11 []) None (AbbrevField (abbreviation (name 33 t) (TyInt 37)) ∷ AbbrevField (abbreviation (name 46 t) (TyInt 50)) ∷ AbbrevField (abbreviation (name 59 t) (TyInt 63)) ∷ []) ∷ []) (ExUnit 71)) ≡ Some (Repeated 46)
  third_time = refl

  -- a definition may stand twice
  --   module M : sig val y : int end = struct val y : int = 1 end module M : sig val y : int end = struct val y : int = 1 end ()
  definition_twice : refuses digest [] (program (ModuleDef 0 (name 7 M) (sig 11 (ValSpec (name 19 y) (TyInt 23) ∷ [])) None (ValField (name 44 y) (TyInt 48) (ExInt 54 (pos 1)) ∷ []) ∷ ModuleDef 60 (name 67 M) (sig 71 (ValSpec (name 79 y) (TyInt 83) ∷ [])) None (ValField (name 104 y) (TyInt 108) (ExInt 114 (pos 1)) ∷ []) ∷ []) (ExUnit 120)) ≡ None
  definition_twice = refl

  -- a mark may be called as a module
  --   module M : sig val y : int end = struct val y : int = 1 end mark "M" ()
  mark_as_a_module : refuses digest [] (program (ModuleDef 0 (name 7 M) (sig 11 (ValSpec (name 19 y) (TyInt 23) ∷ [])) None (ValField (name 44 y) (TyInt 48) (ExInt 54 (pos 1)) ∷ []) ∷ MarkDef 60 65 (codes "M") ∷ []) (ExUnit 69)) ≡ None
  mark_as_a_module = refl

  -- a type in a signature, in its struct and in another struct
  --   module M : sig type t end = struct type t = int end module N : sig type t end = struct type t = int end ()
  in_two_lists : refuses digest [] (program (ModuleDef 0 (name 7 M) (sig 11 (AbstractSpec (name 20 t) ∷ [])) None (AbbrevField (abbreviation (name 40 t) (TyInt 44)) ∷ []) ∷ ModuleDef 52 (name 59 N) (sig 63 (AbstractSpec (name 72 t) ∷ [])) None (AbbrevField (abbreviation (name 92 t) (TyInt 96)) ∷ []) ∷ []) (ExUnit 104)) ≡ None
  in_two_lists = refl

  -- a variable in two patterns
  --   match 1 with (x : int) -> x | (x : int) -> match x with (x : int) -> x end end
  in_two_patterns : refuses digest [] (program [] (ExMatch 0 (ExInt 6 (pos 1)) (arm_trees ((PatVar 13 (name 14 x) (TyInt 18), ExVar 26 x) ∷ (PatVar 30 (name 31 x) (TyInt 35), ExMatch 43 (ExVar 49 x) (arm_trees ((PatVar 56 (name 57 x) (TyInt 61), ExVar 69 x) ∷ []))) ∷ [])))) ≡ None
  in_two_patterns = refl

  -- a variable in two binders
  --   let x : int = 1 in let x : int = x in x
  in_two_binders : means digest [] (program [] (ExLet 0 (name 4 x) (TyInt 8) (ExInt 14 (pos 1)) (ExLet 19 (name 23 x) (TyInt 27) (ExVar 33 x) (ExVar 38 x)))) ≡ Ok (Let TInt (number 1) (Let TInt (Var 0) (Var 0)))
  in_two_binders = refl

  -- an unbound name comes in front of a repetition
  --   mark "A" mark "A" x
  unbound_in_front : refuses digest [] (program (MarkDef 0 5 (codes "A") ∷ MarkDef 9 14 (codes "A") ∷ []) (ExVar 18 x)) ≡ Some (Unbound 18)
  unbound_in_front = refl

  -- and a repetition in front of a count
  --   module IO : sig end = struct end (1, 1, 1, 1, 1, 1, 1, 1, 1, 1, 1, 1, 1, 1, 1, 1, 1)
  in_front_of_a_count : refuses digest [] (program (ModuleDef 0 (name 7 (codes "IO")) (sig 12 []) None [] ∷ []) (ExTuple 33 (trees (ExInt 34 (pos 1) ∷ ExInt 37 (pos 1) ∷ ExInt 40 (pos 1) ∷ ExInt 43 (pos 1) ∷ ExInt 46 (pos 1) ∷ ExInt 49 (pos 1) ∷ ExInt 52 (pos 1) ∷ ExInt 55 (pos 1) ∷ ExInt 58 (pos 1) ∷ ExInt 61 (pos 1) ∷ ExInt 64 (pos 1) ∷ ExInt 67 (pos 1) ∷ ExInt 70 (pos 1) ∷ ExInt 73 (pos 1) ∷ ExInt 76 (pos 1) ∷ ExInt 79 (pos 1) ∷ ExInt 82 (pos 1) ∷ [])))) ≡ Some (Repeated 7)
  in_front_of_a_count = refl
