-- What a definition, a field and an expression see, and what hides what, computed. Each text stands above its tree.
use Rattle.std.proofs.Common.{◌≡◌, refl}
use Rattle.std.specs.Prelude.{pos, true, [], ◌∷◌, codes, Some, None, Ok}
use Rattle.ac_types.specs.Primitives as primitives
use Rattle.ac_types.specs.Types.{Bytes, TInt, TFun}
use Rattle.ac_types.specs.Sigs.{Ranges, HereAlready}
use Rattle.ac_terms.specs.Terms.{PVar, Var, Own, Ref, Lam, Rec, App, Let, If, Match, Prim, exprs, arms}
use Rattle.ac_syntax.specs.Trees.{TyInt, TyLocal, TyFun, PatVar, ExInt, ExUnit, ExVar, ExOf, ExFun, ExRec, ExApp, ExLet, ExIf, ExMatch, ExOp, trees, arm_trees, AbstractSpec, ValSpec, AbbrevField, ValField, WantsVersion, ModuleDef, ImportDef, MarkDef}
use Rattle.ac_resolve_scopes.specs.Surfaces.{Unbound}
use Rattle.ac_resolve_scopes.proofs.Samples.{name, sig, abbreviation, program, signature, field, a_module, one_value, number, refuses, means, adds, M, N, f, g, m, n, t, u, v, w, x, y, z}

module _ (digest : Bytes → Bytes) where
  -- of two definitions with one name the later is seen
  --   module M : sig val y : int end = struct val y : int = 1 end module M : sig val y : int end = struct val y : int = 2 end M.y
  later_of_two : means digest [] (program (ModuleDef 0 (name 7 M) (sig 11 (ValSpec (name 19 y) (TyInt 23) ∷ [])) None (ValField (name 44 y) (TyInt 48) (ExInt 54 (pos 1)) ∷ []) ∷ ModuleDef 60 (name 67 M) (sig 71 (ValSpec (name 79 y) (TyInt 83) ∷ [])) None (ValField (name 104 y) (TyInt 108) (ExInt 114 (pos 2)) ∷ []) ∷ []) (ExOf 120 (name 120 M) (name 122 y))) ≡ Ok (Ref 1 y)
  later_of_two = refl

  -- a definition between them sees the earlier one
  --   module M : sig val y : int end = struct val y : int = 1 end module N : sig val z : int end = struct val z : int = M.y end module M : sig val y : int end = struct val y : int = 2 end N.z
  earlier_in_between : adds digest [] (program (ModuleDef 0 (name 7 M) (sig 11 (ValSpec (name 19 y) (TyInt 23) ∷ [])) None (ValField (name 44 y) (TyInt 48) (ExInt 54 (pos 1)) ∷ []) ∷ ModuleDef 60 (name 67 N) (sig 71 (ValSpec (name 79 z) (TyInt 83) ∷ [])) None (ValField (name 104 z) (TyInt 108) (ExOf 114 (name 114 M) (name 116 y)) ∷ []) ∷ ModuleDef 122 (name 129 M) (sig 133 (ValSpec (name 141 y) (TyInt 145) ∷ [])) None (ValField (name 166 y) (TyInt 170) (ExInt 176 (pos 2)) ∷ []) ∷ []) (ExOf 182 (name 182 N) (name 184 z))) ≡ Ok (one_value M y (number 1) ∷ one_value N z (Ref 0 y) ∷ one_value M y (number 2) ∷ [])
  earlier_in_between = refl

  -- an import hides a module of its name
  --   module M : sig val y : int end = struct val y : int = 1 end import M : sig val y : int end version * by Here_Already M.y
  import_hides_module : means digest [] (program (ModuleDef 0 (name 7 M) (sig 11 (ValSpec (name 19 y) (TyInt 23) ∷ [])) None (ValField (name 44 y) (TyInt 48) (ExInt 54 (pos 1)) ∷ []) ∷ ImportDef 60 (name 67 M) (sig 71 (ValSpec (name 79 y) (TyInt 83) ∷ [])) (WantsVersion (Ranges [] true)) None (HereAlready ∷ []) ∷ []) (ExOf 117 (name 117 M) (name 119 y))) ≡ Ok (Ref 1 y)
  import_hides_module = refl

  -- and a module an import
  --   import M : sig val y : int end version * by Here_Already module M : sig val y : int end = struct val y : int = 1 end M.y
  module_hides_import : means digest [] (program (ImportDef 0 (name 7 M) (sig 11 (ValSpec (name 19 y) (TyInt 23) ∷ [])) (WantsVersion (Ranges [] true)) None (HereAlready ∷ []) ∷ ModuleDef 57 (name 64 M) (sig 68 (ValSpec (name 76 y) (TyInt 80) ∷ [])) None (ValField (name 101 y) (TyInt 105) (ExInt 111 (pos 1)) ∷ []) ∷ []) (ExOf 117 (name 117 M) (name 119 y))) ≡ Ok (Ref 1 y)
  module_hides_import = refl

  -- what is hidden has no values any more
  --   module M : sig val y : int end = struct val y : int = 1 end module M : sig end = struct end M.y
  hidden_value : refuses digest [] (program (ModuleDef 0 (name 7 M) (sig 11 (ValSpec (name 19 y) (TyInt 23) ∷ [])) None (ValField (name 44 y) (TyInt 48) (ExInt 54 (pos 1)) ∷ []) ∷ ModuleDef 60 (name 67 M) (sig 71 []) None [] ∷ []) (ExOf 92 (name 92 M) (name 94 y))) ≡ Some (Unbound 94)
  hidden_value = refl

  -- a variable hides a field of its name
  --   module M : sig end = struct val x : int = 1 val f : int -> int = fun (x : int) -> x val g : int -> int = fun (z : int) -> x end ()
  variable_hides_field : adds digest [] (program (ModuleDef 0 (name 7 M) (sig 11 []) None (ValField (name 32 x) (TyInt 36) (ExInt 42 (pos 1)) ∷ ValField (name 48 f) (TyFun 52 (TyInt 52) (TyInt 59)) (ExFun 65 (name 70 x) (TyInt 74) (ExVar 82 x)) ∷ ValField (name 88 g) (TyFun 92 (TyInt 92) (TyInt 99)) (ExFun 105 (name 110 z) (TyInt 114) (ExVar 122 x)) ∷ []) ∷ []) (ExUnit 128)) ≡ Ok (a_module M (signature [] []) [] (field x TInt (number 1) ∷ field f (TFun TInt TInt) (Lam TInt (Var 0)) ∷ field g (TFun TInt TInt) (Lam TInt (Own 0)) ∷ []) ∷ [])
  variable_hides_field = refl

  -- so does a variable of a pattern
  --   module M : sig end = struct val x : int = 1 val f : int -> int = fun (z : int) -> match z with (x : int) -> x + z end end ()
  pattern_hides_field : adds digest [] (program (ModuleDef 0 (name 7 M) (sig 11 []) None (ValField (name 32 x) (TyInt 36) (ExInt 42 (pos 1)) ∷ ValField (name 48 f) (TyFun 52 (TyInt 52) (TyInt 59)) (ExFun 65 (name 70 z) (TyInt 74) (ExMatch 82 (ExVar 88 z) (arm_trees ((PatVar 95 (name 96 x) (TyInt 100), ExOp 108 primitives.add (trees (ExVar 108 x ∷ ExVar 112 z ∷ []))) ∷ [])))) ∷ []) ∷ []) (ExUnit 122)) ≡ Ok (a_module M (signature [] []) [] (field x TInt (number 1) ∷ field f (TFun TInt TInt) (Lam TInt (Match (Var 0) (arms ((PVar TInt, Prim primitives.add (exprs (Var 0 ∷ Var 1 ∷ []))) ∷ [])))) ∷ []) ∷ [])
  pattern_hides_field = refl

  -- what a let binds sees the field, its body the variable
  --   module M : sig end = struct val x : int = 1 val f : int -> int = fun (z : int) -> let x : int = x in x end ()
  field_in_the_bound_part : adds digest [] (program (ModuleDef 0 (name 7 M) (sig 11 []) None (ValField (name 32 x) (TyInt 36) (ExInt 42 (pos 1)) ∷ ValField (name 48 f) (TyFun 52 (TyInt 52) (TyInt 59)) (ExFun 65 (name 70 z) (TyInt 74) (ExLet 82 (name 86 x) (TyInt 90) (ExVar 96 x) (ExVar 101 x))) ∷ []) ∷ []) (ExUnit 107)) ≡ Ok (a_module M (signature [] []) [] (field x TInt (number 1) ∷ field f (TFun TInt TInt) (Lam TInt (Let TInt (Own 0) (Var 0))) ∷ []) ∷ [])
  field_in_the_bound_part = refl

  -- an argument hides the function of its name
  --   rec x (x : int) : int = x
  argument_hides_function : means digest [] (program [] (ExRec 0 (name 4 x) (name 7 x) (TyInt 11) (TyInt 18) (ExVar 24 x))) ≡ Ok (Rec TInt TInt (Var 0))
  argument_hides_function = refl

  -- a recursive function, its argument and an own field
  --   module M : sig end = struct val x : int = 1 val f : int -> int = rec f (n : int) : int = if n = x then x else f (n - 1) end ()
  function_over_a_field : adds digest [] (program (ModuleDef 0 (name 7 M) (sig 11 []) None (ValField (name 32 x) (TyInt 36) (ExInt 42 (pos 1)) ∷ ValField (name 48 f) (TyFun 52 (TyInt 52) (TyInt 59)) (ExRec 65 (name 69 f) (name 72 n) (TyInt 76) (TyInt 83) (ExIf 89 (ExOp 92 primitives.eq (trees (ExVar 92 n ∷ ExVar 96 x ∷ []))) (ExVar 103 x) (ExApp 110 (ExVar 110 f) (ExOp 113 primitives.sub (trees (ExVar 113 n ∷ ExInt 117 (pos 1) ∷ [])))))) ∷ []) ∷ []) (ExUnit 124)) ≡ Ok (a_module M (signature [] []) [] (field x TInt (number 1) ∷ field f (TFun TInt TInt) (Rec TInt TInt (If (Prim primitives.eq (exprs (Var 0 ∷ Own 0 ∷ []))) (Own 0) (App (Var 1) (Prim primitives.sub (exprs (Var 0 ∷ number 1 ∷ [])))))) ∷ []) ∷ [])
  function_over_a_field = refl

  -- a field isn't in scope in itself
  --   module M : sig end = struct val x : int = x end ()
  field_of_itself : refuses digest [] (program (ModuleDef 0 (name 7 M) (sig 11 []) None (ValField (name 32 x) (TyInt 36) (ExVar 42 x) ∷ []) ∷ []) (ExUnit 48)) ≡ Some (Unbound 42)
  field_of_itself = refl

  -- nor a later one
  --   module M : sig end = struct val x : int = z val z : int = 1 end ()
  later_field : refuses digest [] (program (ModuleDef 0 (name 7 M) (sig 11 []) None (ValField (name 32 x) (TyInt 36) (ExVar 42 z) ∷ ValField (name 48 z) (TyInt 52) (ExInt 58 (pos 1)) ∷ []) ∷ []) (ExUnit 64)) ≡ Some (Unbound 42)
  later_field = refl

  -- nor one of another struct by its plain name
  --   module M : sig val y : int end = struct val y : int = 1 end module N : sig end = struct val z : int = y end ()
  field_of_another : refuses digest [] (program (ModuleDef 0 (name 7 M) (sig 11 (ValSpec (name 19 y) (TyInt 23) ∷ [])) None (ValField (name 44 y) (TyInt 48) (ExInt 54 (pos 1)) ∷ []) ∷ ModuleDef 60 (name 67 N) (sig 71 []) None (ValField (name 92 z) (TyInt 96) (ExVar 102 y) ∷ []) ∷ []) (ExUnit 108)) ≡ Some (Unbound 102)
  field_of_another = refl

  -- nor any in the expression
  --   module M : sig val y : int end = struct val y : int = 1 end y
  field_in_the_expression : refuses digest [] (program (ModuleDef 0 (name 7 M) (sig 11 (ValSpec (name 19 y) (TyInt 23) ∷ [])) None (ValField (name 44 y) (TyInt 48) (ExInt 54 (pos 1)) ∷ []) ∷ []) (ExVar 60 y)) ≡ Some (Unbound 60)
  field_in_the_expression = refl

  -- nor a type of a struct
  --   module M : sig type t end = struct type t = int end let x : t = 1 in x
  type_in_the_expression : refuses digest [] (program (ModuleDef 0 (name 7 M) (sig 11 (AbstractSpec (name 20 t) ∷ [])) None (AbbrevField (abbreviation (name 40 t) (TyInt 44)) ∷ []) ∷ []) (ExLet 52 (name 56 x) (TyLocal 60 t) (ExInt 64 (pos 1)) (ExVar 69 x))) ≡ Some (Unbound 60)
  type_in_the_expression = refl

  -- a definition doesn't see itself
  --   module M : sig val y : int end = struct val z : int = 1 val y : int = M.z end ()
  definition_in_itself : refuses digest [] (program (ModuleDef 0 (name 7 M) (sig 11 (ValSpec (name 19 y) (TyInt 23) ∷ [])) None (ValField (name 44 z) (TyInt 48) (ExInt 54 (pos 1)) ∷ ValField (name 60 y) (TyInt 64) (ExOf 70 (name 70 M) (name 72 z)) ∷ []) ∷ []) (ExUnit 78)) ≡ Some (Unbound 70)
  definition_in_itself = refl

  -- nor a later one
  --   module N : sig end = struct val z : int = M.y end module M : sig val y : int end = struct val y : int = 1 end ()
  later_definition : refuses digest [] (program (ModuleDef 0 (name 7 N) (sig 11 []) None (ValField (name 32 z) (TyInt 36) (ExOf 42 (name 42 M) (name 44 y)) ∷ []) ∷ ModuleDef 50 (name 57 M) (sig 61 (ValSpec (name 69 y) (TyInt 73) ∷ [])) None (ValField (name 94 y) (TyInt 98) (ExInt 104 (pos 1)) ∷ []) ∷ []) (ExUnit 110)) ≡ Some (Unbound 42)
  later_definition = refl

  -- a variable is called by no dot
  --   let m : int = 1 in M.m
  variable_is_no_module : refuses digest [] (program [] (ExLet 0 (name 4 m) (TyInt 8) (ExInt 14 (pos 1)) (ExOf 19 (name 19 M) (name 21 m)))) ≡ Some (Unbound 19)
  variable_is_no_module = refl

  -- nor is a mark
  --   mark "M" M.x
  mark_is_no_module : refuses digest [] (program (MarkDef 0 5 (codes "M") ∷ []) (ExOf 9 (name 9 M) (name 11 x))) ≡ Some (Unbound 9)
  mark_is_no_module = refl

  -- of four names that are unbound the first
  --   module M : sig val x : u val y : t end = struct val z : int = w end v
  first_of_four : refuses digest [] (program (ModuleDef 0 (name 7 M) (sig 11 (ValSpec (name 19 x) (TyLocal 23 u) ∷ ValSpec (name 29 y) (TyLocal 33 t) ∷ [])) None (ValField (name 52 z) (TyInt 56) (ExVar 62 w) ∷ []) ∷ []) (ExVar 68 v)) ≡ Some (Unbound 23)
  first_of_four = refl
