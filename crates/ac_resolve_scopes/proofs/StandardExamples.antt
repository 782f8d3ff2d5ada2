-- `IO` and `Str`, in front of a dot and elsewhere, computed. Each text stands above its tree.
use Rattle.std.proofs.Common.{◌≡◌, refl}
use Rattle.std.specs.Prelude.{ℕ, pos, true, [], ◌∷◌, codes, Some, None, Ok}
use Rattle.ac_types.specs.Primitives as primitives
use Rattle.ac_types.specs.Types.{Bytes, Typ, TInt, TStr, TUnit, TTuple, TFun, typs}
use Rattle.ac_types.specs.Sigs.{Ranges, StaticLink, HereAlready}
use Rattle.ac_terms.specs.Terms.{Expr, Str, Tuple, Var, Ref, Lam, App, Seq, Prim, exprs}
use Rattle.ac_terms.specs.Defs.{AMark}
use Rattle.ac_syntax.specs.Trees.{TyInt, TyStr, TyUnit, TyOf, TyList, TyFun, ExInt, ExStr, ExUnit, ExTuple, ExNil, ExVar, ExOf, ExFun, ExApp, ExSeq, trees, AbstractSpec, ValSpec, AbbrevField, ValField, WantsVersion, WantsName, ModuleDef, ImportDef, MarkDef}
use Rattle.ac_resolve_scopes.specs.Surfaces.{Unbound, Repeated}
use Rattle.ac_resolve_scopes.proofs.Samples.{name, sig, abbreviation, program, typed, signature, field, a_module, number, refuses, means, adds, M, p, q, t, x, y}

-- a primitive by itself
abbrev alone_is : ℕ → Typ → Expr
alone_is p T = Lam T (Prim p (exprs (Var 0 ∷ [])))

module _ (digest : Bytes → Bytes) where
  -- a primitive by itself is a function that applies it
  --   (IO.print_int, IO.print_string, IO.send, IO.receive, Str.length, Str.sub, Str.of_int)
  each_by_itself : means digest [] (program [] (ExTuple 0 (trees (ExOf 1 (name 1 (codes "IO")) (name 4 (codes "print_int")) ∷ ExOf 15 (name 15 (codes "IO")) (name 18 (codes "print_string")) ∷ ExOf 32 (name 32 (codes "IO")) (name 35 (codes "send")) ∷ ExOf 41 (name 41 (codes "IO")) (name 44 (codes "receive")) ∷ ExOf 53 (name 53 (codes "Str")) (name 57 (codes "length")) ∷ ExOf 65 (name 65 (codes "Str")) (name 69 (codes "sub")) ∷ ExOf 74 (name 74 (codes "Str")) (name 78 (codes "of_int")) ∷ [])))) ≡ Ok (Tuple (exprs (alone_is primitives.print_int TInt ∷ alone_is primitives.print_string TStr ∷ alone_is primitives.send TStr ∷ alone_is primitives.receive TUnit ∷ alone_is primitives.length TStr ∷ alone_is primitives.sub_string (TTuple (typs (TStr ∷ TInt ∷ TInt ∷ []))) ∷ alone_is primitives.of_int TInt ∷ [])))
  each_by_itself = refl

  -- an applied one takes its argument, in parentheses too
  --   (IO.print_int) 5; IO.print_int 5
  at_its_argument : means digest [] (program [] (ExSeq 0 (trees (ExApp 0 (ExOf 1 (name 1 (codes "IO")) (name 4 (codes "print_int"))) (ExInt 15 (pos 5)) ∷ ExApp 18 (ExOf 18 (name 18 (codes "IO")) (name 21 (codes "print_int"))) (ExInt 31 (pos 5)) ∷ [])))) ≡ Ok (Seq (exprs (Prim primitives.print_int (exprs (number 5 ∷ [])) ∷ Prim primitives.print_int (exprs (number 5 ∷ [])) ∷ [])))
  at_its_argument = refl

  -- of more arguments it takes a tuple
  --   Str.sub ("a", 0, 1)
  at_three_in_a_tuple : means digest [] (program [] (ExApp 0 (ExOf 0 (name 0 (codes "Str")) (name 4 (codes "sub"))) (ExTuple 8 (trees (ExStr 9 (codes "a") ∷ ExInt 14 (pos 0) ∷ ExInt 17 (pos 1) ∷ []))))) ≡ Ok (Prim primitives.sub_string (exprs (Tuple (exprs (Str (codes "a") ∷ number 0 ∷ number 1 ∷ [])) ∷ [])))
  at_three_in_a_tuple = refl

  -- what it gives is applied to what follows
  --   Str.of_int 5 6
  at_two_arguments : means digest [] (program [] (ExApp 0 (ExApp 0 (ExOf 0 (name 0 (codes "Str")) (name 4 (codes "of_int"))) (ExInt 11 (pos 5))) (ExInt 13 (pos 6)))) ≡ Ok (App (Prim primitives.of_int (exprs (number 5 ∷ []))) (number 6))
  at_two_arguments = refl

  -- in a struct
  --   module M : sig val p : int -> unit end = struct val p : int -> unit = IO.print_int val q : int -> string = fun (x : int) -> Str.of_int x end M.p 1
  in_a_struct : adds digest [] (program (ModuleDef 0 (name 7 M) (sig 11 (ValSpec (name 19 p) (TyFun 23 (TyInt 23) (TyUnit 30)) ∷ [])) None (ValField (name 52 p) (TyFun 56 (TyInt 56) (TyUnit 63)) (ExOf 70 (name 70 (codes "IO")) (name 73 (codes "print_int"))) ∷ ValField (name 87 q) (TyFun 91 (TyInt 91) (TyStr 98)) (ExFun 107 (name 112 x) (TyInt 116) (ExApp 124 (ExOf 124 (name 124 (codes "Str")) (name 128 (codes "of_int"))) (ExVar 135 x))) ∷ []) ∷ []) (ExApp 141 (ExOf 141 (name 141 M) (name 143 p)) (ExInt 145 (pos 1)))) ≡ Ok (a_module M (signature [] (typed p (TFun TInt TUnit) ∷ [])) [] (field p (TFun TInt TUnit) (alone_is primitives.print_int TInt) ∷ field q (TFun TInt TStr) (Lam TInt (Prim primitives.of_int (exprs (Var 0 ∷ [])))) ∷ []) ∷ [])
  in_a_struct = refl

  -- what a module gives is applied as a function
  --   module M : sig val p : int -> unit end = struct val p : int -> unit = IO.print_int end M.p 1
  function_of_a_module : means digest [] (program (ModuleDef 0 (name 7 M) (sig 11 (ValSpec (name 19 p) (TyFun 23 (TyInt 23) (TyUnit 30)) ∷ [])) None (ValField (name 52 p) (TyFun 56 (TyInt 56) (TyUnit 63)) (ExOf 70 (name 70 (codes "IO")) (name 73 (codes "print_int"))) ∷ []) ∷ []) (ExApp 87 (ExOf 87 (name 87 M) (name 89 p)) (ExInt 91 (pos 1)))) ≡ Ok (App (Ref 0 p) (number 1))
  function_of_a_module = refl

  -- what is no primitive is unbound behind the dot
  --   IO.print 1
  no_primitive : refuses digest [] (program [] (ExApp 0 (ExOf 0 (name 0 (codes "IO")) (name 3 (codes "print"))) (ExInt 9 (pos 1)))) ≡ Some (Unbound 3)
  no_primitive = refl

  -- also where the other module has it
  --   Str.print_int 1
  primitive_of_the_other : refuses digest [] (program [] (ExApp 0 (ExOf 0 (name 0 (codes "Str")) (name 4 (codes "print_int"))) (ExInt 14 (pos 1)))) ≡ Some (Unbound 4)
  primitive_of_the_other = refl

  -- neither has types: unbound in front of the dot
  --   ([] : IO.t list)
  no_type_of_io : refuses digest [] (program [] (ExNil 0 (TyList 6 (TyOf 6 (name 6 (codes "IO")) (name 9 t))))) ≡ Some (Unbound 6)
  no_type_of_io = refl

  --   ([] : Str.t list)
  no_type_of_str : refuses digest [] (program [] (ExNil 0 (TyList 6 (TyOf 6 (name 6 (codes "Str")) (name 10 t))))) ≡ Some (Unbound 6)
  no_type_of_str = refl

  -- so it is where a module is called `IO`
  --   module IO : sig val y : int end = struct val y : int = 1 end IO.y
  value_of_a_module_io : refuses digest [] (program (ModuleDef 0 (name 7 (codes "IO")) (sig 12 (ValSpec (name 20 y) (TyInt 24) ∷ [])) None (ValField (name 45 y) (TyInt 49) (ExInt 55 (pos 1)) ∷ []) ∷ []) (ExOf 61 (name 61 (codes "IO")) (name 64 y))) ≡ Some (Unbound 64)
  value_of_a_module_io = refl

  -- its types aren't seen
  --   module IO : sig type t end = struct type t = int end ([] : IO.t list)
  type_of_a_module_io : refuses digest [] (program (ModuleDef 0 (name 7 (codes "IO")) (sig 12 (AbstractSpec (name 21 t) ∷ [])) None (AbbrevField (abbreviation (name 41 t) (TyInt 45)) ∷ []) ∷ []) (ExNil 53 (TyList 59 (TyOf 59 (name 59 (codes "IO")) (name 62 t))))) ≡ Some (Unbound 59)
  type_of_a_module_io = refl

  -- no module may be called so
  --   module IO : sig end = struct end IO.print_int 1
  module_io : refuses digest [] (program (ModuleDef 0 (name 7 (codes "IO")) (sig 12 []) None [] ∷ []) (ExApp 33 (ExOf 33 (name 33 (codes "IO")) (name 36 (codes "print_int"))) (ExInt 46 (pos 1)))) ≡ Some (Repeated 7)
  module_io = refl

  -- and no import
  --   import Str : sig end version * by Here_Already ()
  import_str : refuses digest [] (program (ImportDef 0 (name 7 (codes "Str")) (sig 13 []) (WantsVersion (Ranges [] true)) None (HereAlready ∷ []) ∷ []) (ExUnit 47)) ≡ Some (Repeated 7)
  import_str = refl

  -- an exact name is of a definition that is called so
  --   module IO : sig end = struct end import M : sig end version name = IO by Static_Link ()
  exact_name_of_io : refuses digest [] (program (ModuleDef 0 (name 7 (codes "IO")) (sig 12 []) None [] ∷ ImportDef 33 (name 40 M) (sig 44 []) (WantsName (name 67 (codes "IO"))) None (StaticLink ∷ []) ∷ []) (ExUnit 85)) ≡ Some (Repeated 7)
  exact_name_of_io = refl

  -- not of the standard module
  --   import M : sig end version name = IO by Static_Link ()
  exact_name_of_the_standard : refuses digest [] (program (ImportDef 0 (name 7 M) (sig 11 []) (WantsName (name 34 (codes "IO"))) None (StaticLink ∷ []) ∷ []) (ExUnit 52)) ≡ Some (Unbound 34)
  exact_name_of_the_standard = refl

  -- a mark may be called so
  --   mark "A" mark "IO" mark "B" ()
  mark_io : adds digest [] (program (MarkDef 0 5 (codes "A") ∷ MarkDef 9 14 (codes "IO") ∷ MarkDef 19 24 (codes "B") ∷ []) (ExUnit 28)) ≡ Ok (AMark (codes "A") ∷ AMark (codes "IO") ∷ AMark (codes "B") ∷ [])
  mark_io = refl
