-- Values and types of another definition, computed. Each text stands above its tree.
use Rattle.std.proofs.Common.{◌≡◌, refl}
use Rattle.std.specs.Prelude.{pos, true, false, [], ◌∷◌, codes, Some, None, Ok}
use Rattle.ac_types.specs.Primitives as primitives
use Rattle.ac_types.specs.Types.{Bytes, Typ, TInt, TStr, TTuple, TList, TOpt, TFun, TAbs, TMine, typs}
use Rattle.ac_types.specs.Sigs.{One, Ranges, HereAlready}
use Rattle.ac_terms.specs.Terms.{PWild, PVar, PExnOf, Str, ExnOf, Tuple, Nil, Empty, Var, Ref, Lam, App, Let, Try, Raise, Prim, Marshal, Unmarshal, exprs, arms}
use Rattle.ac_terms.specs.Defs.{Def}
use Rattle.ac_syntax.specs.Trees.{TyInt, TyStr, TyLocal, TyOf, TyTuple, TyList, TyOpt, TyFun, type_trees, PatWild, PatVar, PatExnOf, ExInt, ExStr, ExUnit, ExExnOf, ExTuple, ExNil, ExAbsent, ExVar, ExOf, ExFun, ExApp, ExLet, ExTry, ExRaise, ExOp, ExMarshal, ExUnmarshal, trees, arm_trees, AbstractSpec, ManifestSpec, ValSpec, AbbrevField, ValField, WantsVersion, WantsName, ModuleDef, ImportDef, MarkDef}
use Rattle.ac_resolve_scopes.specs.Surfaces.{Unbound}
use Rattle.ac_resolve_scopes.proofs.Samples.{name, sig, abbreviation, program, typed, abstract, manifest, signature, field, a_module, an_import, number, refuses, means, last, named, M, N, f, p, s, t, u, v, x, y, z}

-- the module `sig type t end = struct type t = int end`
abbrev abstract_module : Def
abstract_module = a_module M (signature (abstract t ∷ []) []) (typed t TInt ∷ []) []

module _ (digest : Bytes → Bytes) where
  -- the type t of the module `sig type t val x : t end = struct type t = int val x : t = 1 end`
  abbrev outer : Typ
  outer = TAbs (named digest [] (a_module M (signature (abstract t ∷ []) (typed x (TMine t) ∷ [])) (typed t TInt ∷ []) (field x TInt (number 1) ∷ []))) t

  -- a value of a module
  --   module M : sig val p : int -> int end = struct val p : int -> int = fun (x : int) -> x end M.p 1
  value_of_a_module : means digest [] (program (ModuleDef 0 (name 7 M) (sig 11 (ValSpec (name 19 p) (TyFun 23 (TyInt 23) (TyInt 30)) ∷ [])) None (ValField (name 51 p) (TyFun 55 (TyInt 55) (TyInt 62)) (ExFun 68 (name 73 x) (TyInt 77) (ExVar 85 x)) ∷ []) ∷ []) (ExApp 91 (ExOf 91 (name 91 M) (name 93 p)) (ExInt 95 (pos 1)))) ≡ Ok (App (Ref 0 p) (number 1))
  value_of_a_module = refl

  -- and of an import; a variable of its name is another
  --   import M : sig val y : int end version * by Here_Already let y : int = 1 in M.y + y
  value_of_an_import : means digest [] (program (ImportDef 0 (name 7 M) (sig 11 (ValSpec (name 19 y) (TyInt 23) ∷ [])) (WantsVersion (Ranges [] true)) None (HereAlready ∷ []) ∷ []) (ExLet 57 (name 61 y) (TyInt 65) (ExInt 71 (pos 1)) (ExOp 76 primitives.add (trees (ExOf 76 (name 76 M) (name 78 y) ∷ ExVar 82 y ∷ []))))) ≡ Ok (Let TInt (number 1) (Prim primitives.add (exprs (Ref 0 y ∷ Var 0 ∷ []))))
  value_of_an_import = refl

  -- an abstract type is one of the name of its definition
  --   module M : sig type t end = struct type t = int end ([] : M.t list)
  abstract_type : means digest [] (program (ModuleDef 0 (name 7 M) (sig 11 (AbstractSpec (name 20 t) ∷ [])) None (AbbrevField (abbreviation (name 40 t) (TyInt 44)) ∷ []) ∷ []) (ExNil 52 (TyList 58 (TyOf 58 (name 58 M) (name 60 t))))) ≡ Ok (Nil (TList (TAbs (named digest [] abstract_module) t)))
  abstract_type = refl

  -- so of an import
  --   import M : sig type t end version 1 like struct type t = int end by Here_Already ([] : M.t list)
  abstract_type_of_an_import : means digest [] (program (ImportDef 0 (name 7 M) (sig 11 (AbstractSpec (name 20 t) ∷ [])) (WantsVersion (Ranges (One 1 ∷ []) false)) (Some (abbreviation (name 53 t) (TyInt 57) ∷ [])) (HereAlready ∷ []) ∷ []) (ExNil 81 (TyList 87 (TyOf 87 (name 87 M) (name 89 t))))) ≡ Ok (Nil (TList (TAbs (named digest [] (an_import M (signature (abstract t ∷ []) []) (Ranges (One 1 ∷ []) false) (typed t TInt ∷ []) (HereAlready ∷ []))) t)))
  abstract_type_of_an_import = refl

  -- by exact name the two are one type
  --   module M : sig type t end = struct type t = int end import N : sig type t end version name = M by Here_Already (([] : M.t list), ([] : N.t list))
  abstract_type_by_exact_name : means digest [] (program (ModuleDef 0 (name 7 M) (sig 11 (AbstractSpec (name 20 t) ∷ [])) None (AbbrevField (abbreviation (name 40 t) (TyInt 44)) ∷ []) ∷ ImportDef 52 (name 59 N) (sig 63 (AbstractSpec (name 72 t) ∷ [])) (WantsName (name 93 M)) None (HereAlready ∷ []) ∷ []) (ExTuple 111 (trees (ExNil 112 (TyList 118 (TyOf 118 (name 118 M) (name 120 t))) ∷ ExNil 129 (TyList 135 (TyOf 135 (name 135 N) (name 137 t))) ∷ [])))) ≡ Ok (Tuple (exprs (Nil (TList (TAbs (named digest [] abstract_module) t)) ∷ Nil (TList (TAbs (named digest [] abstract_module) t)) ∷ [])))
  abstract_type_by_exact_name = refl

  -- and so are those of two modules with one text
  --   module M : sig type t end = struct type t = int end mark "A" module M : sig type t end = struct type t = int end ([] : M.t list)
  abstract_types_of_equal_modules : means digest [] (program (ModuleDef 0 (name 7 M) (sig 11 (AbstractSpec (name 20 t) ∷ [])) None (AbbrevField (abbreviation (name 40 t) (TyInt 44)) ∷ []) ∷ MarkDef 52 57 (codes "A") ∷ ModuleDef 61 (name 68 M) (sig 72 (AbstractSpec (name 81 t) ∷ [])) None (AbbrevField (abbreviation (name 101 t) (TyInt 105)) ∷ []) ∷ []) (ExNil 113 (TyList 119 (TyOf 119 (name 119 M) (name 121 t))))) ≡ Ok (Nil (TList (TAbs (named digest [] abstract_module) t)))
  abstract_types_of_equal_modules = refl

  -- a manifest type is written out; the own types in it are those of the name
  --   module M : sig type t type u = t * int end = struct type t = int type u = t * int end (None : M.u option)
  manifest_type : means digest [] (program (ModuleDef 0 (name 7 M) (sig 11 (AbstractSpec (name 20 t) ∷ ManifestSpec (abbreviation (name 27 u) (TyTuple 31 (type_trees (TyLocal 31 t ∷ TyInt 35 ∷ [])))) ∷ [])) None (AbbrevField (abbreviation (name 57 t) (TyInt 61)) ∷ AbbrevField (abbreviation (name 70 u) (TyTuple 74 (type_trees (TyLocal 74 t ∷ TyInt 78 ∷ [])))) ∷ []) ∷ []) (ExAbsent 86 (TyOpt 94 (TyOf 94 (name 94 M) (name 96 u))))) ≡ Ok (Empty (TOpt (TTuple (typs (TAbs (named digest [] (a_module M (signature (abstract t ∷ manifest u (TTuple (typs (TMine t ∷ TInt ∷ []))) ∷ []) []) (typed t TInt ∷ typed u (TTuple (typs (TInt ∷ TInt ∷ []))) ∷ []) [])) t ∷ TInt ∷ [])))))
  manifest_type = refl

  -- through two definitions
  --   module M : sig type t = int type u = t list end = struct type t = int type u = t list end module N : sig type v = M.u end = struct type v = M.u end ([] : N.v)
  manifest_type_through_two : means digest [] (program (ModuleDef 0 (name 7 M) (sig 11 (ManifestSpec (abbreviation (name 20 t) (TyInt 24)) ∷ ManifestSpec (abbreviation (name 33 u) (TyList 37 (TyLocal 37 t))) ∷ [])) None (AbbrevField (abbreviation (name 62 t) (TyInt 66)) ∷ AbbrevField (abbreviation (name 75 u) (TyList 79 (TyLocal 79 t))) ∷ []) ∷ ModuleDef 90 (name 97 N) (sig 101 (ManifestSpec (abbreviation (name 110 v) (TyOf 114 (name 114 M) (name 116 u))) ∷ [])) None (AbbrevField (abbreviation (name 136 v) (TyOf 140 (name 140 M) (name 142 u))) ∷ []) ∷ []) (ExNil 148 (TyOf 154 (name 154 N) (name 156 v)))) ≡ Ok (Nil (TList TInt))
  manifest_type_through_two = refl

  -- in a signature and in a struct
  --   module M : sig type t val x : t end = struct type t = int val x : t = 1 end module N : sig val f : M.t -> M.t end = struct type u = M.t val f : u -> u = fun (z : u) -> M.x end ()
  types_in_a_module : last digest [] (program (ModuleDef 0 (name 7 M) (sig 11 (AbstractSpec (name 20 t) ∷ ValSpec (name 26 x) (TyLocal 30 t) ∷ [])) None (AbbrevField (abbreviation (name 50 t) (TyInt 54)) ∷ ValField (name 62 x) (TyLocal 66 t) (ExInt 70 (pos 1)) ∷ []) ∷ ModuleDef 76 (name 83 N) (sig 87 (ValSpec (name 95 f) (TyFun 99 (TyOf 99 (name 99 M) (name 101 t)) (TyOf 106 (name 106 M) (name 108 t))) ∷ [])) None (AbbrevField (abbreviation (name 128 u) (TyOf 132 (name 132 M) (name 134 t))) ∷ ValField (name 140 f) (TyFun 144 (TyLocal 144 u) (TyLocal 149 u)) (ExFun 153 (name 158 z) (TyLocal 162 u) (ExOf 168 (name 168 M) (name 170 x))) ∷ []) ∷ []) (ExUnit 176)) ≡ Ok (Some (a_module N (signature [] (typed f (TFun outer outer) ∷ [])) (typed u outer ∷ []) (field f (TFun outer outer) (Lam outer (Ref 0 x)) ∷ [])))
  types_in_a_module = refl

  -- in each form of expressions
  --   mark "A" module M : sig type t end = struct type t = int end try raise (Failure "a") : M.t option with Failure (s : string) -> (None : M.t option) | _ -> (unmarshal (marshal "A" 1 : int) as M.t option) end
  types_in_expressions : means digest [] (program (MarkDef 0 5 (codes "A") ∷ ModuleDef 9 (name 16 M) (sig 20 (AbstractSpec (name 29 t) ∷ [])) None (AbbrevField (abbreviation (name 49 t) (TyInt 53)) ∷ []) ∷ []) (ExTry 61 (ExRaise 65 (ExExnOf 72 0 (ExStr 80 (codes "a"))) (TyOpt 87 (TyOf 87 (name 87 M) (name 89 t)))) (arm_trees ((PatExnOf 103 0 (PatVar 111 (name 112 s) (TyStr 116)), ExAbsent 127 (TyOpt 135 (TyOf 135 (name 135 M) (name 137 t)))) ∷ (PatWild 149, ExUnmarshal 155 (ExMarshal 166 (ExStr 174 (codes "A")) (ExInt 178 (pos 1)) (TyInt 182)) (TyOpt 190 (TyOf 190 (name 190 M) (name 192 t)))) ∷ [])))) ≡ Ok (Try (Raise (TOpt (TAbs (named digest [] abstract_module) t)) (ExnOf 0 (Str (codes "a")))) (arms ((PExnOf 0 (PVar TStr), Empty (TOpt (TAbs (named digest [] abstract_module) t))) ∷ (PWild, Unmarshal (TOpt (TAbs (named digest [] abstract_module) t)) (Marshal TInt (Str (codes "A")) (number 1))) ∷ [])))
  types_in_expressions = refl

  -- no value of this name: the place is that behind the dot
  --   module M : sig val y : int end = struct val y : int = 1 end M.z
  no_value : refuses digest [] (program (ModuleDef 0 (name 7 M) (sig 11 (ValSpec (name 19 y) (TyInt 23) ∷ [])) None (ValField (name 44 y) (TyInt 48) (ExInt 54 (pos 1)) ∷ []) ∷ []) (ExOf 60 (name 60 M) (name 62 z))) ≡ Some (Unbound 62)
  no_value = refl

  -- no type
  --   module M : sig val y : int end = struct val y : int = 1 end ([] : M.y list)
  no_type : refuses digest [] (program (ModuleDef 0 (name 7 M) (sig 11 (ValSpec (name 19 y) (TyInt 23) ∷ [])) None (ValField (name 44 y) (TyInt 48) (ExInt 54 (pos 1)) ∷ []) ∷ []) (ExNil 60 (TyList 66 (TyOf 66 (name 66 M) (name 68 y))))) ≡ Some (Unbound 68)
  no_type = refl

  -- a type is no value
  --   module M : sig type t end = struct type t = int end M.t
  type_is_no_value : refuses digest [] (program (ModuleDef 0 (name 7 M) (sig 11 (AbstractSpec (name 20 t) ∷ [])) None (AbbrevField (abbreviation (name 40 t) (TyInt 44)) ∷ []) ∷ []) (ExOf 52 (name 52 M) (name 54 t))) ≡ Some (Unbound 54)
  type_is_no_value = refl

  -- what the signature leaves out is unbound
  --   module M : sig end = struct val y : int = 1 end M.y
  value_of_the_struct_alone : refuses digest [] (program (ModuleDef 0 (name 7 M) (sig 11 []) None (ValField (name 32 y) (TyInt 36) (ExInt 42 (pos 1)) ∷ []) ∷ []) (ExOf 48 (name 48 M) (name 50 y))) ≡ Some (Unbound 50)
  value_of_the_struct_alone = refl

  -- a type, too
  --   module M : sig end = struct type t = int end ([] : M.t list)
  type_of_the_struct_alone : refuses digest [] (program (ModuleDef 0 (name 7 M) (sig 11 []) None (AbbrevField (abbreviation (name 33 t) (TyInt 37)) ∷ []) ∷ []) (ExNil 45 (TyList 51 (TyOf 51 (name 51 M) (name 53 t))))) ≡ Some (Unbound 53)
  type_of_the_struct_alone = refl

  -- no definition of this name: the place is that in front of the dot
  --   M.y
  no_definition : refuses digest [] (program [] (ExOf 0 (name 0 M) (name 2 y))) ≡ Some (Unbound 0)
  no_definition = refl

  -- of a type, too
  --   fun (x : M.t) -> x
  no_definition_of_a_type : refuses digest [] (program [] (ExFun 0 (name 5 x) (TyOf 9 (name 9 M) (name 11 t)) (ExVar 17 x))) ≡ Some (Unbound 9)
  no_definition_of_a_type = refl
