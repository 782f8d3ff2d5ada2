-- Imports: what they demand, their likespecs, and the names of entries, computed. Each text stands above its tree.
use Rattle.std.proofs.Common.{◌≡◌, refl}
use Rattle.std.specs.Prelude.{pos, true, false, [], ◌∷◌, codes, Some, None, Ok}
use Rattle.ac_types.specs.Types.{Bytes, TInt, TList, TOpt, TAbs}
use Rattle.ac_types.specs.Sigs.{Number, MyName, One, Between, UpTo, From, Ranges, Exact, StaticLink, HereAlready, Uri}
use Rattle.ac_terms.specs.Terms.{Var, Ref, Lam}
use Rattle.ac_terms.specs.Defs.{Environment, Def, AModule, Own'}
use Rattle.ac_syntax.specs.Trees.{TyInt, TyLocal, TyOf, TyList, TyOpt, TyFun, ExInt, ExUnit, ExNil, ExVar, ExOf, ExFun, AbstractSpec, ValSpec, AbbrevField, ValField, WantsVersion, WantsName, ModuleDef, ImportDef, MarkDef}
use Rattle.ac_resolve_scopes.specs.Surfaces.{Unbound}
use Rattle.ac_resolve_scopes.proofs.Samples.{name, sig, abbreviation, program, typed, abstract, signature, a_module, an_import, one_value, one_function, number, refuses, adds, last, names, named, I, J, K, L, M, N, f, k, t, u, v, x, y, z}

abbrev abstract_module : Def
abstract_module = a_module M (signature (abstract t ∷ []) []) (typed t TInt ∷ []) []

abbrev wanted : Def
wanted = an_import I (signature [] (typed k TInt ∷ [])) (Ranges (One 1 ∷ []) false) [] (Uri u ∷ [])

module _ (digest : Bytes → Bytes) where
  -- the entries in front of a reference to `M.y`
  abbrev front_y : Environment
  front_y = record { def = one_value M y (number 1); name = Some (named digest [] (one_value M y (number 1))); seen = Own'; link = None } ∷ []

  -- an import by the exact name of a module has its name
  --   module M : sig val k : int end = struct val k : int = 1 end import M : sig val k : int end version name = M by Here_Already ()
  exact_name_of_a_module : names digest [] (program (ModuleDef 0 (name 7 M) (sig 11 (ValSpec (name 19 k) (TyInt 23) ∷ [])) None (ValField (name 44 k) (TyInt 48) (ExInt 54 (pos 1)) ∷ []) ∷ ImportDef 60 (name 67 M) (sig 71 (ValSpec (name 79 k) (TyInt 83) ∷ [])) (WantsName (name 106 M)) None (HereAlready ∷ []) ∷ []) (ExUnit 124)) ≡ Ok (Some (named digest [] (one_value M k (number 1))) ∷ Some (named digest [] (one_value M k (number 1))) ∷ [])
  exact_name_of_a_module = refl

  -- that name is what it demands
  --   module M : sig end = struct end import N : sig end version name = M by Static_Link ()
  exact_constraint : last digest [] (program (ModuleDef 0 (name 7 M) (sig 11 []) None [] ∷ ImportDef 32 (name 39 N) (sig 43 []) (WantsName (name 66 M)) None (StaticLink ∷ []) ∷ []) (ExUnit 83)) ≡ Ok (Some (an_import N (signature [] []) (Exact (named digest [] (a_module M (signature [] []) [] []))) [] (StaticLink ∷ [])))
  exact_constraint = refl

  -- so by the exact name of an import
  --   import I : sig val k : int end version 1 by "u" import J : sig val k : int end version name = I by "u" ()
  exact_name_of_an_import : names digest [] (program (ImportDef 0 (name 7 I) (sig 11 (ValSpec (name 19 k) (TyInt 23) ∷ [])) (WantsVersion (Ranges (One 1 ∷ []) false)) None (Uri (codes "u") ∷ []) ∷ ImportDef 48 (name 55 J) (sig 59 (ValSpec (name 67 k) (TyInt 71) ∷ [])) (WantsName (name 94 I)) None (Uri (codes "u") ∷ []) ∷ []) (ExUnit 103)) ≡ Ok (Some (named digest [] wanted) ∷ Some (named digest [] wanted) ∷ [])
  exact_name_of_an_import = refl

  -- and of an import by exact name
  --   module M : sig val k : int end = struct val k : int = 1 end import I : sig end version name = M by Static_Link import J : sig end version name = I by Static_Link ()
  exact_name_of_an_exact_name : names digest [] (program (ModuleDef 0 (name 7 M) (sig 11 (ValSpec (name 19 k) (TyInt 23) ∷ [])) None (ValField (name 44 k) (TyInt 48) (ExInt 54 (pos 1)) ∷ []) ∷ ImportDef 60 (name 67 I) (sig 71 []) (WantsName (name 94 M)) None (StaticLink ∷ []) ∷ ImportDef 111 (name 118 J) (sig 122 []) (WantsName (name 145 I)) None (StaticLink ∷ []) ∷ []) (ExUnit 162)) ≡ Ok (Some (named digest [] (one_value M k (number 1))) ∷ Some (named digest [] (one_value M k (number 1))) ∷ Some (named digest [] (one_value M k (number 1))) ∷ [])
  exact_name_of_an_exact_name = refl

  -- of two modules with one external name the later is meant
  --   module M : sig val k : int end = struct val k : int = 1 end module M : sig val k : int end = struct val k : int = 2 end import N : sig end version name = M by Static_Link ()
  exact_name_of_the_later : names digest [] (program (ModuleDef 0 (name 7 M) (sig 11 (ValSpec (name 19 k) (TyInt 23) ∷ [])) None (ValField (name 44 k) (TyInt 48) (ExInt 54 (pos 1)) ∷ []) ∷ ModuleDef 60 (name 67 M) (sig 71 (ValSpec (name 79 k) (TyInt 83) ∷ [])) None (ValField (name 104 k) (TyInt 108) (ExInt 114 (pos 2)) ∷ []) ∷ ImportDef 120 (name 127 N) (sig 131 []) (WantsName (name 154 M)) None (StaticLink ∷ []) ∷ []) (ExUnit 171)) ≡ Ok (Some (named digest [] (one_value M k (number 1))) ∷ Some (named digest [] (one_value M k (number 2))) ∷ Some (named digest [] (one_value M k (number 2))) ∷ [])
  exact_name_of_the_later = refl

  -- an exact name of no definition
  --   import N : sig end version name = M by Static_Link ()
  exact_name_of_nothing : refuses digest [] (program (ImportDef 0 (name 7 N) (sig 11 []) (WantsName (name 34 M)) None (StaticLink ∷ []) ∷ []) (ExUnit 51)) ≡ Some (Unbound 34)
  exact_name_of_nothing = refl

  -- an import doesn't see itself
  --   import M : sig end version name = M by Static_Link ()
  exact_name_of_itself : refuses digest [] (program (ImportDef 0 (name 7 M) (sig 11 []) (WantsName (name 34 M)) None (StaticLink ∷ []) ∷ []) (ExUnit 51)) ≡ Some (Unbound 34)
  exact_name_of_itself = refl

  -- nor a later definition
  --   import N : sig end version name = M by Static_Link module M : sig val y : int end = struct val y : int = 1 end ()
  exact_name_of_a_later : refuses digest [] (program (ImportDef 0 (name 7 N) (sig 11 []) (WantsName (name 34 M)) None (StaticLink ∷ []) ∷ ModuleDef 51 (name 58 M) (sig 62 (ValSpec (name 70 y) (TyInt 74) ∷ [])) None (ValField (name 95 y) (TyInt 99) (ExInt 105 (pos 1)) ∷ []) ∷ []) (ExUnit 111)) ≡ Some (Unbound 34)
  exact_name_of_a_later = refl

  -- nor a mark
  --   mark "M" import N : sig end version name = M by Static_Link ()
  exact_name_of_a_mark : refuses digest [] (program (MarkDef 0 5 (codes "M") ∷ ImportDef 9 (name 16 N) (sig 20 []) (WantsName (name 43 M)) None (StaticLink ∷ []) ∷ []) (ExUnit 60)) ≡ Some (Unbound 43)
  exact_name_of_a_mark = refl

  -- a likespec is kept in its order and written out; it may have types that the signature lacks
  --   import M : sig type t type u end version * like struct type u = int type v = u list type t = v option end by Here_Already ()
  like_in_order : adds digest [] (program (ImportDef 0 (name 7 M) (sig 11 (AbstractSpec (name 20 t) ∷ AbstractSpec (name 27 u) ∷ [])) (WantsVersion (Ranges [] true)) (Some (abbreviation (name 60 u) (TyInt 64) ∷ abbreviation (name 73 v) (TyList 77 (TyLocal 77 u)) ∷ abbreviation (name 89 t) (TyOpt 93 (TyLocal 93 v)) ∷ [])) (HereAlready ∷ []) ∷ []) (ExUnit 122)) ≡ Ok (an_import M (signature (abstract t ∷ abstract u ∷ []) []) (Ranges [] true) (typed u TInt ∷ typed v (TList TInt) ∷ typed t (TOpt (TList TInt)) ∷ []) (HereAlready ∷ []) ∷ [])
  like_in_order = refl

  -- it sees the types of definitions in front of it
  --   module M : sig type t end = struct type t = int end import N : sig type u end version * like struct type u = M.t list end by Here_Already ()
  like_of_another : last digest [] (program (ModuleDef 0 (name 7 M) (sig 11 (AbstractSpec (name 20 t) ∷ [])) None (AbbrevField (abbreviation (name 40 t) (TyInt 44)) ∷ []) ∷ ImportDef 52 (name 59 N) (sig 63 (AbstractSpec (name 72 u) ∷ [])) (WantsVersion (Ranges [] true)) (Some (abbreviation (name 105 u) (TyList 109 (TyOf 109 (name 109 M) (name 111 t))) ∷ [])) (HereAlready ∷ []) ∷ []) (ExUnit 138)) ≡ Ok (Some (an_import N (signature (abstract u ∷ []) []) (Ranges [] true) (typed u (TList (TAbs (named digest [] abstract_module) t)) ∷ []) (HereAlready ∷ [])))
  like_of_another = refl

  -- but not those of the import's signature
  --   import M : sig type t end version * like struct type u = t type t = int end by Here_Already ()
  signature_type_in_like : refuses digest [] (program (ImportDef 0 (name 7 M) (sig 11 (AbstractSpec (name 20 t) ∷ [])) (WantsVersion (Ranges [] true)) (Some (abbreviation (name 53 u) (TyLocal 57 t) ∷ abbreviation (name 64 t) (TyInt 68) ∷ [])) (HereAlready ∷ []) ∷ []) (ExUnit 92)) ≡ Some (Unbound 57)
  signature_type_in_like = refl

  -- nor the signature those of the likespec
  --   import M : sig val x : t end version * like struct type t = int end by Here_Already ()
  like_type_in_signature : refuses digest [] (program (ImportDef 0 (name 7 M) (sig 11 (ValSpec (name 19 x) (TyLocal 23 t) ∷ [])) (WantsVersion (Ranges [] true)) (Some (abbreviation (name 56 t) (TyInt 60) ∷ [])) (HereAlready ∷ []) ∷ []) (ExUnit 84)) ≡ Some (Unbound 23)
  like_type_in_signature = refl

  -- nor a later one
  --   import M : sig end version * like struct type t = u type u = int end by Here_Already ()
  later_like : refuses digest [] (program (ImportDef 0 (name 7 M) (sig 11 []) (WantsVersion (Ranges [] true)) (Some (abbreviation (name 46 t) (TyLocal 50 u) ∷ abbreviation (name 57 u) (TyInt 61) ∷ [])) (HereAlready ∷ []) ∷ []) (ExUnit 85)) ≡ Some (Unbound 50)
  later_like = refl

  -- nor does the expression see them
  --   import M : sig end version * like struct type t = int end by Here_Already ([] : M.t list)
  like_outside : refuses digest [] (program (ImportDef 0 (name 7 M) (sig 11 []) (WantsVersion (Ranges [] true)) (Some (abbreviation (name 46 t) (TyInt 50) ∷ [])) (HereAlready ∷ []) ∷ []) (ExNil 74 (TyList 80 (TyOf 80 (name 80 M) (name 82 t))))) ≡ Some (Unbound 82)
  like_outside = refl

  -- the signature stands in front of what is demanded, and that in front of what follows
  --   import N : sig val x : t end version name = M by Static_Link ()
  first_in_an_import : refuses digest [] (program (ImportDef 0 (name 7 N) (sig 11 (ValSpec (name 19 x) (TyLocal 23 t) ∷ [])) (WantsName (name 44 M)) None (StaticLink ∷ []) ∷ []) (ExUnit 61)) ≡ Some (Unbound 23)
  first_in_an_import = refl

  -- versions and constraints stay as they are, and a missing version is `myname`
  --   module M : sig end version 1.myname.3 = struct end module N : sig end = struct end import K : sig end version 1.2-3.-4.5-.* by Here_Already import L : sig end version * by Static_Link, "u" ()
  versions : adds digest [] (program (ModuleDef 0 (name 7 M) (sig 11 []) (Some (Number 1 ∷ MyName ∷ Number 3 ∷ [])) [] ∷ ModuleDef 51 (name 58 N) (sig 62 []) None [] ∷ ImportDef 83 (name 90 K) (sig 94 []) (WantsVersion (Ranges (One 1 ∷ Between 2 3 ∷ UpTo 4 ∷ From 5 ∷ []) true)) None (HereAlready ∷ []) ∷ ImportDef 140 (name 147 L) (sig 151 []) (WantsVersion (Ranges [] true)) None (StaticLink ∷ Uri (codes "u") ∷ []) ∷ []) (ExUnit 189)) ≡ Ok (AModule (record { name = M; version = Number 1 ∷ MyName ∷ Number 3 ∷ []; sig = signature [] []; types = []; fields = [] }) ∷ a_module N (signature [] []) [] [] ∷ an_import K (signature [] []) (Ranges (One 1 ∷ Between 2 3 ∷ UpTo 4 ∷ From 5 ∷ []) true) [] (HereAlready ∷ []) ∷ an_import L (signature [] []) (Ranges [] true) [] (StaticLink ∷ Uri u ∷ []) ∷ [])
  versions = refl

  -- a name is the digest of the canonical text
  --   module C : sig val y : int end = struct val y : int = 6 end ()
  name_of_a_text : names digest [] (program (ModuleDef 0 (name 7 (codes "C")) (sig 11 (ValSpec (name 19 y) (TyInt 23) ∷ [])) None (ValField (name 44 y) (TyInt 48) (ExInt 54 (pos 6)) ∷ []) ∷ []) (ExUnit 60)) ≡ Ok (Some (digest (1 ∷ 1 ∷ 67 ∷ 1 ∷ 2 ∷ 0 ∷ 0 ∷ 0 ∷ 1 ∷ 1 ∷ 121 ∷ 1 ∷ 0 ∷ 0 ∷ 0 ∷ 1 ∷ 1 ∷ 121 ∷ 1 ∷ 1 ∷ 0 ∷ 0 ∷ 0 ∷ 0 ∷ 0 ∷ 0 ∷ 0 ∷ 6 ∷ [])) ∷ [])
  name_of_a_text = refl

  -- names of variables, spaces and comments are no part of it
  --   module M : sig val f : int -> int end = struct val f : int -> int = fun (x : int) -> x end (* a comment *) module M : sig val f : int -> int end = struct val f : int -> int = fun (other : int) -> other end ()
  names_of_equal_modules : names digest [] (program (ModuleDef 0 (name 7 M) (sig 11 (ValSpec (name 19 f) (TyFun 23 (TyInt 23) (TyInt 30)) ∷ [])) None (ValField (name 51 f) (TyFun 55 (TyInt 55) (TyInt 62)) (ExFun 68 (name 73 x) (TyInt 77) (ExVar 85 x)) ∷ []) ∷ ModuleDef 107 (name 114 M) (sig 118 (ValSpec (name 126 f) (TyFun 130 (TyInt 130) (TyInt 137)) ∷ [])) None (ValField (name 158 f) (TyFun 162 (TyInt 162) (TyInt 169)) (ExFun 175 (name 180 (codes "other")) (TyInt 188) (ExVar 196 (codes "other"))) ∷ []) ∷ []) (ExUnit 206)) ≡ Ok (Some (named digest [] (one_function M f (Lam TInt (Var 0)))) ∷ Some (named digest [] (one_function M f (Lam TInt (Var 0)))) ∷ [])
  names_of_equal_modules = refl

  -- a reference is spelled by the name of what it goes to; a mark has no name
  --   module M : sig val y : int end = struct val y : int = 1 end module N : sig val z : int end = struct val z : int = M.y end module N : sig val z : int end = struct val z : int = M.y end mark "A" ()
  names_of_references : names digest [] (program (ModuleDef 0 (name 7 M) (sig 11 (ValSpec (name 19 y) (TyInt 23) ∷ [])) None (ValField (name 44 y) (TyInt 48) (ExInt 54 (pos 1)) ∷ []) ∷ ModuleDef 60 (name 67 N) (sig 71 (ValSpec (name 79 z) (TyInt 83) ∷ [])) None (ValField (name 104 z) (TyInt 108) (ExOf 114 (name 114 M) (name 116 y)) ∷ []) ∷ ModuleDef 122 (name 129 N) (sig 133 (ValSpec (name 141 z) (TyInt 145) ∷ [])) None (ValField (name 166 z) (TyInt 170) (ExOf 176 (name 176 M) (name 178 y)) ∷ []) ∷ MarkDef 184 189 (codes "A") ∷ []) (ExUnit 193)) ≡ Ok (Some (named digest [] (one_value M y (number 1))) ∷ Some (named digest front_y (one_value N z (Ref 0 y))) ∷ Some (named digest front_y (one_value N z (Ref 0 y))) ∷ None ∷ [])
  names_of_references = refl

  -- a resolvespec is no part of a name
  --   import M : sig end version 1 by Here_Already import M : sig end version 1 by Static_Link, "u" ()
  resolvespec_in_no_name : names digest [] (program (ImportDef 0 (name 7 M) (sig 11 []) (WantsVersion (Ranges (One 1 ∷ []) false)) None (HereAlready ∷ []) ∷ ImportDef 45 (name 52 M) (sig 56 []) (WantsVersion (Ranges (One 1 ∷ []) false)) None (StaticLink ∷ Uri (codes "u") ∷ []) ∷ []) (ExUnit 94)) ≡ Ok (Some (named digest [] (an_import M (signature [] []) (Ranges (One 1 ∷ []) false) [] [])) ∷ Some (named digest [] (an_import M (signature [] []) (Ranges (One 1 ∷ []) false) [] [])) ∷ [])
  resolvespec_in_no_name = refl
