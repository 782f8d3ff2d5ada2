-- The types of a struct and of a signature, in themselves, computed. Each text stands above its tree.
use Rattle.std.proofs.Common.{◌≡◌, refl}
use Rattle.std.specs.Prelude.{pos, true, [], ◌∷◌, Some, None, Ok}
use Rattle.ac_types.specs.Types.{Bytes, TInt, TTuple, TList, TOpt, TFun, TMine, typs}
use Rattle.ac_types.specs.Sigs.{Ranges, HereAlready}
use Rattle.ac_terms.specs.Terms.{Tuple, Nil, Own, Lam, exprs}
use Rattle.ac_syntax.specs.Trees.{TyInt, TyLocal, TyTuple, TyList, TyOpt, TyFun, type_trees, ExInt, ExUnit, ExTuple, ExNil, ExVar, ExFun, trees, AbstractSpec, ManifestSpec, ValSpec, AbbrevField, ValField, WantsVersion, ModuleDef, ImportDef}
use Rattle.ac_resolve_scopes.specs.Surfaces.{Unbound}
use Rattle.ac_resolve_scopes.proofs.Samples.{name, sig, abbreviation, program, typed, abstract, manifest, signature, field, a_module, an_import, number, refuses, adds, M, f, p, q, t, u, x}

module _ (digest : Bytes → Bytes) where
  -- a struct's types are written out in what follows, own fields are numbered
  --   module M : sig end = struct type t = int type u = t * t val x : t = 1 val p : u = (x, x) end ()
  written_out : adds digest [] (program (ModuleDef 0 (name 7 M) (sig 11 []) None (AbbrevField (abbreviation (name 33 t) (TyInt 37)) ∷ AbbrevField (abbreviation (name 46 u) (TyTuple 50 (type_trees (TyLocal 50 t ∷ TyLocal 54 t ∷ [])))) ∷ ValField (name 60 x) (TyLocal 64 t) (ExInt 68 (pos 1)) ∷ ValField (name 74 p) (TyLocal 78 u) (ExTuple 82 (trees (ExVar 83 x ∷ ExVar 86 x ∷ []))) ∷ []) ∷ []) (ExUnit 93)) ≡ Ok (a_module M (signature [] []) (typed t TInt ∷ typed u (TTuple (typs (TInt ∷ TInt ∷ []))) ∷ []) (field x TInt (number 1) ∷ field p (TTuple (typs (TInt ∷ TInt ∷ []))) (Tuple (exprs (Own 0 ∷ Own 0 ∷ []))) ∷ []) ∷ [])
  written_out = refl

  -- also in the terms of fields
  --   module M : sig end = struct type t = int list val f : t -> t = fun (x : t) -> ([] : t) end ()
  in_a_body : adds digest [] (program (ModuleDef 0 (name 7 M) (sig 11 []) None (AbbrevField (abbreviation (name 33 t) (TyList 37 (TyInt 37))) ∷ ValField (name 50 f) (TyFun 54 (TyLocal 54 t) (TyLocal 59 t)) (ExFun 63 (name 68 x) (TyLocal 72 t) (ExNil 78 (TyLocal 84 t))) ∷ []) ∷ []) (ExUnit 91)) ≡ Ok (a_module M (signature [] []) (typed t (TList TInt) ∷ []) (field f (TFun (TList TInt) (TList TInt)) (Lam (TList TInt) (Nil (TList TInt))) ∷ []) ∷ [])
  in_a_body = refl

  -- an own abstract type of a signature is `Mine`, also in its manifest types; the struct's is an abbreviation
  --   module M : sig type t type u = t list val q : u * t end = struct type t = int type u = int list val q : u * t = (([] : u), 1) end ()
  own_in_signature : adds digest [] (program (ModuleDef 0 (name 7 M) (sig 11 (AbstractSpec (name 20 t) ∷ ManifestSpec (abbreviation (name 27 u) (TyList 31 (TyLocal 31 t))) ∷ ValSpec (name 42 q) (TyTuple 46 (type_trees (TyLocal 46 u ∷ TyLocal 50 t ∷ []))) ∷ [])) None (AbbrevField (abbreviation (name 70 t) (TyInt 74)) ∷ AbbrevField (abbreviation (name 83 u) (TyList 87 (TyInt 87))) ∷ ValField (name 100 q) (TyTuple 104 (type_trees (TyLocal 104 u ∷ TyLocal 108 t ∷ []))) (ExTuple 112 (trees (ExNil 113 (TyLocal 119 u) ∷ ExInt 123 (pos 1) ∷ []))) ∷ []) ∷ []) (ExUnit 130)) ≡ Ok (a_module M (signature (abstract t ∷ manifest u (TList (TMine t)) ∷ []) (typed q (TTuple (typs (TList (TMine t) ∷ TMine t ∷ []))) ∷ [])) (typed t TInt ∷ typed u (TList TInt) ∷ []) (field q (TTuple (typs (TList TInt ∷ TInt ∷ []))) (Tuple (exprs (Nil (TList TInt) ∷ number 1 ∷ []))) ∷ []) ∷ [])
  own_in_signature = refl

  -- a manifest type is written out in what follows it
  --   module M : sig type t = int type u = t * t val f : u -> t end = struct end ()
  manifest_in_signature : adds digest [] (program (ModuleDef 0 (name 7 M) (sig 11 (ManifestSpec (abbreviation (name 20 t) (TyInt 24)) ∷ ManifestSpec (abbreviation (name 33 u) (TyTuple 37 (type_trees (TyLocal 37 t ∷ TyLocal 41 t ∷ [])))) ∷ ValSpec (name 47 f) (TyFun 51 (TyLocal 51 u) (TyLocal 56 t)) ∷ [])) None [] ∷ []) (ExUnit 75)) ≡ Ok (a_module M (signature (manifest t TInt ∷ manifest u (TTuple (typs (TInt ∷ TInt ∷ []))) ∷ []) (typed f (TFun (TTuple (typs (TInt ∷ TInt ∷ []))) TInt) ∷ [])) [] [] ∷ [])
  manifest_in_signature = refl

  -- so in the signature of an import
  --   import M : sig type t type u = t option val f : u -> t end version * by Here_Already ()
  signature_of_an_import : adds digest [] (program (ImportDef 0 (name 7 M) (sig 11 (AbstractSpec (name 20 t) ∷ ManifestSpec (abbreviation (name 27 u) (TyOpt 31 (TyLocal 31 t))) ∷ ValSpec (name 44 f) (TyFun 48 (TyLocal 48 u) (TyLocal 53 t)) ∷ [])) (WantsVersion (Ranges [] true)) None (HereAlready ∷ []) ∷ []) (ExUnit 85)) ≡ Ok (an_import M (signature (abstract t ∷ manifest u (TOpt (TMine t)) ∷ []) (typed f (TFun (TOpt (TMine t)) (TMine t)) ∷ [])) (Ranges [] true) [] (HereAlready ∷ []) ∷ [])
  signature_of_an_import = refl

  -- a type and a value may have one name
  --   module M : sig type t val t : t end = struct type t = int val t : t = 1 end ()
  one_name_for_both : adds digest [] (program (ModuleDef 0 (name 7 M) (sig 11 (AbstractSpec (name 20 t) ∷ ValSpec (name 26 t) (TyLocal 30 t) ∷ [])) None (AbbrevField (abbreviation (name 50 t) (TyInt 54)) ∷ ValField (name 62 t) (TyLocal 66 t) (ExInt 70 (pos 1)) ∷ []) ∷ []) (ExUnit 76)) ≡ Ok (a_module M (signature (abstract t ∷ []) (typed t (TMine t) ∷ [])) (typed t TInt ∷ []) (field t TInt (number 1) ∷ []) ∷ [])
  one_name_for_both = refl

  -- a spec sees the types in front of it
  --   module M : sig val x : t type t end = struct end ()
  spec_before_its_type : refuses digest [] (program (ModuleDef 0 (name 7 M) (sig 11 (ValSpec (name 19 x) (TyLocal 23 t) ∷ AbstractSpec (name 30 t) ∷ [])) None [] ∷ []) (ExUnit 49)) ≡ Some (Unbound 23)
  spec_before_its_type = refl

  -- a manifest type isn't in scope in itself
  --   module M : sig type t = t end = struct end ()
  manifest_of_itself : refuses digest [] (program (ModuleDef 0 (name 7 M) (sig 11 (ManifestSpec (abbreviation (name 20 t) (TyLocal 24 t)) ∷ [])) None [] ∷ []) (ExUnit 43)) ≡ Some (Unbound 24)
  manifest_of_itself = refl

  -- nor an abbreviation
  --   module M : sig end = struct type t = t list end ()
  abbreviation_of_itself : refuses digest [] (program (ModuleDef 0 (name 7 M) (sig 11 []) None (AbbrevField (abbreviation (name 33 t) (TyList 37 (TyLocal 37 t))) ∷ []) ∷ []) (ExUnit 48)) ≡ Some (Unbound 37)
  abbreviation_of_itself = refl

  -- nor a later one
  --   module M : sig end = struct type t = u type u = int end ()
  later_type : refuses digest [] (program (ModuleDef 0 (name 7 M) (sig 11 []) None (AbbrevField (abbreviation (name 33 t) (TyLocal 37 u)) ∷ AbbrevField (abbreviation (name 44 u) (TyInt 48)) ∷ []) ∷ []) (ExUnit 56)) ≡ Some (Unbound 37)
  later_type = refl

  -- a struct's types aren't seen by its signature
  --   module M : sig val x : t end = struct type t = int val x : t = 1 end ()
  struct_type_in_signature : refuses digest [] (program (ModuleDef 0 (name 7 M) (sig 11 (ValSpec (name 19 x) (TyLocal 23 t) ∷ [])) None (AbbrevField (abbreviation (name 43 t) (TyInt 47)) ∷ ValField (name 55 x) (TyLocal 59 t) (ExInt 63 (pos 1)) ∷ []) ∷ []) (ExUnit 69)) ≡ Some (Unbound 23)
  struct_type_in_signature = refl

  -- nor a signature's by its struct
  --   module M : sig type t end = struct val x : t = 1 end ()
  signature_type_in_struct : refuses digest [] (program (ModuleDef 0 (name 7 M) (sig 11 (AbstractSpec (name 20 t) ∷ [])) None (ValField (name 39 x) (TyLocal 43 t) (ExInt 47 (pos 1)) ∷ []) ∷ []) (ExUnit 53)) ≡ Some (Unbound 43)
  signature_type_in_struct = refl

  -- a value is no type
  --   module M : sig val t : int val x : t end = struct end ()
  value_is_no_type : refuses digest [] (program (ModuleDef 0 (name 7 M) (sig 11 (ValSpec (name 19 t) (TyInt 23) ∷ ValSpec (name 31 x) (TyLocal 35 t) ∷ [])) None [] ∷ []) (ExUnit 54)) ≡ Some (Unbound 35)
  value_is_no_type = refl

  -- nor is a field
  --   module M : sig end = struct val t : int = 1 val x : t = 1 end ()
  field_is_no_type : refuses digest [] (program (ModuleDef 0 (name 7 M) (sig 11 []) None (ValField (name 32 t) (TyInt 36) (ExInt 42 (pos 1)) ∷ ValField (name 48 x) (TyLocal 52 t) (ExInt 56 (pos 1)) ∷ []) ∷ []) (ExUnit 62)) ≡ Some (Unbound 52)
  field_is_no_type = refl

  -- and a type is no field
  --   module M : sig end = struct type t = int val x : int = t end ()
  type_is_no_field : refuses digest [] (program (ModuleDef 0 (name 7 M) (sig 11 []) None (AbbrevField (abbreviation (name 33 t) (TyInt 37)) ∷ ValField (name 45 x) (TyInt 49) (ExVar 55 t) ∷ []) ∷ []) (ExUnit 61)) ≡ Some (Unbound 55)
  type_is_no_field = refl
