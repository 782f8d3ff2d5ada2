-- Entries in front: a module by itself sees them, a program doesn't, computed. Each text stands above its tree.
use Rattle.std.proofs.Common.{◌≡◌, refl}
use Rattle.std.specs.Prelude.{pos, [], ◌∷◌, ◌++◌, Some, None, Ok}
use Rattle.ac_types.specs.Types.{Bytes, Typ, TInt, TAbs, TMine}
use Rattle.ac_types.specs.Sigs.{HereAlready}
use Rattle.ac_terms.specs.Terms.{Unit', Ref}
use Rattle.ac_terms.specs.Defs.{Environment, Def, Own', Shelf}
use Rattle.ac_syntax.specs.Trees.{TyInt, TyOf, ExInt, ExUnit, ExOf, ValSpec, ValField, WantsName, ModuleDef, ImportDef}
use Rattle.ac_resolve_scopes.specs.Surfaces.{Unbound}
use Rattle.ac_resolve_scopes.proofs.Samples.{name, sig, program, alone, typed, abstract, signature, field, a_module, one_value, number, refuses, means, adds, entries_behind, named, M, N, S, k, n, s, t, u, v, y, z}

-- two modules of one external name: the first has an abstract type, the second a value of it
abbrev first_shelved : Def
first_shelved = a_module S (signature (abstract t ∷ []) []) (typed t TInt ∷ []) []

abbrev second_shelved : Def
second_shelved = a_module S (signature (abstract t ∷ []) (typed s (TMine t) ∷ [])) (typed t TInt ∷ []) (field s TInt (number 1) ∷ [])

module _ (digest : Bytes → Bytes) where
  abbrev shelf_of_two : Environment
  shelf_of_two =
      record { def = first_shelved; name = Some (named digest [] first_shelved); seen = Shelf u; link = None } ∷
      record { def = second_shelved; name = Some (named digest [] second_shelved); seen = Shelf v; link = None } ∷ []

  abbrev second_t : Typ
  second_t = TAbs (named digest [] second_shelved) t

  -- a module by itself sees the entries in front of it, of two with one name the later
  --   module N : sig val z : S.t end = struct val z : S.t = S.s end
  module_sees_the_shelf : adds digest shelf_of_two (alone (ModuleDef 0 (name 7 N) (sig 11 (ValSpec (name 19 z) (TyOf 23 (name 23 S) (name 25 t)) ∷ [])) None (ValField (name 44 z) (TyOf 48 (name 48 S) (name 50 t)) (ExOf 54 (name 54 S) (name 56 s)) ∷ []))) ≡ Ok (a_module N (signature [] (typed z second_t ∷ [])) [] (field z second_t (Ref 1 s) ∷ []) ∷ [])
  module_sees_the_shelf = refl

  -- a program doesn't
  --   S.s
  program_sees_none : refuses digest shelf_of_two (program [] (ExOf 0 (name 0 S) (name 2 s))) ≡ Some (Unbound 0)
  program_sees_none = refl

  -- nor does a definition of a program
  --   module N : sig val z : S.t end = struct end ()
  definition_sees_none : refuses digest shelf_of_two (program (ModuleDef 0 (name 7 N) (sig 11 (ValSpec (name 19 z) (TyOf 23 (name 23 S) (name 25 t)) ∷ [])) None [] ∷ []) (ExUnit 44)) ≡ Some (Unbound 23)
  definition_sees_none = refl

  -- nor an import
  --   import N : sig end version name = S by Here_Already ()
  import_sees_none : refuses digest shelf_of_two (program (ImportDef 0 (name 7 N) (sig 11 []) (WantsName (name 34 S)) None (HereAlready ∷ []) ∷ []) (ExUnit 52)) ≡ Some (Unbound 34)
  import_sees_none = refl

  -- the entries of a program stand behind them
  --   module M : sig val y : int end = struct val y : int = 1 end M.y
  behind_the_shelf : means digest shelf_of_two (program (ModuleDef 0 (name 7 M) (sig 11 (ValSpec (name 19 y) (TyInt 23) ∷ [])) None (ValField (name 44 y) (TyInt 48) (ExInt 54 (pos 1)) ∷ []) ∷ []) (ExOf 60 (name 60 M) (name 62 y))) ≡ Ok (Ref 2 y)
  behind_the_shelf = refl

  -- and what stands in front of them stays
  --   module M : sig val y : int end = struct val y : int = 1 end ()
  seen_from_the_front : entries_behind digest shelf_of_two (program (ModuleDef 0 (name 7 M) (sig 11 (ValSpec (name 19 y) (TyInt 23) ∷ [])) None (ValField (name 44 y) (TyInt 48) (ExInt 54 (pos 1)) ∷ []) ∷ []) (ExUnit 60)) ≡ shelf_of_two ++ record { def = one_value M y (number 1); name = Some (named digest [] (one_value M y (number 1))); seen = Own'; link = None } ∷ []
  seen_from_the_front = refl

  -- a module may be called as one in front of it
  --   module S : sig end = struct val z : int = S.n end
  hides_the_shelf : adds digest (record { def = one_value S n (number 1); name = Some n; seen = Shelf u; link = None } ∷ []) (alone (ModuleDef 0 (name 7 S) (sig 11 []) None (ValField (name 32 z) (TyInt 36) (ExOf 42 (name 42 S) (name 44 n)) ∷ []))) ≡ Ok (a_module S (signature [] []) [] (field z TInt (Ref 0 n) ∷ []) ∷ [])
  hides_the_shelf = refl

  -- a type of the shelf is one of the name that its entry keeps
  --   module N : sig val z : S.t end = struct val z : S.t = S.s end
  name_kept_by_the_shelf : adds digest (record { def = second_shelved; name = Some k; seen = Shelf u; link = None } ∷ []) (alone (ModuleDef 0 (name 7 N) (sig 11 (ValSpec (name 19 z) (TyOf 23 (name 23 S) (name 25 t)) ∷ [])) None (ValField (name 44 z) (TyOf 48 (name 48 S) (name 50 t)) (ExOf 54 (name 54 S) (name 56 s)) ∷ []))) ≡ Ok (a_module N (signature [] (typed z (TAbs k t) ∷ [])) [] (field z (TAbs k t) (Ref 0 s) ∷ []) ∷ [])
  name_kept_by_the_shelf = refl

  -- with nothing in front of it nothing is seen
  --   module N : sig val z : S.t end = struct end
  nothing_on_the_shelf : refuses digest [] (alone (ModuleDef 0 (name 7 N) (sig 11 (ValSpec (name 19 z) (TyOf 23 (name 23 S) (name 25 t)) ∷ [])) None [])) ≡ Some (Unbound 23)
  nothing_on_the_shelf = refl

  -- the term of a module by itself is `()`
  --   module N : sig end = struct end
  module_alone_has_unit : means digest [] (alone (ModuleDef 0 (name 7 N) (sig 11 []) None [])) ≡ Ok Unit'
  module_alone_has_unit = refl
