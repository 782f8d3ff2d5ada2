-- Types behind a program's definitions, computed.
use Rattle.std.proofs.Common.{◌≡◌, refl}
use Rattle.std.specs.Prelude.{[], ◌∷◌, ◌++◌, Some, None, codes}
use Rattle.ac_types.specs.Types.{Bytes, TInt, TStr, TUnit, TTuple, TFun, TAbs, typs}
use Rattle.ac_terms.specs.Defs.{Environment, AModule, Seen, Own', Shelf, Arrived}
use Rattle.ac_syntax.specs.Trees.{TypeTree, TyInt, TyStr, TyUnit, TyLocal, TyOf, TyTuple, TyFun, type_trees}
use Rattle.ac_resolve_scopes.specs.Written.{type_in}
use Rattle.ac_resolve_scopes.specs.Surfaces.{Unbound}
use Rattle.ac_rules.proofs.Samples.{t, abstract_module}
use Rattle.ac_audit.specs.TypeTexts.{own_scope, type_fault}

-- C with its abstract type t, of this name
abbrev named : Bytes → Seen → Environment
named n seen = record { def = AModule abstract_module; name = Some n; seen = seen; link = None } ∷ []

abbrev its_t : TypeTree
its_t = TyOf 0 (record { at = 0; word = codes "C" }) (record { at = 2; word = t })

-- `unit -> int * string` behind no definition
pub of_no_names : type_in (own_scope []) (TyFun 0 (TyUnit 0) (TyTuple 8 (type_trees (TyInt 8 ∷ TyStr 14 ∷ [])))) ≡ TFun TUnit (TTuple (typs (TInt ∷ TStr ∷ [])))
of_no_names = refl

-- `t` alone is no name behind definitions
pub a_plain_name : type_fault (own_scope (named (codes "c") Own')) (TyLocal 0 t) ≡ Some (Unbound 0)
a_plain_name = refl

-- `C.t` behind the program's own C, and behind none
pub of_an_own : type_in (own_scope (named (codes "c") Own')) its_t ≡ TAbs (codes "c") t
of_an_own = refl

pub sound_of_an_own : type_fault (own_scope (named (codes "c") Own')) its_t ≡ None
sound_of_an_own = refl

pub of_no_definition : type_fault (own_scope []) its_t ≡ Some (Unbound 0)
of_no_definition = refl

-- C has no type u
pub no_such_type : type_fault (own_scope (named (codes "c") Own')) (TyOf 0 (record { at = 0; word = codes "C" }) (record { at = 2; word = codes "u" })) ≡ Some (Unbound 2)
no_such_type = refl

-- an entry of the shelf has no name here, nor has one that arrived
pub of_the_shelf : type_fault (own_scope (named (codes "c") (Shelf (codes "lib:c")))) its_t ≡ Some (Unbound 0)
of_the_shelf = refl

pub of_an_arrival : type_fault (own_scope (named (codes "c") Arrived)) its_t ≡ Some (Unbound 0)
of_an_arrival = refl

-- of two of one name the later counts
pub the_later : type_in (own_scope (named (codes "c") Own' ++ named (codes "d") Own')) its_t ≡ TAbs (codes "d") t
the_later = refl
