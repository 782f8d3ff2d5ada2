-- Whole programs beside a shelf: which are refused, by which cause, and what the others are linked to, computed. Each program stands above its tree; names are digests that weigh a text.
use Rattle.std.proofs.Common.{◌≡◌, refl, false, true, List, [], ◌∷◌, codes, Some, None, pos}
use Rattle.std.specs.Prelude.{negsuc}
use Rattle.ac_types.specs.Types.{Bytes, TInt, TStr, TUnit, TList, TFun, TAbs}
use Rattle.ac_types.specs.Sigs.{Number, One, UpTo, Ranges, StaticLink, HereAlready, Uri}
use Rattle.ac_syntax.specs.Trees.{TyInt, TyBool, TyStr, TyUnit, TyExn, TyLocal, TyOf, TyTuple, TyList, TyOpt, TyFun, type_trees, ExInt, ExBool, ExStr, ExUnit, ExExnOf, ExTuple, ExNil, ExPresent, ExCons, ExVar, ExOf, ExFun, ExApp, ExLet, ExSeq, ExOp, ExMarshal, trees, AbstractSpec, ManifestSpec, ValSpec, AbbrevField, ValField, WantsVersion, WantsName, ModuleDef, ImportDef, MarkDef, ProgramTree}
use Rattle.ac_resolve_scopes.specs.Surfaces.{Unbound, Repeated, TooMany}
use Rattle.ac_load_rules.specs.Causes.{BadScopes, IllTyped, Uncovered, NotValuable, LikeMissing, Unresolved, Clash}
use Rattle.ac_resolve_scopes.proofs.Samples.{name, sig, abbreviation}
use Rattle.ac_load_rules.proofs.LoadSamples.{program, refusal, links, type_of_main}

-- accepted: an expression over a module
--   module M : sig val y : int end version 1 = struct val y : int = 1 end M.y + 1
abbrev accepted-tree : ProgramTree
accepted-tree = program (ModuleDef 0 (name 7 (codes "M")) (sig 11 (ValSpec (name 19 (codes "y")) (TyInt 23) ∷ [])) (Some (Number 1 ∷ [])) (ValField (name 54 (codes "y")) (TyInt 58) (ExInt 64 (pos 1)) ∷ []) ∷ []) (Some (ExOp 70 0 (trees ((ExOf 70 (name 70 (codes "M")) (name 72 (codes "y"))) ∷ (ExInt 76 (pos 1)) ∷ []))))

accepted : refusal [] accepted-tree ≡ None
accepted = refl

accepted-links : links [] accepted-tree ≡ (None ∷ [])
accepted-links = refl

accepted-type : type_of_main [] accepted-tree ≡ Some TInt
accepted-type = refl

-- an expression is the definition behind the last
--   1 + true
abbrev ill_typed_expression-tree : ProgramTree
ill_typed_expression-tree = program [] (Some (ExOp 0 0 (trees ((ExInt 0 (pos 1)) ∷ (ExBool 4 true) ∷ []))))

ill_typed_expression : refusal [] ill_typed_expression-tree ≡ Some (0, IllTyped 0)
ill_typed_expression = refl

--   module M : sig val y : int end version 1 = struct val y : int = 1 end mark "A" M.y + true
abbrev ill_typed_behind_two-tree : ProgramTree
ill_typed_behind_two-tree = program (ModuleDef 0 (name 7 (codes "M")) (sig 11 (ValSpec (name 19 (codes "y")) (TyInt 23) ∷ [])) (Some (Number 1 ∷ [])) (ValField (name 54 (codes "y")) (TyInt 58) (ExInt 64 (pos 1)) ∷ []) ∷ MarkDef 70 75 (codes "A") ∷ []) (Some (ExOp 79 0 (trees ((ExOf 79 (name 79 (codes "M")) (name 81 (codes "y"))) ∷ (ExBool 85 true) ∷ []))))

ill_typed_behind_two : refusal [] ill_typed_behind_two-tree ≡ Some (0, IllTyped 2)
ill_typed_behind_two = refl

-- the first definition with an ill-typed field
--   module M : sig val y : int end version 1 = struct val y : int = 1 end mark "A" module N : sig end = struct val a : int = 1 val b : bool = 2 end ()
abbrev ill_typed_field-tree : ProgramTree
ill_typed_field-tree = program (ModuleDef 0 (name 7 (codes "M")) (sig 11 (ValSpec (name 19 (codes "y")) (TyInt 23) ∷ [])) (Some (Number 1 ∷ [])) (ValField (name 54 (codes "y")) (TyInt 58) (ExInt 64 (pos 1)) ∷ []) ∷ MarkDef 70 75 (codes "A") ∷ ModuleDef 79 (name 86 (codes "N")) (sig 90 []) None (ValField (name 111 (codes "a")) (TyInt 115) (ExInt 121 (pos 1)) ∷ ValField (name 127 (codes "b")) (TyBool 131) (ExInt 138 (pos 2)) ∷ []) ∷ []) (Some (ExUnit 144))

ill_typed_field : refusal [] ill_typed_field-tree ≡ Some (0, IllTyped 2)
ill_typed_field = refl

--   module N : sig end = struct val b : bool = 2 end true + 1
abbrev ill_typed_first-tree : ProgramTree
ill_typed_first-tree = program (ModuleDef 0 (name 7 (codes "N")) (sig 11 []) None (ValField (name 32 (codes "b")) (TyBool 36) (ExInt 43 (pos 2)) ∷ []) ∷ []) (Some (ExOp 49 0 (trees ((ExBool 49 true) ∷ (ExInt 56 (pos 1)) ∷ []))))

ill_typed_first : refusal [] ill_typed_first-tree ≡ Some (0, IllTyped 0)
ill_typed_first = refl

-- an abstract type is not what it stands for
--   module M : sig type t val x : t end version 1 = struct type t = int val x : t = 3 end M.x + 1
abbrev abstract_is_not_its_type-tree : ProgramTree
abstract_is_not_its_type-tree = program (ModuleDef 0 (name 7 (codes "M")) (sig 11 (AbstractSpec (name 20 (codes "t")) ∷ ValSpec (name 26 (codes "x")) (TyLocal 30 (codes "t")) ∷ [])) (Some (Number 1 ∷ [])) (AbbrevField (abbreviation (name 60 (codes "t")) (TyInt 64)) ∷ ValField (name 72 (codes "x")) (TyLocal 76 (codes "t")) (ExInt 80 (pos 3)) ∷ []) ∷ []) (Some (ExOp 86 0 (trees ((ExOf 86 (name 86 (codes "M")) (name 88 (codes "x"))) ∷ (ExInt 92 (pos 1)) ∷ []))))

abstract_is_not_its_type : refusal [] abstract_is_not_its_type-tree ≡ Some (0, IllTyped 1)
abstract_is_not_its_type = refl

-- inside the module it is
--   module M : sig type t val f : t -> int end = struct type t = int val f : t -> int = fun (x : t) -> x + 1 end ()
abbrev abstract_inside-tree : ProgramTree
abstract_inside-tree = program (ModuleDef 0 (name 7 (codes "M")) (sig 11 (AbstractSpec (name 20 (codes "t")) ∷ ValSpec (name 26 (codes "f")) (TyFun 30 (TyLocal 30 (codes "t")) (TyInt 35)) ∷ [])) None (AbbrevField (abbreviation (name 57 (codes "t")) (TyInt 61)) ∷ ValField (name 69 (codes "f")) (TyFun 73 (TyLocal 73 (codes "t")) (TyInt 78)) (ExFun 84 (name 89 (codes "x")) (TyLocal 93 (codes "t")) (ExOp 99 0 (trees ((ExVar 99 (codes "x")) ∷ (ExInt 103 (pos 1)) ∷ [])))) ∷ []) ∷ []) (Some (ExUnit 109))

abstract_inside : refusal [] abstract_inside-tree ≡ None
abstract_inside = refl

abstract_inside-type : type_of_main [] abstract_inside-tree ≡ Some TUnit
abstract_inside-type = refl

-- a manifest type is what it is
--   module M : sig type t = int val x : t end = struct type t = int val x : t = 3 end M.x + 1
abbrev manifest_outside-tree : ProgramTree
manifest_outside-tree = program (ModuleDef 0 (name 7 (codes "M")) (sig 11 (ManifestSpec (abbreviation (name 20 (codes "t")) (TyInt 24)) ∷ ValSpec (name 32 (codes "x")) (TyLocal 36 (codes "t")) ∷ [])) None (AbbrevField (abbreviation (name 56 (codes "t")) (TyInt 60)) ∷ ValField (name 68 (codes "x")) (TyLocal 72 (codes "t")) (ExInt 76 (pos 3)) ∷ []) ∷ []) (Some (ExOp 82 0 (trees ((ExOf 82 (name 82 (codes "M")) (name 84 (codes "x"))) ∷ (ExInt 88 (pos 1)) ∷ []))))

manifest_outside : refusal [] manifest_outside-tree ≡ None
manifest_outside = refl

manifest_outside-type : type_of_main [] manifest_outside-tree ≡ Some TInt
manifest_outside-type = refl

-- a struct without a value of its signature
--   module M : sig val y : int end = struct end ()
abbrev no_struct-tree : ProgramTree
no_struct-tree = program (ModuleDef 0 (name 7 (codes "M")) (sig 11 (ValSpec (name 19 (codes "y")) (TyInt 23) ∷ [])) None [] ∷ []) (Some (ExUnit 44))

no_struct : refusal [] no_struct-tree ≡ Some (0, Uncovered 0 0)
no_struct = refl

-- types are counted before values
--   module M : sig val y : int end version 1 = struct val y : int = 1 end module N : sig val a : int type t val b : bool end = struct type t = int val a : int = 1 val b : int = 2 end ()
abbrev second_spec-tree : ProgramTree
second_spec-tree = program (ModuleDef 0 (name 7 (codes "M")) (sig 11 (ValSpec (name 19 (codes "y")) (TyInt 23) ∷ [])) (Some (Number 1 ∷ [])) (ValField (name 54 (codes "y")) (TyInt 58) (ExInt 64 (pos 1)) ∷ []) ∷ ModuleDef 70 (name 77 (codes "N")) (sig 81 (ValSpec (name 89 (codes "a")) (TyInt 93) ∷ AbstractSpec (name 102 (codes "t")) ∷ ValSpec (name 108 (codes "b")) (TyBool 112) ∷ [])) None (AbbrevField (abbreviation (name 135 (codes "t")) (TyInt 139)) ∷ ValField (name 147 (codes "a")) (TyInt 151) (ExInt 157 (pos 1)) ∷ ValField (name 163 (codes "b")) (TyInt 167) (ExInt 173 (pos 2)) ∷ []) ∷ []) (Some (ExUnit 179))

second_spec : refusal [] second_spec-tree ≡ Some (0, Uncovered 1 2)
second_spec = refl

--   module M : sig type t = int type u = bool end = struct type t = int type u = int end ()
abbrev manifest_type_differs-tree : ProgramTree
manifest_type_differs-tree = program (ModuleDef 0 (name 7 (codes "M")) (sig 11 (ManifestSpec (abbreviation (name 20 (codes "t")) (TyInt 24)) ∷ ManifestSpec (abbreviation (name 33 (codes "u")) (TyBool 37)) ∷ [])) None (AbbrevField (abbreviation (name 60 (codes "t")) (TyInt 64)) ∷ AbbrevField (abbreviation (name 73 (codes "u")) (TyInt 77)) ∷ []) ∷ []) (Some (ExUnit 85))

manifest_type_differs : refusal [] manifest_type_differs-tree ≡ Some (0, Uncovered 0 1)
manifest_type_differs = refl

-- a manifest type is covered where the abstract types in it stand for the struct's
--   module M : sig type t type u = t list val x : u end = struct type t = int type u = t list val x : u = ([] : u) end ()
abbrev manifest_over_abstract-tree : ProgramTree
manifest_over_abstract-tree = program (ModuleDef 0 (name 7 (codes "M")) (sig 11 (AbstractSpec (name 20 (codes "t")) ∷ ManifestSpec (abbreviation (name 27 (codes "u")) (TyList 31 (TyLocal 31 (codes "t")))) ∷ ValSpec (name 42 (codes "x")) (TyLocal 46 (codes "u")) ∷ [])) None (AbbrevField (abbreviation (name 66 (codes "t")) (TyInt 70)) ∷ AbbrevField (abbreviation (name 79 (codes "u")) (TyList 83 (TyLocal 83 (codes "t")))) ∷ ValField (name 94 (codes "x")) (TyLocal 98 (codes "u")) (ExNil 102 (TyLocal 108 (codes "u"))) ∷ []) ∷ []) (Some (ExUnit 115))

manifest_over_abstract : refusal [] manifest_over_abstract-tree ≡ None
manifest_over_abstract = refl

manifest_over_abstract-type : type_of_main [] manifest_over_abstract-tree ≡ Some TUnit
manifest_over_abstract-type = refl

--   module M : sig type t val x : t end = struct type t = int val x : int = 1 end ()
abbrev value_over_abstract-tree : ProgramTree
value_over_abstract-tree = program (ModuleDef 0 (name 7 (codes "M")) (sig 11 (AbstractSpec (name 20 (codes "t")) ∷ ValSpec (name 26 (codes "x")) (TyLocal 30 (codes "t")) ∷ [])) None (AbbrevField (abbreviation (name 50 (codes "t")) (TyInt 54)) ∷ ValField (name 62 (codes "x")) (TyInt 66) (ExInt 72 (pos 1)) ∷ []) ∷ []) (Some (ExUnit 78))

value_over_abstract : refusal [] value_over_abstract-tree ≡ None
value_over_abstract = refl

value_over_abstract-type : type_of_main [] value_over_abstract-tree ≡ Some TUnit
value_over_abstract-type = refl

--   module M : sig end = struct type t = int val x : t = 1 end ()
abbrev struct_may_have_more-tree : ProgramTree
struct_may_have_more-tree = program (ModuleDef 0 (name 7 (codes "M")) (sig 11 []) None (AbbrevField (abbreviation (name 33 (codes "t")) (TyInt 37)) ∷ ValField (name 45 (codes "x")) (TyLocal 49 (codes "t")) (ExInt 53 (pos 1)) ∷ []) ∷ []) (Some (ExUnit 59))

struct_may_have_more : refusal [] struct_may_have_more-tree ≡ None
struct_may_have_more = refl

struct_may_have_more-type : type_of_main [] struct_may_have_more-tree ≡ Some TUnit
struct_may_have_more-type = refl

-- a field that computes; a lambda doesn't
--   module M : sig val y : int end version 1 = struct val y : int = 1 end module N : sig val y : int end = struct val x : int = 1 val y : int = x + 1 end ()
abbrev field_computes-tree : ProgramTree
field_computes-tree = program (ModuleDef 0 (name 7 (codes "M")) (sig 11 (ValSpec (name 19 (codes "y")) (TyInt 23) ∷ [])) (Some (Number 1 ∷ [])) (ValField (name 54 (codes "y")) (TyInt 58) (ExInt 64 (pos 1)) ∷ []) ∷ ModuleDef 70 (name 77 (codes "N")) (sig 81 (ValSpec (name 89 (codes "y")) (TyInt 93) ∷ [])) None (ValField (name 114 (codes "x")) (TyInt 118) (ExInt 124 (pos 1)) ∷ ValField (name 130 (codes "y")) (TyInt 134) (ExOp 140 0 (trees ((ExVar 140 (codes "x")) ∷ (ExInt 144 (pos 1)) ∷ []))) ∷ []) ∷ []) (Some (ExUnit 150))

field_computes : refusal [] field_computes-tree ≡ Some (0, NotValuable 1 1)
field_computes = refl

--   module N : sig end = struct val f : int -> int = fun (x : int) -> x + 1 val y : int = f 1 end ()
abbrev field_applies-tree : ProgramTree
field_applies-tree = program (ModuleDef 0 (name 7 (codes "N")) (sig 11 []) None (ValField (name 32 (codes "f")) (TyFun 36 (TyInt 36) (TyInt 43)) (ExFun 49 (name 54 (codes "x")) (TyInt 58) (ExOp 66 0 (trees ((ExVar 66 (codes "x")) ∷ (ExInt 70 (pos 1)) ∷ [])))) ∷ ValField (name 76 (codes "y")) (TyInt 80) (ExApp 86 (ExVar 86 (codes "f")) (ExInt 88 (pos 1))) ∷ []) ∷ []) (Some (ExUnit 94))

field_applies : refusal [] field_applies-tree ≡ Some (0, NotValuable 0 1)
field_applies = refl

--   module N : sig end = struct val p : int * int list = (1, (2 :: ([] : int list))) val e : exn = Failure "a" val q : unit -> string = IO.receive val n : int = -3 val o : int option = Some 1 end ()
abbrev field_is_valuable-tree : ProgramTree
field_is_valuable-tree = program (ModuleDef 0 (name 7 (codes "N")) (sig 11 []) None (ValField (name 32 (codes "p")) (TyTuple 36 (type_trees ((TyInt 36) ∷ (TyList 42 (TyInt 42)) ∷ []))) (ExTuple 53 (trees ((ExInt 54 (pos 1)) ∷ (ExCons 58 (ExInt 58 (pos 2)) (ExNil 63 (TyList 69 (TyInt 69)))) ∷ []))) ∷ ValField (name 85 (codes "e")) (TyExn 89) (ExExnOf 95 0 (ExStr 103 (codes "a"))) ∷ ValField (name 111 (codes "q")) (TyFun 115 (TyUnit 115) (TyStr 123)) (ExOf 132 (name 132 (codes "IO")) (name 135 (codes "receive"))) ∷ ValField (name 147 (codes "n")) (TyInt 151) (ExInt 157 (negsuc 2)) ∷ ValField (name 164 (codes "o")) (TyOpt 168 (TyInt 168)) (ExPresent 181 (ExInt 186 (pos 1))) ∷ []) ∷ []) (Some (ExUnit 192))

field_is_valuable : refusal [] field_is_valuable-tree ≡ None
field_is_valuable = refl

field_is_valuable-type : type_of_main [] field_is_valuable-tree ≡ Some TUnit
field_is_valuable-type = refl

--   module N : sig end = struct val n : int = -(3) end ()
abbrev minus_of_a_parenthesis-tree : ProgramTree
minus_of_a_parenthesis-tree = program (ModuleDef 0 (name 7 (codes "N")) (sig 11 []) None (ValField (name 32 (codes "n")) (TyInt 36) (ExOp 42 5 (trees ((ExInt 44 (pos 3)) ∷ []))) ∷ []) ∷ []) (Some (ExUnit 51))

minus_of_a_parenthesis : refusal [] minus_of_a_parenthesis-tree ≡ Some (0, NotValuable 0 0)
minus_of_a_parenthesis = refl

-- an abstract type without a likespec
--   import M : sig type t end version * by Here_Already ()
abbrev no_likespec-tree : ProgramTree
no_likespec-tree = program (ImportDef 0 (name 7 (codes "M")) (sig 11 (AbstractSpec (name 20 (codes "t")) ∷ [])) (WantsVersion (Ranges [] true)) None (HereAlready ∷ []) ∷ []) (Some (ExUnit 52))

no_likespec : refusal [] no_likespec-tree ≡ Some (0, LikeMissing 0 0)
no_likespec = refl

--   module M : sig type t val x : t end version 1 = struct type t = int val x : t = 3 end import M : sig type u = int type t type v end version * like struct type t = int end by Here_Already ()
abbrev second_likespec-tree : ProgramTree
second_likespec-tree = program (ModuleDef 0 (name 7 (codes "M")) (sig 11 (AbstractSpec (name 20 (codes "t")) ∷ ValSpec (name 26 (codes "x")) (TyLocal 30 (codes "t")) ∷ [])) (Some (Number 1 ∷ [])) (AbbrevField (abbreviation (name 60 (codes "t")) (TyInt 64)) ∷ ValField (name 72 (codes "x")) (TyLocal 76 (codes "t")) (ExInt 80 (pos 3)) ∷ []) ∷ ImportDef 86 (name 93 (codes "M")) (sig 97 (ManifestSpec (abbreviation (name 106 (codes "u")) (TyInt 110)) ∷ AbstractSpec (name 119 (codes "t")) ∷ AbstractSpec (name 126 (codes "v")) ∷ [])) (WantsVersion (Ranges [] true)) (Some ((abbreviation (name 159 (codes "t")) (TyInt 163)) ∷ [])) (HereAlready ∷ []) ∷ []) (Some (ExUnit 187))

second_likespec : refusal [] second_likespec-tree ≡ Some (0, LikeMissing 1 2)
second_likespec = refl

-- by exact name none is wanted
--   module M : sig type t val x : t end version 1 = struct type t = int val x : t = 3 end import M : sig type t end version name = M by Here_Already ()
abbrev exact_needs_no_likespec-tree : ProgramTree
exact_needs_no_likespec-tree = program (ModuleDef 0 (name 7 (codes "M")) (sig 11 (AbstractSpec (name 20 (codes "t")) ∷ ValSpec (name 26 (codes "x")) (TyLocal 30 (codes "t")) ∷ [])) (Some (Number 1 ∷ [])) (AbbrevField (abbreviation (name 60 (codes "t")) (TyInt 64)) ∷ ValField (name 72 (codes "x")) (TyLocal 76 (codes "t")) (ExInt 80 (pos 3)) ∷ []) ∷ ImportDef 86 (name 93 (codes "M")) (sig 97 (AbstractSpec (name 106 (codes "t")) ∷ [])) (WantsName (name 127 (codes "M"))) None (HereAlready ∷ []) ∷ []) (Some (ExUnit 145))

exact_needs_no_likespec : refusal [] exact_needs_no_likespec-tree ≡ None
exact_needs_no_likespec = refl

exact_needs_no_likespec-links : links [] exact_needs_no_likespec-tree ≡ (None ∷ Some 0 ∷ [])
exact_needs_no_likespec-links = refl

exact_needs_no_likespec-type : type_of_main [] exact_needs_no_likespec-tree ≡ Some TUnit
exact_needs_no_likespec-type = refl

-- an import without a link
--   import M : sig val y : int end version * by Here_Already, Static_Link, "u" ()
abbrev no_module_to_link-tree : ProgramTree
no_module_to_link-tree = program (ImportDef 0 (name 7 (codes "M")) (sig 11 (ValSpec (name 19 (codes "y")) (TyInt 23) ∷ [])) (WantsVersion (Ranges [] true)) None (HereAlready ∷ StaticLink ∷ Uri (codes "u") ∷ []) ∷ []) (Some (ExUnit 75))

no_module_to_link : refusal [] no_module_to_link-tree ≡ Some (0, Unresolved 0)
no_module_to_link = refl

-- a version that is not met
--   module M : sig val y : int end version 1 = struct val y : int = 1 end import M : sig val y : int end version 1 by Here_Already import M : sig val y : int end version 2 by Here_Already ()
abbrev second_import-tree : ProgramTree
second_import-tree = program (ModuleDef 0 (name 7 (codes "M")) (sig 11 (ValSpec (name 19 (codes "y")) (TyInt 23) ∷ [])) (Some (Number 1 ∷ [])) (ValField (name 54 (codes "y")) (TyInt 58) (ExInt 64 (pos 1)) ∷ []) ∷ ImportDef 70 (name 77 (codes "M")) (sig 81 (ValSpec (name 89 (codes "y")) (TyInt 93) ∷ [])) (WantsVersion (Ranges (One 1 ∷ []) false)) None (HereAlready ∷ []) ∷ ImportDef 127 (name 134 (codes "M")) (sig 138 (ValSpec (name 146 (codes "y")) (TyInt 150) ∷ [])) (WantsVersion (Ranges (One 2 ∷ []) false)) None (HereAlready ∷ []) ∷ []) (Some (ExUnit 184))

second_import : refusal [] second_import-tree ≡ Some (0, Unresolved 2)
second_import = refl

-- a module that stands behind the import
--   import M : sig val y : int end version 1 by Here_Already module M : sig val y : int end version 1 = struct val y : int = 1 end ()
abbrev linked_later-tree : ProgramTree
linked_later-tree = program (ImportDef 0 (name 7 (codes "M")) (sig 11 (ValSpec (name 19 (codes "y")) (TyInt 23) ∷ [])) (WantsVersion (Ranges (One 1 ∷ []) false)) None (HereAlready ∷ []) ∷ ModuleDef 57 (name 64 (codes "M")) (sig 68 (ValSpec (name 76 (codes "y")) (TyInt 80) ∷ [])) (Some (Number 1 ∷ [])) (ValField (name 111 (codes "y")) (TyInt 115) (ExInt 121 (pos 1)) ∷ []) ∷ []) (Some (ExUnit 127))

linked_later : refusal [] linked_later-tree ≡ Some (0, Unresolved 0)
linked_later = refl

--   module M : sig val y : int end version 1 = struct val y : int = 1 end import N : sig val y : int end version 1 by Here_Already ()
abbrev other_external_name-tree : ProgramTree
other_external_name-tree = program (ModuleDef 0 (name 7 (codes "M")) (sig 11 (ValSpec (name 19 (codes "y")) (TyInt 23) ∷ [])) (Some (Number 1 ∷ [])) (ValField (name 54 (codes "y")) (TyInt 58) (ExInt 64 (pos 1)) ∷ []) ∷ ImportDef 70 (name 77 (codes "N")) (sig 81 (ValSpec (name 89 (codes "y")) (TyInt 93) ∷ [])) (WantsVersion (Ranges (One 1 ∷ []) false)) None (HereAlready ∷ []) ∷ []) (Some (ExUnit 127))

other_external_name : refusal [] other_external_name-tree ≡ Some (0, Unresolved 1)
other_external_name = refl

--   module M : sig val y : int end version 1 = struct val y : int = 1 end import M : sig val z : int end version 1 by Here_Already ()
abbrev spec_not_there-tree : ProgramTree
spec_not_there-tree = program (ModuleDef 0 (name 7 (codes "M")) (sig 11 (ValSpec (name 19 (codes "y")) (TyInt 23) ∷ [])) (Some (Number 1 ∷ [])) (ValField (name 54 (codes "y")) (TyInt 58) (ExInt 64 (pos 1)) ∷ []) ∷ ImportDef 70 (name 77 (codes "M")) (sig 81 (ValSpec (name 89 (codes "z")) (TyInt 93) ∷ [])) (WantsVersion (Ranges (One 1 ∷ []) false)) None (HereAlready ∷ []) ∷ []) (Some (ExUnit 127))

spec_not_there : refusal [] spec_not_there-tree ≡ Some (0, Unresolved 1)
spec_not_there = refl

--   module M : sig type t val x : t end version 1 = struct type t = int val x : t = 3 end import M : sig type t val x : t end version * like struct type t = bool end by Here_Already ()
abbrev likespec_differs-tree : ProgramTree
likespec_differs-tree = program (ModuleDef 0 (name 7 (codes "M")) (sig 11 (AbstractSpec (name 20 (codes "t")) ∷ ValSpec (name 26 (codes "x")) (TyLocal 30 (codes "t")) ∷ [])) (Some (Number 1 ∷ [])) (AbbrevField (abbreviation (name 60 (codes "t")) (TyInt 64)) ∷ ValField (name 72 (codes "x")) (TyLocal 76 (codes "t")) (ExInt 80 (pos 3)) ∷ []) ∷ ImportDef 86 (name 93 (codes "M")) (sig 97 (AbstractSpec (name 106 (codes "t")) ∷ ValSpec (name 112 (codes "x")) (TyLocal 116 (codes "t")) ∷ [])) (WantsVersion (Ranges [] true)) (Some ((abbreviation (name 149 (codes "t")) (TyBool 153)) ∷ [])) (HereAlready ∷ []) ∷ []) (Some (ExUnit 178))

likespec_differs : refusal [] likespec_differs-tree ≡ Some (0, Unresolved 1)
likespec_differs = refl

-- the latest that passes is linked
--   module M : sig val y : int end version 1 = struct val y : int = 1 end module M : sig val y : int end version 2 = struct val y : int = 2 end import M : sig val y : int end version * by Static_Link M.y
abbrev latest_is_linked-tree : ProgramTree
latest_is_linked-tree = program (ModuleDef 0 (name 7 (codes "M")) (sig 11 (ValSpec (name 19 (codes "y")) (TyInt 23) ∷ [])) (Some (Number 1 ∷ [])) (ValField (name 54 (codes "y")) (TyInt 58) (ExInt 64 (pos 1)) ∷ []) ∷ ModuleDef 70 (name 77 (codes "M")) (sig 81 (ValSpec (name 89 (codes "y")) (TyInt 93) ∷ [])) (Some (Number 2 ∷ [])) (ValField (name 124 (codes "y")) (TyInt 128) (ExInt 134 (pos 2)) ∷ []) ∷ ImportDef 140 (name 147 (codes "M")) (sig 151 (ValSpec (name 159 (codes "y")) (TyInt 163) ∷ [])) (WantsVersion (Ranges [] true)) None (StaticLink ∷ []) ∷ []) (Some (ExOf 196 (name 196 (codes "M")) (name 198 (codes "y"))))

latest_is_linked : refusal [] latest_is_linked-tree ≡ None
latest_is_linked = refl

latest_is_linked-links : links [] latest_is_linked-tree ≡ (None ∷ None ∷ Some 1 ∷ [])
latest_is_linked-links = refl

latest_is_linked-type : type_of_main [] latest_is_linked-tree ≡ Some TInt
latest_is_linked-type = refl

--   module M : sig val y : int end version 1 = struct val y : int = 1 end module M : sig val y : int end version 2 = struct val y : int = 2 end import M : sig val y : int end version -1 by Static_Link M.y
abbrev latest_that_meets-tree : ProgramTree
latest_that_meets-tree = program (ModuleDef 0 (name 7 (codes "M")) (sig 11 (ValSpec (name 19 (codes "y")) (TyInt 23) ∷ [])) (Some (Number 1 ∷ [])) (ValField (name 54 (codes "y")) (TyInt 58) (ExInt 64 (pos 1)) ∷ []) ∷ ModuleDef 70 (name 77 (codes "M")) (sig 81 (ValSpec (name 89 (codes "y")) (TyInt 93) ∷ [])) (Some (Number 2 ∷ [])) (ValField (name 124 (codes "y")) (TyInt 128) (ExInt 134 (pos 2)) ∷ []) ∷ ImportDef 140 (name 147 (codes "M")) (sig 151 (ValSpec (name 159 (codes "y")) (TyInt 163) ∷ [])) (WantsVersion (Ranges (UpTo 1 ∷ []) false)) None (StaticLink ∷ []) ∷ []) (Some (ExOf 197 (name 197 (codes "M")) (name 199 (codes "y"))))

latest_that_meets : refusal [] latest_that_meets-tree ≡ None
latest_that_meets = refl

latest_that_meets-links : links [] latest_that_meets-tree ≡ (None ∷ None ∷ Some 0 ∷ [])
latest_that_meets-links = refl

latest_that_meets-type : type_of_main [] latest_that_meets-tree ≡ Some TInt
latest_that_meets-type = refl

-- an import is linked to modules alone
--   module M : sig val y : int end version 1 = struct val y : int = 1 end import M : sig val y : int end version * by Here_Already import M : sig val y : int end version * by Here_Already M.y
abbrev no_import_is_linked-tree : ProgramTree
no_import_is_linked-tree = program (ModuleDef 0 (name 7 (codes "M")) (sig 11 (ValSpec (name 19 (codes "y")) (TyInt 23) ∷ [])) (Some (Number 1 ∷ [])) (ValField (name 54 (codes "y")) (TyInt 58) (ExInt 64 (pos 1)) ∷ []) ∷ ImportDef 70 (name 77 (codes "M")) (sig 81 (ValSpec (name 89 (codes "y")) (TyInt 93) ∷ [])) (WantsVersion (Ranges [] true)) None (HereAlready ∷ []) ∷ ImportDef 127 (name 134 (codes "M")) (sig 138 (ValSpec (name 146 (codes "y")) (TyInt 150) ∷ [])) (WantsVersion (Ranges [] true)) None (HereAlready ∷ []) ∷ []) (Some (ExOf 184 (name 184 (codes "M")) (name 186 (codes "y"))))

no_import_is_linked : refusal [] no_import_is_linked-tree ≡ None
no_import_is_linked = refl

no_import_is_linked-links : links [] no_import_is_linked-tree ≡ (None ∷ Some 0 ∷ Some 0 ∷ [])
no_import_is_linked-links = refl

no_import_is_linked-type : type_of_main [] no_import_is_linked-tree ≡ Some TInt
no_import_is_linked-type = refl

-- by exact name
--   module M : sig val y : int end version 1 = struct val y : int = 1 end module N : sig end = struct end import M : sig val y : int end version name = M by Here_Already M.y
abbrev exact_is_linked-tree : ProgramTree
exact_is_linked-tree = program (ModuleDef 0 (name 7 (codes "M")) (sig 11 (ValSpec (name 19 (codes "y")) (TyInt 23) ∷ [])) (Some (Number 1 ∷ [])) (ValField (name 54 (codes "y")) (TyInt 58) (ExInt 64 (pos 1)) ∷ []) ∷ ModuleDef 70 (name 77 (codes "N")) (sig 81 []) None [] ∷ ImportDef 102 (name 109 (codes "M")) (sig 113 (ValSpec (name 121 (codes "y")) (TyInt 125) ∷ [])) (WantsName (name 148 (codes "M"))) None (HereAlready ∷ []) ∷ []) (Some (ExOf 166 (name 166 (codes "M")) (name 168 (codes "y"))))

exact_is_linked : refusal [] exact_is_linked-tree ≡ None
exact_is_linked = refl

exact_is_linked-links : links [] exact_is_linked-tree ≡ (None ∷ None ∷ Some 0 ∷ [])
exact_is_linked-links = refl

exact_is_linked-type : type_of_main [] exact_is_linked-tree ≡ Some TInt
exact_is_linked-type = refl

-- by the exact name of an import by version: no module has it
--   module M : sig val y : int end version 1 = struct val y : int = 1 end import M : sig val y : int end version * by Here_Already import M : sig val y : int end version name = M by Here_Already ()
abbrev exact_of_an_import-tree : ProgramTree
exact_of_an_import-tree = program (ModuleDef 0 (name 7 (codes "M")) (sig 11 (ValSpec (name 19 (codes "y")) (TyInt 23) ∷ [])) (Some (Number 1 ∷ [])) (ValField (name 54 (codes "y")) (TyInt 58) (ExInt 64 (pos 1)) ∷ []) ∷ ImportDef 70 (name 77 (codes "M")) (sig 81 (ValSpec (name 89 (codes "y")) (TyInt 93) ∷ [])) (WantsVersion (Ranges [] true)) None (HereAlready ∷ []) ∷ ImportDef 127 (name 134 (codes "M")) (sig 138 (ValSpec (name 146 (codes "y")) (TyInt 150) ∷ [])) (WantsName (name 173 (codes "M"))) None (HereAlready ∷ []) ∷ []) (Some (ExUnit 191))

exact_of_an_import : refusal [] exact_of_an_import-tree ≡ Some (0, Unresolved 2)
exact_of_an_import = refl

-- by the exact name of an import by exact name
--   module M : sig val y : int end version 1 = struct val y : int = 1 end import M : sig val y : int end version name = M by Here_Already import M : sig val y : int end version name = M by Here_Already M.y
abbrev exact_of_an_exact-tree : ProgramTree
exact_of_an_exact-tree = program (ModuleDef 0 (name 7 (codes "M")) (sig 11 (ValSpec (name 19 (codes "y")) (TyInt 23) ∷ [])) (Some (Number 1 ∷ [])) (ValField (name 54 (codes "y")) (TyInt 58) (ExInt 64 (pos 1)) ∷ []) ∷ ImportDef 70 (name 77 (codes "M")) (sig 81 (ValSpec (name 89 (codes "y")) (TyInt 93) ∷ [])) (WantsName (name 116 (codes "M"))) None (HereAlready ∷ []) ∷ ImportDef 134 (name 141 (codes "M")) (sig 145 (ValSpec (name 153 (codes "y")) (TyInt 157) ∷ [])) (WantsName (name 180 (codes "M"))) None (HereAlready ∷ []) ∷ []) (Some (ExOf 198 (name 198 (codes "M")) (name 200 (codes "y"))))

exact_of_an_exact : refusal [] exact_of_an_exact-tree ≡ None
exact_of_an_exact = refl

exact_of_an_exact-links : links [] exact_of_an_exact-tree ≡ (None ∷ Some 0 ∷ Some 0 ∷ [])
exact_of_an_exact-links = refl

exact_of_an_exact-type : type_of_main [] exact_of_an_exact-tree ≡ Some TInt
exact_of_an_exact-type = refl

-- by exact name the external names are the same too
--   module M : sig val y : int end version 1 = struct val y : int = 1 end import N : sig val y : int end version name = M by Here_Already ()
abbrev exact_of_other_external-tree : ProgramTree
exact_of_other_external-tree = program (ModuleDef 0 (name 7 (codes "M")) (sig 11 (ValSpec (name 19 (codes "y")) (TyInt 23) ∷ [])) (Some (Number 1 ∷ [])) (ValField (name 54 (codes "y")) (TyInt 58) (ExInt 64 (pos 1)) ∷ []) ∷ ImportDef 70 (name 77 (codes "N")) (sig 81 (ValSpec (name 89 (codes "y")) (TyInt 93) ∷ [])) (WantsName (name 116 (codes "M"))) None (HereAlready ∷ []) ∷ []) (Some (ExUnit 134))

exact_of_other_external : refusal [] exact_of_other_external-tree ≡ Some (0, Unresolved 1)
exact_of_other_external = refl

-- by exact name types are compared as they are: `M.t` is not the signature's own t
--   module M : sig type t val x : t end version 1 = struct type t = int val x : t = 3 end import M : sig val x : M.t end version name = M by Here_Already ()
abbrev exact_own_type_by_tree-tree : ProgramTree
exact_own_type_by_tree-tree = program (ModuleDef 0 (name 7 (codes "M")) (sig 11 (AbstractSpec (name 20 (codes "t")) ∷ ValSpec (name 26 (codes "x")) (TyLocal 30 (codes "t")) ∷ [])) (Some (Number 1 ∷ [])) (AbbrevField (abbreviation (name 60 (codes "t")) (TyInt 64)) ∷ ValField (name 72 (codes "x")) (TyLocal 76 (codes "t")) (ExInt 80 (pos 3)) ∷ []) ∷ ImportDef 86 (name 93 (codes "M")) (sig 97 (ValSpec (name 105 (codes "x")) (TyOf 109 (name 109 (codes "M")) (name 111 (codes "t"))) ∷ [])) (WantsName (name 132 (codes "M"))) None (HereAlready ∷ []) ∷ []) (Some (ExUnit 150))

exact_own_type_by_tree : refusal [] exact_own_type_by_tree-tree ≡ Some (0, Unresolved 1)
exact_own_type_by_tree = refl

--   module M : sig type t val x : t end version 1 = struct type t = int val x : t = 3 end import M : sig type t val x : t end version name = M by Here_Already let l : M.t list = M.x :: ([] : M.t list) in ()
abbrev exact_own_type-tree : ProgramTree
exact_own_type-tree = program (ModuleDef 0 (name 7 (codes "M")) (sig 11 (AbstractSpec (name 20 (codes "t")) ∷ ValSpec (name 26 (codes "x")) (TyLocal 30 (codes "t")) ∷ [])) (Some (Number 1 ∷ [])) (AbbrevField (abbreviation (name 60 (codes "t")) (TyInt 64)) ∷ ValField (name 72 (codes "x")) (TyLocal 76 (codes "t")) (ExInt 80 (pos 3)) ∷ []) ∷ ImportDef 86 (name 93 (codes "M")) (sig 97 (AbstractSpec (name 106 (codes "t")) ∷ ValSpec (name 112 (codes "x")) (TyLocal 116 (codes "t")) ∷ [])) (WantsName (name 137 (codes "M"))) None (HereAlready ∷ []) ∷ []) (Some (ExLet 155 (name 159 (codes "l")) (TyList 163 (TyOf 163 (name 163 (codes "M")) (name 165 (codes "t")))) (ExCons 174 (ExOf 174 (name 174 (codes "M")) (name 176 (codes "x"))) (ExNil 181 (TyList 187 (TyOf 187 (name 187 (codes "M")) (name 189 (codes "t")))))) (ExUnit 200)))

exact_own_type : refusal [] exact_own_type-tree ≡ None
exact_own_type = refl

exact_own_type-links : links [] exact_own_type-tree ≡ (None ∷ Some 0 ∷ [])
exact_own_type-links = refl

exact_own_type-type : type_of_main [] exact_own_type-tree ≡ Some TUnit
exact_own_type-type = refl

-- by version an own abstract type stands for the module's manifest one
--   module M : sig type t = int type u = t list val x : u end version 1 = struct type t = int type u = t list val x : u = ([] : u) end import M : sig type t type u = t list val x : u end version * like struct type t = int end by Here_Already M.x
abbrev version_over_manifest-tree : ProgramTree
version_over_manifest-tree = program (ModuleDef 0 (name 7 (codes "M")) (sig 11 (ManifestSpec (abbreviation (name 20 (codes "t")) (TyInt 24)) ∷ ManifestSpec (abbreviation (name 33 (codes "u")) (TyList 37 (TyLocal 37 (codes "t")))) ∷ ValSpec (name 48 (codes "x")) (TyLocal 52 (codes "u")) ∷ [])) (Some (Number 1 ∷ [])) (AbbrevField (abbreviation (name 82 (codes "t")) (TyInt 86)) ∷ AbbrevField (abbreviation (name 95 (codes "u")) (TyList 99 (TyLocal 99 (codes "t")))) ∷ ValField (name 110 (codes "x")) (TyLocal 114 (codes "u")) (ExNil 118 (TyLocal 124 (codes "u"))) ∷ []) ∷ ImportDef 131 (name 138 (codes "M")) (sig 142 (AbstractSpec (name 151 (codes "t")) ∷ ManifestSpec (abbreviation (name 158 (codes "u")) (TyList 162 (TyLocal 162 (codes "t")))) ∷ ValSpec (name 173 (codes "x")) (TyLocal 177 (codes "u")) ∷ [])) (WantsVersion (Ranges [] true)) (Some ((abbreviation (name 210 (codes "t")) (TyInt 214)) ∷ [])) (HereAlready ∷ []) ∷ []) (Some (ExOf 238 (name 238 (codes "M")) (name 240 (codes "x"))))

version_over_manifest : refusal [] version_over_manifest-tree ≡ None
version_over_manifest = refl

version_over_manifest-links : links [] version_over_manifest-tree ≡ (None ∷ Some 0 ∷ [])
version_over_manifest-links = refl

version_over_manifest-type : type_of_main [] version_over_manifest-tree ≡ Some (TList (TAbs (63 ∷ 31 ∷ []) (codes "t")))
version_over_manifest-type = refl

-- an import's abstract type is not the module's
--   module M : sig type t val x : t end version 1 = struct type t = int val x : t = 3 end module N : sig val f : M.t -> int end = struct val f : M.t -> int = fun (x : M.t) -> 1 end import M : sig type t val x : t end version * like struct type t = int end by Here_Already N.f M.x
abbrev import_hides_its_module-tree : ProgramTree
import_hides_its_module-tree = program (ModuleDef 0 (name 7 (codes "M")) (sig 11 (AbstractSpec (name 20 (codes "t")) ∷ ValSpec (name 26 (codes "x")) (TyLocal 30 (codes "t")) ∷ [])) (Some (Number 1 ∷ [])) (AbbrevField (abbreviation (name 60 (codes "t")) (TyInt 64)) ∷ ValField (name 72 (codes "x")) (TyLocal 76 (codes "t")) (ExInt 80 (pos 3)) ∷ []) ∷ ModuleDef 86 (name 93 (codes "N")) (sig 97 (ValSpec (name 105 (codes "f")) (TyFun 109 (TyOf 109 (name 109 (codes "M")) (name 111 (codes "t"))) (TyInt 116)) ∷ [])) None (ValField (name 137 (codes "f")) (TyFun 141 (TyOf 141 (name 141 (codes "M")) (name 143 (codes "t"))) (TyInt 148)) (ExFun 154 (name 159 (codes "x")) (TyOf 163 (name 163 (codes "M")) (name 165 (codes "t"))) (ExInt 171 (pos 1))) ∷ []) ∷ ImportDef 177 (name 184 (codes "M")) (sig 188 (AbstractSpec (name 197 (codes "t")) ∷ ValSpec (name 203 (codes "x")) (TyLocal 207 (codes "t")) ∷ [])) (WantsVersion (Ranges [] true)) (Some ((abbreviation (name 240 (codes "t")) (TyInt 244)) ∷ [])) (HereAlready ∷ []) ∷ []) (Some (ExApp 268 (ExOf 268 (name 268 (codes "N")) (name 270 (codes "f"))) (ExOf 272 (name 272 (codes "M")) (name 274 (codes "x")))))

import_hides_its_module : refusal [] import_hides_its_module-tree ≡ Some (0, IllTyped 3)
import_hides_its_module = refl

-- an entry of the shelf by its URI
--   1, lib:p: module P : sig val k : int end version 1.3 = struct val k : int = 41 end
--   import P : sig val k : int end version 1.* by "lib:p" P.k
abbrev by_uri-tree : ProgramTree
by_uri-tree = program (ImportDef 0 (name 7 (codes "P")) (sig 11 (ValSpec (name 19 (codes "k")) (TyInt 23) ∷ [])) (WantsVersion (Ranges (One 1 ∷ []) true)) None (Uri (codes "lib:p") ∷ []) ∷ []) (Some (ExOf 54 (name 54 (codes "P")) (name 56 (codes "k"))))

abbrev by_uri-shelf : List (Bytes × ProgramTree)
by_uri-shelf = (((codes "lib:p"), program (ModuleDef 0 (name 7 (codes "P")) (sig 11 (ValSpec (name 19 (codes "k")) (TyInt 23) ∷ [])) (Some (Number 1 ∷ Number 3 ∷ [])) (ValField (name 56 (codes "k")) (TyInt 60) (ExInt 66 (pos 41)) ∷ []) ∷ []) None) ∷ [])

by_uri : refusal by_uri-shelf by_uri-tree ≡ None
by_uri = refl

by_uri-links : links by_uri-shelf by_uri-tree ≡ (None ∷ Some 0 ∷ [])
by_uri-links = refl

by_uri-type : type_of_main by_uri-shelf by_uri-tree ≡ Some TInt
by_uri-type = refl

--   1, lib:p: module P : sig val k : int end version 1.3 = struct val k : int = 41 end
--   import P : sig val k : int end version 1.* by "lib:q" P.k
abbrev by_no_uri-tree : ProgramTree
by_no_uri-tree = program (ImportDef 0 (name 7 (codes "P")) (sig 11 (ValSpec (name 19 (codes "k")) (TyInt 23) ∷ [])) (WantsVersion (Ranges (One 1 ∷ []) true)) None (Uri (codes "lib:q") ∷ []) ∷ []) (Some (ExOf 54 (name 54 (codes "P")) (name 56 (codes "k"))))

abbrev by_no_uri-shelf : List (Bytes × ProgramTree)
by_no_uri-shelf = (((codes "lib:p"), program (ModuleDef 0 (name 7 (codes "P")) (sig 11 (ValSpec (name 19 (codes "k")) (TyInt 23) ∷ [])) (Some (Number 1 ∷ Number 3 ∷ [])) (ValField (name 56 (codes "k")) (TyInt 60) (ExInt 66 (pos 41)) ∷ []) ∷ []) None) ∷ [])

by_no_uri : refusal by_no_uri-shelf by_no_uri-tree ≡ Some (0, Unresolved 0)
by_no_uri = refl

--   1, lib:p: module P : sig val k : int end version 1.3 = struct val k : int = 41 end
--   import P : sig val k : int end version 2.3 by "lib:p" P.k
abbrev by_uri_other_version-tree : ProgramTree
by_uri_other_version-tree = program (ImportDef 0 (name 7 (codes "P")) (sig 11 (ValSpec (name 19 (codes "k")) (TyInt 23) ∷ [])) (WantsVersion (Ranges (One 2 ∷ One 3 ∷ []) false)) None (Uri (codes "lib:p") ∷ []) ∷ []) (Some (ExOf 54 (name 54 (codes "P")) (name 56 (codes "k"))))

abbrev by_uri_other_version-shelf : List (Bytes × ProgramTree)
by_uri_other_version-shelf = (((codes "lib:p"), program (ModuleDef 0 (name 7 (codes "P")) (sig 11 (ValSpec (name 19 (codes "k")) (TyInt 23) ∷ [])) (Some (Number 1 ∷ Number 3 ∷ [])) (ValField (name 56 (codes "k")) (TyInt 60) (ExInt 66 (pos 41)) ∷ []) ∷ []) None) ∷ [])

by_uri_other_version : refusal by_uri_other_version-shelf by_uri_other_version-tree ≡ Some (0, Unresolved 0)
by_uri_other_version = refl

-- the shelf's modules aren't own ones
--   1, lib:p: module P : sig val k : int end version 1.3 = struct val k : int = 41 end
--   import P : sig val k : int end version 1.* by Here_Already, Static_Link P.k
abbrev shelf_is_not_own-tree : ProgramTree
shelf_is_not_own-tree = program (ImportDef 0 (name 7 (codes "P")) (sig 11 (ValSpec (name 19 (codes "k")) (TyInt 23) ∷ [])) (WantsVersion (Ranges (One 1 ∷ []) true)) None (HereAlready ∷ StaticLink ∷ []) ∷ []) (Some (ExOf 72 (name 72 (codes "P")) (name 74 (codes "k"))))

abbrev shelf_is_not_own-shelf : List (Bytes × ProgramTree)
shelf_is_not_own-shelf = (((codes "lib:p"), program (ModuleDef 0 (name 7 (codes "P")) (sig 11 (ValSpec (name 19 (codes "k")) (TyInt 23) ∷ [])) (Some (Number 1 ∷ Number 3 ∷ [])) (ValField (name 56 (codes "k")) (TyInt 60) (ExInt 66 (pos 41)) ∷ []) ∷ []) None) ∷ [])

shelf_is_not_own : refusal shelf_is_not_own-shelf shelf_is_not_own-tree ≡ Some (0, Unresolved 0)
shelf_is_not_own = refl

-- nor are they seen by their external names
--   1, lib:p: module P : sig val k : int end version 1.3 = struct val k : int = 41 end
--   P.k
abbrev shelf_is_not_seen-tree : ProgramTree
shelf_is_not_seen-tree = program [] (Some (ExOf 0 (name 0 (codes "P")) (name 2 (codes "k"))))

abbrev shelf_is_not_seen-shelf : List (Bytes × ProgramTree)
shelf_is_not_seen-shelf = (((codes "lib:p"), program (ModuleDef 0 (name 7 (codes "P")) (sig 11 (ValSpec (name 19 (codes "k")) (TyInt 23) ∷ [])) (Some (Number 1 ∷ Number 3 ∷ [])) (ValField (name 56 (codes "k")) (TyInt 60) (ExInt 66 (pos 41)) ∷ []) ∷ []) None) ∷ [])

shelf_is_not_seen : refusal shelf_is_not_seen-shelf shelf_is_not_seen-tree ≡ Some (0, BadScopes (Unbound 0))
shelf_is_not_seen = refl

-- a text of the shelf names one in front of it
--   1, lib:p: module P : sig type t val k : int end version 1.3 = struct type t = int val k : int = 41 end
--   2, lib:q: module Q : sig val k : int type t = P.t end = struct type t = P.t val k : int = P.k end
--   import Q : sig val k : int end version * by "lib:q" Q.k
abbrev second_names_first-tree : ProgramTree
second_names_first-tree = program (ImportDef 0 (name 7 (codes "Q")) (sig 11 (ValSpec (name 19 (codes "k")) (TyInt 23) ∷ [])) (WantsVersion (Ranges [] true)) None (Uri (codes "lib:q") ∷ []) ∷ []) (Some (ExOf 52 (name 52 (codes "Q")) (name 54 (codes "k"))))

abbrev second_names_first-shelf : List (Bytes × ProgramTree)
second_names_first-shelf = (((codes "lib:p"), program (ModuleDef 0 (name 7 (codes "P")) (sig 11 (AbstractSpec (name 20 (codes "t")) ∷ ValSpec (name 26 (codes "k")) (TyInt 30) ∷ [])) (Some (Number 1 ∷ Number 3 ∷ [])) (AbbrevField (abbreviation (name 64 (codes "t")) (TyInt 68)) ∷ ValField (name 76 (codes "k")) (TyInt 80) (ExInt 86 (pos 41)) ∷ []) ∷ []) None) ∷ ((codes "lib:q"), program (ModuleDef 0 (name 7 (codes "Q")) (sig 11 (ValSpec (name 19 (codes "k")) (TyInt 23) ∷ ManifestSpec (abbreviation (name 32 (codes "t")) (TyOf 36 (name 36 (codes "P")) (name 38 (codes "t")))) ∷ [])) None (AbbrevField (abbreviation (name 58 (codes "t")) (TyOf 62 (name 62 (codes "P")) (name 64 (codes "t")))) ∷ ValField (name 70 (codes "k")) (TyInt 74) (ExOf 80 (name 80 (codes "P")) (name 82 (codes "k"))) ∷ []) ∷ []) None) ∷ [])

second_names_first : refusal second_names_first-shelf second_names_first-tree ≡ None
second_names_first = refl

second_names_first-links : links second_names_first-shelf second_names_first-tree ≡ (None ∷ None ∷ Some 1 ∷ [])
second_names_first-links = refl

second_names_first-type : type_of_main second_names_first-shelf second_names_first-tree ≡ Some TInt
second_names_first-type = refl

-- and none behind it
--   1, lib:q: module Q : sig val k : int type t = P.t end = struct type t = P.t val k : int = P.k end
--   2, lib:p: module P : sig type t val k : int end version 1.3 = struct type t = int val k : int = 41 end
--   ()
abbrev first_names_second-tree : ProgramTree
first_names_second-tree = program [] (Some (ExUnit 0))

abbrev first_names_second-shelf : List (Bytes × ProgramTree)
first_names_second-shelf = (((codes "lib:q"), program (ModuleDef 0 (name 7 (codes "Q")) (sig 11 (ValSpec (name 19 (codes "k")) (TyInt 23) ∷ ManifestSpec (abbreviation (name 32 (codes "t")) (TyOf 36 (name 36 (codes "P")) (name 38 (codes "t")))) ∷ [])) None (AbbrevField (abbreviation (name 58 (codes "t")) (TyOf 62 (name 62 (codes "P")) (name 64 (codes "t")))) ∷ ValField (name 70 (codes "k")) (TyInt 74) (ExOf 80 (name 80 (codes "P")) (name 82 (codes "k"))) ∷ []) ∷ []) None) ∷ ((codes "lib:p"), program (ModuleDef 0 (name 7 (codes "P")) (sig 11 (AbstractSpec (name 20 (codes "t")) ∷ ValSpec (name 26 (codes "k")) (TyInt 30) ∷ [])) (Some (Number 1 ∷ Number 3 ∷ [])) (AbbrevField (abbreviation (name 64 (codes "t")) (TyInt 68)) ∷ ValField (name 76 (codes "k")) (TyInt 80) (ExInt 86 (pos 41)) ∷ []) ∷ []) None) ∷ [])

first_names_second : refusal first_names_second-shelf first_names_second-tree ≡ Some (1, BadScopes (Unbound 36))
first_names_second = refl

-- a text of the shelf is refused before the program
--   1, u: module A : sig end = struct val b : bool = 1 end
--   2, lib:p: module P : sig val k : int end version 1.3 = struct val k : int = 41 end
--   x
abbrev shelf_ill_typed-tree : ProgramTree
shelf_ill_typed-tree = program [] (Some (ExVar 0 (codes "x")))

abbrev shelf_ill_typed-shelf : List (Bytes × ProgramTree)
shelf_ill_typed-shelf = (((codes "u"), program (ModuleDef 0 (name 7 (codes "A")) (sig 11 []) None (ValField (name 32 (codes "b")) (TyBool 36) (ExInt 43 (pos 1)) ∷ []) ∷ []) None) ∷ ((codes "lib:p"), program (ModuleDef 0 (name 7 (codes "P")) (sig 11 (ValSpec (name 19 (codes "k")) (TyInt 23) ∷ [])) (Some (Number 1 ∷ Number 3 ∷ [])) (ValField (name 56 (codes "k")) (TyInt 60) (ExInt 66 (pos 41)) ∷ []) ∷ []) None) ∷ [])

shelf_ill_typed : refusal shelf_ill_typed-shelf shelf_ill_typed-tree ≡ Some (1, IllTyped 0)
shelf_ill_typed = refl

--   1, lib:p: module P : sig val k : int end version 1.3 = struct val k : int = 41 end
--   2, u: module A : sig val a : int end = struct end
--   x
abbrev second_of_the_shelf-tree : ProgramTree
second_of_the_shelf-tree = program [] (Some (ExVar 0 (codes "x")))

abbrev second_of_the_shelf-shelf : List (Bytes × ProgramTree)
second_of_the_shelf-shelf = (((codes "lib:p"), program (ModuleDef 0 (name 7 (codes "P")) (sig 11 (ValSpec (name 19 (codes "k")) (TyInt 23) ∷ [])) (Some (Number 1 ∷ Number 3 ∷ [])) (ValField (name 56 (codes "k")) (TyInt 60) (ExInt 66 (pos 41)) ∷ []) ∷ []) None) ∷ ((codes "u"), program (ModuleDef 0 (name 7 (codes "A")) (sig 11 (ValSpec (name 19 (codes "a")) (TyInt 23) ∷ [])) None [] ∷ []) None) ∷ [])

second_of_the_shelf : refusal second_of_the_shelf-shelf second_of_the_shelf-tree ≡ Some (2, Uncovered 0 0)
second_of_the_shelf = refl

--   1, lib:p: module P : sig val k : int end version 1.3 = struct val k : int = 41 end
--   2, u: module IO : sig end = struct end
--   x
abbrev shelf_repeated-tree : ProgramTree
shelf_repeated-tree = program [] (Some (ExVar 0 (codes "x")))

abbrev shelf_repeated-shelf : List (Bytes × ProgramTree)
shelf_repeated-shelf = (((codes "lib:p"), program (ModuleDef 0 (name 7 (codes "P")) (sig 11 (ValSpec (name 19 (codes "k")) (TyInt 23) ∷ [])) (Some (Number 1 ∷ Number 3 ∷ [])) (ValField (name 56 (codes "k")) (TyInt 60) (ExInt 66 (pos 41)) ∷ []) ∷ []) None) ∷ ((codes "u"), program (ModuleDef 0 (name 7 (codes "IO")) (sig 12 []) None [] ∷ []) None) ∷ [])

shelf_repeated : refusal shelf_repeated-shelf shelf_repeated-tree ≡ Some (2, BadScopes (Repeated 7))
shelf_repeated = refl

--   1, u: module A : sig val a : int end = struct val b : int = 1 val a : int = 1 * 1 end
--   ()
abbrev shelf_not_valuable-tree : ProgramTree
shelf_not_valuable-tree = program [] (Some (ExUnit 0))

abbrev shelf_not_valuable-shelf : List (Bytes × ProgramTree)
shelf_not_valuable-shelf = (((codes "u"), program (ModuleDef 0 (name 7 (codes "A")) (sig 11 (ValSpec (name 19 (codes "a")) (TyInt 23) ∷ [])) None (ValField (name 44 (codes "b")) (TyInt 48) (ExInt 54 (pos 1)) ∷ ValField (name 60 (codes "a")) (TyInt 64) (ExOp 70 2 (trees ((ExInt 70 (pos 1)) ∷ (ExInt 74 (pos 1)) ∷ []))) ∷ []) ∷ []) None) ∷ [])

shelf_not_valuable : refusal shelf_not_valuable-shelf shelf_not_valuable-tree ≡ Some (1, NotValuable 0 1)
shelf_not_valuable = refl

-- the atoms of a resolvespec in their order
--   1, lib:p: module P : sig val k : int end version 1.3 = struct val k : int = 41 end
--   module P : sig val k : int end version 1.4 = struct val k : int = 42 end import P : sig val k : int end version 1.* by Here_Already, "lib:p" P.k
abbrev own_before_shelf-tree : ProgramTree
own_before_shelf-tree = program (ModuleDef 0 (name 7 (codes "P")) (sig 11 (ValSpec (name 19 (codes "k")) (TyInt 23) ∷ [])) (Some (Number 1 ∷ Number 4 ∷ [])) (ValField (name 56 (codes "k")) (TyInt 60) (ExInt 66 (pos 42)) ∷ []) ∷ ImportDef 73 (name 80 (codes "P")) (sig 84 (ValSpec (name 92 (codes "k")) (TyInt 96) ∷ [])) (WantsVersion (Ranges (One 1 ∷ []) true)) None (HereAlready ∷ Uri (codes "lib:p") ∷ []) ∷ []) (Some (ExOf 141 (name 141 (codes "P")) (name 143 (codes "k"))))

abbrev own_before_shelf-shelf : List (Bytes × ProgramTree)
own_before_shelf-shelf = (((codes "lib:p"), program (ModuleDef 0 (name 7 (codes "P")) (sig 11 (ValSpec (name 19 (codes "k")) (TyInt 23) ∷ [])) (Some (Number 1 ∷ Number 3 ∷ [])) (ValField (name 56 (codes "k")) (TyInt 60) (ExInt 66 (pos 41)) ∷ []) ∷ []) None) ∷ [])

own_before_shelf : refusal own_before_shelf-shelf own_before_shelf-tree ≡ None
own_before_shelf = refl

own_before_shelf-links : links own_before_shelf-shelf own_before_shelf-tree ≡ (None ∷ None ∷ Some 1 ∷ [])
own_before_shelf-links = refl

own_before_shelf-type : type_of_main own_before_shelf-shelf own_before_shelf-tree ≡ Some TInt
own_before_shelf-type = refl

--   1, lib:p: module P : sig val k : int end version 1.3 = struct val k : int = 41 end
--   module P : sig val k : int end version 1.4 = struct val k : int = 42 end import P : sig val k : int end version 1.* by "lib:p", Here_Already P.k
abbrev shelf_before_own-tree : ProgramTree
shelf_before_own-tree = program (ModuleDef 0 (name 7 (codes "P")) (sig 11 (ValSpec (name 19 (codes "k")) (TyInt 23) ∷ [])) (Some (Number 1 ∷ Number 4 ∷ [])) (ValField (name 56 (codes "k")) (TyInt 60) (ExInt 66 (pos 42)) ∷ []) ∷ ImportDef 73 (name 80 (codes "P")) (sig 84 (ValSpec (name 92 (codes "k")) (TyInt 96) ∷ [])) (WantsVersion (Ranges (One 1 ∷ []) true)) None (Uri (codes "lib:p") ∷ HereAlready ∷ []) ∷ []) (Some (ExOf 141 (name 141 (codes "P")) (name 143 (codes "k"))))

abbrev shelf_before_own-shelf : List (Bytes × ProgramTree)
shelf_before_own-shelf = (((codes "lib:p"), program (ModuleDef 0 (name 7 (codes "P")) (sig 11 (ValSpec (name 19 (codes "k")) (TyInt 23) ∷ [])) (Some (Number 1 ∷ Number 3 ∷ [])) (ValField (name 56 (codes "k")) (TyInt 60) (ExInt 66 (pos 41)) ∷ []) ∷ []) None) ∷ [])

shelf_before_own : refusal shelf_before_own-shelf shelf_before_own-tree ≡ None
shelf_before_own = refl

shelf_before_own-links : links shelf_before_own-shelf shelf_before_own-tree ≡ (None ∷ None ∷ Some 0 ∷ [])
shelf_before_own-links = refl

shelf_before_own-type : type_of_main shelf_before_own-shelf shelf_before_own-tree ≡ Some TInt
shelf_before_own-type = refl

-- two texts of one name, where the digest has no more to tell
--   module A : sig val a : int val b : int end = struct val a : int = 1 val b : int = 2 end module A : sig val a : int val b : int end = struct val a : int = 2 val b : int = 1 end ()
abbrev clash-tree : ProgramTree
clash-tree = program (ModuleDef 0 (name 7 (codes "A")) (sig 11 (ValSpec (name 19 (codes "a")) (TyInt 23) ∷ ValSpec (name 31 (codes "b")) (TyInt 35) ∷ [])) None (ValField (name 56 (codes "a")) (TyInt 60) (ExInt 66 (pos 1)) ∷ ValField (name 72 (codes "b")) (TyInt 76) (ExInt 82 (pos 2)) ∷ []) ∷ ModuleDef 88 (name 95 (codes "A")) (sig 99 (ValSpec (name 107 (codes "a")) (TyInt 111) ∷ ValSpec (name 119 (codes "b")) (TyInt 123) ∷ [])) None (ValField (name 144 (codes "a")) (TyInt 148) (ExInt 154 (pos 2)) ∷ ValField (name 160 (codes "b")) (TyInt 164) (ExInt 170 (pos 1)) ∷ []) ∷ []) (Some (ExUnit 176))

clash : refusal [] clash-tree ≡ Some (0, Clash 0 1)
clash = refl

-- two entries of one text
--   module A : sig val a : int val b : int end = struct val a : int = 1 val b : int = 2 end module A : sig val a : int val b : int end = struct val a : int = 1 val b : int = 2 end ()
abbrev equal_modules-tree : ProgramTree
equal_modules-tree = program (ModuleDef 0 (name 7 (codes "A")) (sig 11 (ValSpec (name 19 (codes "a")) (TyInt 23) ∷ ValSpec (name 31 (codes "b")) (TyInt 35) ∷ [])) None (ValField (name 56 (codes "a")) (TyInt 60) (ExInt 66 (pos 1)) ∷ ValField (name 72 (codes "b")) (TyInt 76) (ExInt 82 (pos 2)) ∷ []) ∷ ModuleDef 88 (name 95 (codes "A")) (sig 99 (ValSpec (name 107 (codes "a")) (TyInt 111) ∷ ValSpec (name 119 (codes "b")) (TyInt 123) ∷ [])) None (ValField (name 144 (codes "a")) (TyInt 148) (ExInt 154 (pos 1)) ∷ ValField (name 160 (codes "b")) (TyInt 164) (ExInt 170 (pos 2)) ∷ []) ∷ []) (Some (ExUnit 176))

equal_modules : refusal [] equal_modules-tree ≡ None
equal_modules = refl

equal_modules-type : type_of_main [] equal_modules-tree ≡ Some TUnit
equal_modules-type = refl

-- the least later entry, and for it the least earlier one
--   module M : sig val y : int end version 1 = struct val y : int = 1 end module A : sig val a : int val b : int end = struct val a : int = 1 val b : int = 2 end module A : sig val a : int val b : int end = struct val a : int = 1 val b : int = 2 end module A : sig val a : int val b : int end = struct val a : int = 2 val b : int = 1 end module A : sig val a : int val b : int end = struct val a : int = 0 val b : int = 3 end ()
abbrev clash_of_the_last-tree : ProgramTree
clash_of_the_last-tree = program (ModuleDef 0 (name 7 (codes "M")) (sig 11 (ValSpec (name 19 (codes "y")) (TyInt 23) ∷ [])) (Some (Number 1 ∷ [])) (ValField (name 54 (codes "y")) (TyInt 58) (ExInt 64 (pos 1)) ∷ []) ∷ ModuleDef 70 (name 77 (codes "A")) (sig 81 (ValSpec (name 89 (codes "a")) (TyInt 93) ∷ ValSpec (name 101 (codes "b")) (TyInt 105) ∷ [])) None (ValField (name 126 (codes "a")) (TyInt 130) (ExInt 136 (pos 1)) ∷ ValField (name 142 (codes "b")) (TyInt 146) (ExInt 152 (pos 2)) ∷ []) ∷ ModuleDef 158 (name 165 (codes "A")) (sig 169 (ValSpec (name 177 (codes "a")) (TyInt 181) ∷ ValSpec (name 189 (codes "b")) (TyInt 193) ∷ [])) None (ValField (name 214 (codes "a")) (TyInt 218) (ExInt 224 (pos 1)) ∷ ValField (name 230 (codes "b")) (TyInt 234) (ExInt 240 (pos 2)) ∷ []) ∷ ModuleDef 246 (name 253 (codes "A")) (sig 257 (ValSpec (name 265 (codes "a")) (TyInt 269) ∷ ValSpec (name 277 (codes "b")) (TyInt 281) ∷ [])) None (ValField (name 302 (codes "a")) (TyInt 306) (ExInt 312 (pos 2)) ∷ ValField (name 318 (codes "b")) (TyInt 322) (ExInt 328 (pos 1)) ∷ []) ∷ ModuleDef 334 (name 341 (codes "A")) (sig 345 (ValSpec (name 353 (codes "a")) (TyInt 357) ∷ ValSpec (name 365 (codes "b")) (TyInt 369) ∷ [])) None (ValField (name 390 (codes "a")) (TyInt 394) (ExInt 400 (pos 0)) ∷ ValField (name 406 (codes "b")) (TyInt 410) (ExInt 416 (pos 3)) ∷ []) ∷ []) (Some (ExUnit 422))

clash_of_the_last : refusal [] clash_of_the_last-tree ≡ Some (0, Clash 1 3)
clash_of_the_last = refl

--   1, u: module A : sig val a : int val b : int end = struct val a : int = 1 val b : int = 2 end
--   2, v: module A : sig val a : int val b : int end = struct val a : int = 2 val b : int = 1 end
--   x
abbrev clash_in_the_shelf-tree : ProgramTree
clash_in_the_shelf-tree = program [] (Some (ExVar 0 (codes "x")))

abbrev clash_in_the_shelf-shelf : List (Bytes × ProgramTree)
clash_in_the_shelf-shelf = (((codes "u"), program (ModuleDef 0 (name 7 (codes "A")) (sig 11 (ValSpec (name 19 (codes "a")) (TyInt 23) ∷ ValSpec (name 31 (codes "b")) (TyInt 35) ∷ [])) None (ValField (name 56 (codes "a")) (TyInt 60) (ExInt 66 (pos 1)) ∷ ValField (name 72 (codes "b")) (TyInt 76) (ExInt 82 (pos 2)) ∷ []) ∷ []) None) ∷ ((codes "v"), program (ModuleDef 0 (name 7 (codes "A")) (sig 11 (ValSpec (name 19 (codes "a")) (TyInt 23) ∷ ValSpec (name 31 (codes "b")) (TyInt 35) ∷ [])) None (ValField (name 56 (codes "a")) (TyInt 60) (ExInt 66 (pos 2)) ∷ ValField (name 72 (codes "b")) (TyInt 76) (ExInt 82 (pos 1)) ∷ []) ∷ []) None) ∷ [])

clash_in_the_shelf : refusal clash_in_the_shelf-shelf clash_in_the_shelf-tree ≡ Some (2, Clash 0 1)
clash_in_the_shelf = refl

--   1, u: module A : sig val a : int val b : int end = struct val a : int = 1 val b : int = 2 end
--   module A : sig val a : int val b : int end = struct val a : int = 2 val b : int = 1 end ()
abbrev clash_with_the_shelf-tree : ProgramTree
clash_with_the_shelf-tree = program (ModuleDef 0 (name 7 (codes "A")) (sig 11 (ValSpec (name 19 (codes "a")) (TyInt 23) ∷ ValSpec (name 31 (codes "b")) (TyInt 35) ∷ [])) None (ValField (name 56 (codes "a")) (TyInt 60) (ExInt 66 (pos 2)) ∷ ValField (name 72 (codes "b")) (TyInt 76) (ExInt 82 (pos 1)) ∷ []) ∷ []) (Some (ExUnit 88))

abbrev clash_with_the_shelf-shelf : List (Bytes × ProgramTree)
clash_with_the_shelf-shelf = (((codes "u"), program (ModuleDef 0 (name 7 (codes "A")) (sig 11 (ValSpec (name 19 (codes "a")) (TyInt 23) ∷ ValSpec (name 31 (codes "b")) (TyInt 35) ∷ [])) None (ValField (name 56 (codes "a")) (TyInt 60) (ExInt 66 (pos 1)) ∷ ValField (name 72 (codes "b")) (TyInt 76) (ExInt 82 (pos 2)) ∷ []) ∷ []) None) ∷ [])

clash_with_the_shelf : refusal clash_with_the_shelf-shelf clash_with_the_shelf-tree ≡ Some (0, Clash 0 1)
clash_with_the_shelf = refl

-- an import by exact name has no text
--   module A : sig val a : int val b : int end = struct val a : int = 1 val b : int = 2 end import A : sig end version name = A by Here_Already ()
abbrev exact_is_no_clash-tree : ProgramTree
exact_is_no_clash-tree = program (ModuleDef 0 (name 7 (codes "A")) (sig 11 (ValSpec (name 19 (codes "a")) (TyInt 23) ∷ ValSpec (name 31 (codes "b")) (TyInt 35) ∷ [])) None (ValField (name 56 (codes "a")) (TyInt 60) (ExInt 66 (pos 1)) ∷ ValField (name 72 (codes "b")) (TyInt 76) (ExInt 82 (pos 2)) ∷ []) ∷ ImportDef 88 (name 95 (codes "A")) (sig 99 []) (WantsName (name 122 (codes "A"))) None (HereAlready ∷ []) ∷ []) (Some (ExUnit 140))

exact_is_no_clash : refusal [] exact_is_no_clash-tree ≡ None
exact_is_no_clash = refl

exact_is_no_clash-links : links [] exact_is_no_clash-tree ≡ (None ∷ Some 0 ∷ [])
exact_is_no_clash-links = refl

exact_is_no_clash-type : type_of_main [] exact_is_no_clash-tree ≡ Some TUnit
exact_is_no_clash-type = refl

-- two causes at once, each in front of the next
--   module IO : sig end = struct end x
abbrev unbound_and_repeated-tree : ProgramTree
unbound_and_repeated-tree = program (ModuleDef 0 (name 7 (codes "IO")) (sig 12 []) None [] ∷ []) (Some (ExVar 33 (codes "x")))

unbound_and_repeated : refusal [] unbound_and_repeated-tree ≡ Some (0, BadScopes (Unbound 33))
unbound_and_repeated = refl

--   module IO : sig end = struct end (1, 1, 1, 1, 1, 1, 1, 1, 1, 1, 1, 1, 1, 1, 1, 1, 1)
abbrev repeated_and_too_many-tree : ProgramTree
repeated_and_too_many-tree = program (ModuleDef 0 (name 7 (codes "IO")) (sig 12 []) None [] ∷ []) (Some (ExTuple 33 (trees ((ExInt 34 (pos 1)) ∷ (ExInt 37 (pos 1)) ∷ (ExInt 40 (pos 1)) ∷ (ExInt 43 (pos 1)) ∷ (ExInt 46 (pos 1)) ∷ (ExInt 49 (pos 1)) ∷ (ExInt 52 (pos 1)) ∷ (ExInt 55 (pos 1)) ∷ (ExInt 58 (pos 1)) ∷ (ExInt 61 (pos 1)) ∷ (ExInt 64 (pos 1)) ∷ (ExInt 67 (pos 1)) ∷ (ExInt 70 (pos 1)) ∷ (ExInt 73 (pos 1)) ∷ (ExInt 76 (pos 1)) ∷ (ExInt 79 (pos 1)) ∷ (ExInt 82 (pos 1)) ∷ []))))

repeated_and_too_many : refusal [] repeated_and_too_many-tree ≡ Some (0, BadScopes (Repeated 7))
repeated_and_too_many = refl

--   (true + 1); (1, 1, 1, 1, 1, 1, 1, 1, 1, 1, 1, 1, 1, 1, 1, 1, 1)
abbrev too_many_and_type-tree : ProgramTree
too_many_and_type-tree = program [] (Some (ExSeq 0 (trees ((ExOp 1 0 (trees ((ExBool 1 true) ∷ (ExInt 8 (pos 1)) ∷ []))) ∷ (ExTuple 12 (trees ((ExInt 13 (pos 1)) ∷ (ExInt 16 (pos 1)) ∷ (ExInt 19 (pos 1)) ∷ (ExInt 22 (pos 1)) ∷ (ExInt 25 (pos 1)) ∷ (ExInt 28 (pos 1)) ∷ (ExInt 31 (pos 1)) ∷ (ExInt 34 (pos 1)) ∷ (ExInt 37 (pos 1)) ∷ (ExInt 40 (pos 1)) ∷ (ExInt 43 (pos 1)) ∷ (ExInt 46 (pos 1)) ∷ (ExInt 49 (pos 1)) ∷ (ExInt 52 (pos 1)) ∷ (ExInt 55 (pos 1)) ∷ (ExInt 58 (pos 1)) ∷ (ExInt 61 (pos 1)) ∷ []))) ∷ []))))

too_many_and_type : refusal [] too_many_and_type-tree ≡ Some (0, BadScopes (TooMany 17))
too_many_and_type = refl

--   module M : sig val y : int end = struct end true + 1
abbrev type_and_signature-tree : ProgramTree
type_and_signature-tree = program (ModuleDef 0 (name 7 (codes "M")) (sig 11 (ValSpec (name 19 (codes "y")) (TyInt 23) ∷ [])) None [] ∷ []) (Some (ExOp 44 0 (trees ((ExBool 44 true) ∷ (ExInt 51 (pos 1)) ∷ []))))

type_and_signature : refusal [] type_and_signature-tree ≡ Some (0, IllTyped 1)
type_and_signature = refl

--   module N : sig end = struct val a : int = 1 + 1 end module M : sig val y : int end = struct end ()
abbrev signature_and_not_valuable-tree : ProgramTree
signature_and_not_valuable-tree = program (ModuleDef 0 (name 7 (codes "N")) (sig 11 []) None (ValField (name 32 (codes "a")) (TyInt 36) (ExOp 42 0 (trees ((ExInt 42 (pos 1)) ∷ (ExInt 46 (pos 1)) ∷ []))) ∷ []) ∷ ModuleDef 52 (name 59 (codes "M")) (sig 63 (ValSpec (name 71 (codes "y")) (TyInt 75) ∷ [])) None [] ∷ []) (Some (ExUnit 96))

signature_and_not_valuable : refusal [] signature_and_not_valuable-tree ≡ Some (0, Uncovered 1 0)
signature_and_not_valuable = refl

--   import M : sig type t end version * by Here_Already module N : sig end = struct val a : int = 1 + 1 end ()
abbrev not_valuable_and_like-tree : ProgramTree
not_valuable_and_like-tree = program (ImportDef 0 (name 7 (codes "M")) (sig 11 (AbstractSpec (name 20 (codes "t")) ∷ [])) (WantsVersion (Ranges [] true)) None (HereAlready ∷ []) ∷ ModuleDef 52 (name 59 (codes "N")) (sig 63 []) None (ValField (name 84 (codes "a")) (TyInt 88) (ExOp 94 0 (trees ((ExInt 94 (pos 1)) ∷ (ExInt 98 (pos 1)) ∷ []))) ∷ []) ∷ []) (Some (ExUnit 104))

not_valuable_and_like : refusal [] not_valuable_and_like-tree ≡ Some (0, NotValuable 1 0)
not_valuable_and_like = refl

--   import K : sig end version * by Here_Already import M : sig type t end version * by Here_Already ()
abbrev like_and_unresolved-tree : ProgramTree
like_and_unresolved-tree = program (ImportDef 0 (name 7 (codes "K")) (sig 11 []) (WantsVersion (Ranges [] true)) None (HereAlready ∷ []) ∷ ImportDef 45 (name 52 (codes "M")) (sig 56 (AbstractSpec (name 65 (codes "t")) ∷ [])) (WantsVersion (Ranges [] true)) None (HereAlready ∷ []) ∷ []) (Some (ExUnit 97))

like_and_unresolved : refusal [] like_and_unresolved-tree ≡ Some (0, LikeMissing 1 0)
like_and_unresolved = refl

--   module A : sig val a : int val b : int end = struct val a : int = 1 val b : int = 2 end module A : sig val a : int val b : int end = struct val a : int = 2 val b : int = 1 end import K : sig end version * by Here_Already ()
abbrev unresolved_and_clash-tree : ProgramTree
unresolved_and_clash-tree = program (ModuleDef 0 (name 7 (codes "A")) (sig 11 (ValSpec (name 19 (codes "a")) (TyInt 23) ∷ ValSpec (name 31 (codes "b")) (TyInt 35) ∷ [])) None (ValField (name 56 (codes "a")) (TyInt 60) (ExInt 66 (pos 1)) ∷ ValField (name 72 (codes "b")) (TyInt 76) (ExInt 82 (pos 2)) ∷ []) ∷ ModuleDef 88 (name 95 (codes "A")) (sig 99 (ValSpec (name 107 (codes "a")) (TyInt 111) ∷ ValSpec (name 119 (codes "b")) (TyInt 123) ∷ [])) None (ValField (name 144 (codes "a")) (TyInt 148) (ExInt 154 (pos 2)) ∷ ValField (name 160 (codes "b")) (TyInt 164) (ExInt 170 (pos 1)) ∷ []) ∷ ImportDef 176 (name 183 (codes "K")) (sig 187 []) (WantsVersion (Ranges [] true)) None (HereAlready ∷ []) ∷ []) (Some (ExUnit 221))

unresolved_and_clash : refusal [] unresolved_and_clash-tree ≡ Some (0, Unresolved 2)
unresolved_and_clash = refl

-- a `marshal` at an own type inside its module is at what it stands for
--   mark "A" module M : sig type t val f : t -> string end = struct type t = int val f : t -> string = fun (x : t) -> marshal "A" x : t end M.f
abbrev marshal_inside-tree : ProgramTree
marshal_inside-tree = program (MarkDef 0 5 (codes "A") ∷ ModuleDef 9 (name 16 (codes "M")) (sig 20 (AbstractSpec (name 29 (codes "t")) ∷ ValSpec (name 35 (codes "f")) (TyFun 39 (TyLocal 39 (codes "t")) (TyStr 44)) ∷ [])) None (AbbrevField (abbreviation (name 69 (codes "t")) (TyInt 73)) ∷ ValField (name 81 (codes "f")) (TyFun 85 (TyLocal 85 (codes "t")) (TyStr 90)) (ExFun 99 (name 104 (codes "x")) (TyLocal 108 (codes "t")) (ExMarshal 114 (ExStr 122 (codes "A")) (ExVar 126 (codes "x")) (TyLocal 130 (codes "t")))) ∷ []) ∷ []) (Some (ExOf 136 (name 136 (codes "M")) (name 138 (codes "f"))))

marshal_inside : refusal [] marshal_inside-tree ≡ None
marshal_inside = refl

marshal_inside-type : type_of_main [] marshal_inside-tree ≡ Some (TFun (TAbs (32 ∷ 44 ∷ []) (codes "t")) TStr)
marshal_inside-type = refl
