-- Counts at their limits and past them, computed. Places are of no matter here, and are 0.
use Rattle.std.proofs.Common.{◌≡◌, refl}
use Rattle.std.specs.Prelude.{ℕ, suc, zero, ◌+◌, true, List, [], ◌∷◌, ◌++◌, replicate, Option, Some, None}
use Rattle.ac_types.specs.Types.{Bytes}
use Rattle.ac_types.specs.Sigs.{Resolve, Ranges, StaticLink, HereAlready, Uri}
use Rattle.ac_syntax.specs.Trees.{TypeTree, TyInt, TyLocal, TyOf, TyTuple, TyList, TyOpt, type_trees, PatWild, PatVar, PatTuple, pat_trees, Tree, ExUnit, ExTuple, ExFun, ExLet, ExMatch, ExTry, ExSeq, trees, arm_trees, AbbrevTree, SpecTree, AbstractSpec, ManifestSpec, ValSpec, FieldTree, AbbrevField, ValField, WantsVersion, DefTree, ModuleDef, ImportDef, MarkDef}
use Rattle.ac_terms.specs.Defs.{Environment}
use Rattle.ac_resolve_scopes.specs.Scopes.{scope_behind}
use Rattle.ac_resolve_scopes.specs.Searches.{found}
use Rattle.ac_resolve_scopes.specs.Counts.{large}
use Rattle.ac_resolve_scopes.specs.Surfaces.{least_passed}
use Rattle.ac_resolve_scopes.proofs.Samples.{name, abbreviation, sig, program, M, N, t, x, y}

-- the unit, an int, and so many lists
abbrev nothing : Tree
nothing = ExUnit 0

abbrev int : TypeTree
int = TyInt 0

abbrev lists : ℕ → TypeTree → TypeTree
lists zero T = T
lists (suc n) T = TyList 0 (lists n T)

abbrev wide : ℕ → TypeTree
wide n = TyTuple 0 (type_trees (replicate n int))

-- types that double: `type a = int`, `type b = a * a`, `type c = b * b`; behind n of them the last has 2 ^ n - 1 parts
abbrev letter : ℕ → Bytes
letter n = (96 + n) ∷ []

abbrev pair_of : ℕ → TypeTree
pair_of n = TyTuple 0 (type_trees (TyLocal 0 (letter n) ∷ TyLocal 0 (letter n) ∷ []))

abbrev doubling : ℕ → List AbbrevTree
doubling zero = []
doubling (suc zero) = abbreviation (name 0 (letter 1)) int ∷ []
doubling (suc (suc n)) = doubling (suc n) ++ abbreviation (name 0 (letter (suc (suc n)))) (pair_of (suc n)) ∷ []

abbrev items : List AbbrevTree → List FieldTree
items [] = []
items (a ∷ rest) = AbbrevField a ∷ items rest

abbrev specs_of : List AbbrevTree → List SpecTree
specs_of [] = []
specs_of (a ∷ rest) = ManifestSpec a ∷ specs_of rest

abbrev an_abbreviation : TypeTree → AbbrevTree
an_abbreviation T = abbreviation (name 0 t) T

abbrev module_of : List SpecTree → List FieldTree → DefTree
module_of specs fields = ModuleDef 0 (name 0 M) (sig 0 specs) None fields

abbrev import_of : List SpecTree → List AbbrevTree → List Resolve → DefTree
import_of specs like by = ImportDef 0 (name 0 M) (sig 0 specs) (WantsVersion (Ranges [] true)) (Some like) by

abbrev a_value : SpecTree
a_value = ValSpec (name 0 x) int

abbrev a_field : FieldTree
a_field = ValField (name 0 x) int nothing

module _ (digest : Bytes → Bytes) where
  abbrev in_program : Tree → Option ℕ
  in_program e = least_passed digest [] (program [] e)

  abbrev in_definitions : List DefTree → Option ℕ
  in_definitions ds = least_passed digest [] (program ds nothing)

  abbrev in_module : List SpecTree → List FieldTree → Option ℕ
  in_module specs fields = in_definitions (module_of specs fields ∷ [])

  abbrev in_import : List SpecTree → List AbbrevTree → List Resolve → Option ℕ
  in_import specs like by = in_definitions (import_of specs like by ∷ [])

  abbrev with_type : TypeTree → Option ℕ
  with_type T = in_program (ExLet 0 (name 0 x) T nothing nothing)

  -- definitions
  most_definitions : in_definitions (replicate 4096 (MarkDef 0 5 t)) ≡ None
  most_definitions = refl

  too_many_definitions : in_definitions (replicate 4097 (MarkDef 0 5 t)) ≡ Some 4097
  too_many_definitions = refl

  -- those in front of a program aren't counted
  definitions_behind_a_shelf : (E : Environment) → least_passed digest E (program (replicate 4096 (MarkDef 0 5 t)) nothing) ≡ None
  definitions_behind_a_shelf E = refl

  -- the types, and the values, of a signature
  most_types : in_module (replicate 1024 (AbstractSpec (name 0 t))) [] ≡ None
  most_types = refl

  too_many_types : in_module (replicate 1025 (AbstractSpec (name 0 t))) [] ≡ Some 1025
  too_many_types = refl

  most_values : in_module (replicate 1024 a_value) [] ≡ None
  most_values = refl

  too_many_values : in_module (replicate 1025 a_value) [] ≡ Some 1025
  too_many_values = refl

  counted_apart : in_module (replicate 1024 (AbstractSpec (name 0 t)) ++ replicate 1024 a_value) [] ≡ None
  counted_apart = refl

  too_many_values_of_an_import : in_import (replicate 1025 a_value) [] (HereAlready ∷ []) ≡ Some 1025
  too_many_values_of_an_import = refl

  -- of a struct
  most_struct_types : in_module [] (replicate 1024 (AbbrevField (an_abbreviation int))) ≡ None
  most_struct_types = refl

  too_many_struct_types : in_module [] (replicate 1025 (AbbrevField (an_abbreviation int))) ≡ Some 1025
  too_many_struct_types = refl

  most_fields : in_module [] (replicate 1024 a_field) ≡ None
  most_fields = refl

  too_many_fields : in_module [] (replicate 1025 a_field) ≡ Some 1025
  too_many_fields = refl

  fields_counted_apart : in_module [] (replicate 1024 (AbbrevField (an_abbreviation int)) ++ replicate 1024 a_field) ≡ None
  fields_counted_apart = refl

  -- of a likespec
  most_likes : in_import [] (replicate 1024 (an_abbreviation int)) (HereAlready ∷ []) ≡ None
  most_likes = refl

  too_many_likes : in_import [] (replicate 1025 (an_abbreviation int)) (HereAlready ∷ []) ≡ Some 1025
  too_many_likes = refl

  -- the atoms of a resolvespec, and the bytes of a URI
  most_atoms : in_import [] [] (replicate 16 HereAlready) ≡ None
  most_atoms = refl

  too_many_atoms : in_import [] [] (replicate 16 HereAlready ++ StaticLink ∷ []) ≡ Some 17
  too_many_atoms = refl

  longest_uri : in_import [] [] (Uri (replicate 1024 97) ∷ []) ≡ None
  longest_uri = refl

  too_long_uri : in_import [] [] (HereAlready ∷ Uri (replicate 1025 97) ∷ []) ≡ Some 1025
  too_long_uri = refl

  empty_uri : in_import [] [] (Uri [] ∷ []) ≡ None
  empty_uri = refl

  -- the arms of a match and of a try
  most_arms : in_program (ExMatch 0 nothing (arm_trees (replicate 1024 (PatWild 0, nothing)))) ≡ None
  most_arms = refl

  too_many_arms : in_program (ExMatch 0 nothing (arm_trees (replicate 1025 (PatWild 0, nothing)))) ≡ Some 1025
  too_many_arms = refl

  too_many_arms_of_a_try : in_program (ExTry 0 nothing (arm_trees (replicate 1025 (PatWild 0, nothing)))) ≡ Some 1025
  too_many_arms_of_a_try = refl

  -- the parts of a tuple, of its type and of its pattern
  widest_tuple : in_program (ExTuple 0 (trees (replicate 16 nothing))) ≡ None
  widest_tuple = refl

  too_wide_tuple : in_program (ExTuple 0 (trees (replicate 17 nothing))) ≡ Some 17
  too_wide_tuple = refl

  widest_type : with_type (wide 16) ≡ None
  widest_type = refl

  too_wide_type : with_type (TyList 0 (wide 17)) ≡ Some 17
  too_wide_type = refl

  widest_pattern : in_program (ExMatch 0 nothing (arm_trees ((PatTuple 0 (pat_trees (replicate 16 (PatWild 0))), nothing) ∷ []))) ≡ None
  widest_pattern = refl

  too_wide_pattern : in_program (ExMatch 0 nothing (arm_trees ((PatTuple 0 (pat_trees (replicate 17 (PatWild 0))), nothing) ∷ []))) ≡ Some 17
  too_wide_pattern = refl

  too_wide_in_a_pattern : in_program (ExMatch 0 nothing (arm_trees ((PatVar 0 (name 0 x) (wide 17), nothing) ∷ []))) ≡ Some 17
  too_wide_in_a_pattern = refl

  -- in each part of a definition
  too_wide_in_a_signature : in_module (ValSpec (name 0 x) (wide 17) ∷ []) [] ≡ Some 17
  too_wide_in_a_signature = refl

  too_wide_manifest : in_module (ManifestSpec (an_abbreviation (wide 17)) ∷ []) [] ≡ Some 17
  too_wide_manifest = refl

  too_wide_abbreviation : in_module [] (AbbrevField (an_abbreviation (wide 17)) ∷ []) ≡ Some 17
  too_wide_abbreviation = refl

  too_wide_in_a_field : in_module [] (ValField (name 0 x) (wide 17) nothing ∷ []) ≡ Some 17
  too_wide_in_a_field = refl

  too_wide_in_a_body : in_module [] (ValField (name 0 x) int (ExTuple 0 (trees (replicate 17 nothing))) ∷ []) ≡ Some 17
  too_wide_in_a_body = refl

  too_wide_in_a_like : in_import [] (an_abbreviation (wide 17) ∷ []) (HereAlready ∷ []) ≡ Some 17
  too_wide_in_a_like = refl

  -- a sequence has no such limit
  long_sequence : in_program (ExSeq 0 (trees (replicate 2000 nothing))) ≡ None
  long_sequence = refl

  -- the parts of a type written out: abbreviations that double, 4,096 and 4,097
  most_parts : in_module [] (items (doubling 12 ++ an_abbreviation (TyOpt 0 (TyLocal 0 (letter 12))) ∷ [])) ≡ None
  most_parts = refl

  too_many_parts : in_module [] (items (doubling 12 ++ an_abbreviation (TyList 0 (TyOpt 0 (TyLocal 0 (letter 12)))) ∷ [])) ≡ Some 4097
  too_many_parts = refl

  too_many_parts_by_doubling : in_module [] (items (doubling 13)) ≡ Some 4097
  too_many_parts_by_doubling = refl

  -- so in a likespec and in a signature
  too_many_parts_of_a_likespec : in_import [] (doubling 13) (HereAlready ∷ []) ≡ Some 4097
  too_many_parts_of_a_likespec = refl

  too_many_parts_of_a_signature : in_module (specs_of (doubling 13)) [] ≡ Some 4097
  too_many_parts_of_a_signature = refl

  -- and from outside
  parts_from_outside : in_definitions (module_of (specs_of (doubling 12)) [] ∷ ModuleDef 0 (name 0 N) (sig 0 (ValSpec (name 0 x) (TyTuple 0 (type_trees (TyOf 0 (name 0 M) (name 0 (letter 12)) ∷ int ∷ []))) ∷ [])) None [] ∷ []) ≡ Some 4097
  parts_from_outside = refl

  -- its height, 100 and 101
  highest : in_module [] (AbbrevField (abbreviation (name 0 x) (lists 60 int)) ∷ AbbrevField (abbreviation (name 0 y) (lists 39 (TyLocal 0 x))) ∷ []) ≡ None
  highest = refl

  too_high : in_module [] (AbbrevField (abbreviation (name 0 x) (lists 60 int)) ∷ AbbrevField (abbreviation (name 0 y) (lists 40 (TyLocal 0 x))) ∷ []) ≡ Some 101
  too_high = refl

  too_high_in_a_body : in_module [] (AbbrevField (abbreviation (name 0 x) (lists 60 int)) ∷ ValField (name 0 y) int (ExFun 0 (name 0 t) (lists 40 (TyLocal 0 x)) nothing) ∷ []) ≡ Some 101
  too_high_in_a_body = refl

  -- also through a type that has too many parts itself
  too_high_past_a_large_type : in_module [] (items (doubling 13 ++ an_abbreviation (lists 90 (TyLocal 0 (letter 13))) ∷ [])) ≡ Some 101
  too_high_past_a_large_type = refl

  -- the variables in scope at one place; fields are none
  most_variables : found large (record (scope_behind []) { variables = replicate 65535 x; fields = replicate 65536 x }) nothing ≡ None
  most_variables = refl

  too_many_variables : found large (record (scope_behind []) { variables = replicate 65536 x }) nothing ≡ Some 65536
  too_many_variables = refl

  -- of limits that are passed the least counts
  least_of_three : in_module (replicate 1025 a_value) (items (doubling 13) ++ AbbrevField (an_abbreviation (wide 17)) ∷ []) ≡ Some 17
  least_of_three = refl
