-- Names by SHA-256, computed: of a module, and of an import by its exact name.
use Rattle.std.proofs.Common.{◌≡◌, refl, [], ◌∷◌, codes, Some, None, pos, map}
use Rattle.sha2.specs.Sha256.{sha256, digest_bytes, hash_after, compress, rounds, schedule, first_words}
use Rattle.ac_types.specs.Sigs.{HereAlready}
use Rattle.ac_terms.specs.Defs.{Entry}
use Rattle.ac_syntax.specs.Trees.{TyInt, ValSpec, ValField, ModuleDef, ImportDef, WantsName, ExInt, ExUnit, ProgramTree}
use Rattle.ac_resolve_scopes.specs.Surfaces.{surface_entries}
use Rattle.ac_resolve_scopes.proofs.Samples.{name, sig}
use Rattle.ac_load_rules.proofs.LoadSamples.{program}

--   module C : sig val y : int end = struct val y : int = 6 end import C : sig end version name = C by Here_Already ()
abbrev two : ProgramTree
two =
    program
    (ModuleDef 0 (name 7 (codes "C")) (sig 11 (ValSpec (name 19 (codes "y")) (TyInt 23) ∷ [])) None (ValField (name 44 (codes "y")) (TyInt 48) (ExInt 54 (pos 6)) ∷ []) ∷
    ImportDef 60 (name 67 (codes "C")) (sig 71 []) (WantsName (name 94 (codes "C"))) None (HereAlready ∷ []) ∷ [])
    (Some (ExUnit 112))

names_of_two : map (λ (e : Entry). e.name) (surface_entries sha256 [] two) ≡ Some (0xF7 ∷ 0x4F ∷ 0xB4 ∷ 0x3C ∷ 0x40 ∷ 0xD9 ∷ 0x37 ∷ 0x0A ∷ 0x91 ∷ 0xF9 ∷ 0xA5 ∷ 0x48 ∷ 0xE7 ∷ 0x59 ∷ 0xD7 ∷ 0x56 ∷ 0x56 ∷ 0xEE ∷ 0xEC ∷ 0x26 ∷ 0x94 ∷ 0x73 ∷ 0xA3 ∷ 0xEB ∷ 0xF5 ∷ 0xB9 ∷ 0x56 ∷ 0x2B ∷ 0x82 ∷ 0x43 ∷ 0x23 ∷ 0x2D ∷ []) ∷ Some (0xF7 ∷ 0x4F ∷ 0xB4 ∷ 0x3C ∷ 0x40 ∷ 0xD9 ∷ 0x37 ∷ 0x0A ∷ 0x91 ∷ 0xF9 ∷ 0xA5 ∷ 0x48 ∷ 0xE7 ∷ 0x59 ∷ 0xD7 ∷ 0x56 ∷ 0x56 ∷ 0xEE ∷ 0xEC ∷ 0x26 ∷ 0x94 ∷ 0x73 ∷ 0xA3 ∷ 0xEB ∷ 0xF5 ∷ 0xB9 ∷ 0x56 ∷ 0x2B ∷ 0x82 ∷ 0x43 ∷ 0x23 ∷ 0x2D ∷ []) ∷ []
unfolding sha256 digest_bytes hash_after compress rounds schedule first_words
names_of_two = refl
