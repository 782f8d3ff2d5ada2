-- The lines of names, computed.
use Rattle.std.proofs.Common.{◌≡◌, refl, true, [], ◌∷◌, ◌++◌, Some, None}
use Rattle.std.specs.Prelude.{codes}
use Rattle.std.specs.Fmt.{digits}
use Rattle.hex.specs.Hex.{encode_lower}
use Rattle.ac_types.specs.Types.{Bytes}
use Rattle.ac_types.specs.Sigs.{Ranges}
use Rattle.ac_terms.specs.Defs.{Def, AModule, AnImport, AMark, Own', Shelf}
use Rattle.acute_listings.specs.DefinitionNames.{def_shown, names_shown}

abbrev a_module : Bytes → Def
a_module name = AModule (record { name = name; version = []; sig = record { types = []; vals = [] }; types = []; fields = [] })

-- a module of the shelf isn't counted
pub two_own : names_shown (
    record { def = a_module (codes "P"); name = Some (1 ∷ 2 ∷ []); seen = Shelf (codes "u"); link = None }
    ∷ record { def = AMark (codes "M\n"); name = None; seen = Own'; link = None }
    ∷ record { def = AMark (codes "N"); name = None; seen = Own'; link = None } ∷ [])
    ≡ codes "0 mark \"M\\n\"\n1 mark \"N\"\n"
unfolding digits
two_own = refl

-- a module and an import
pub module_shown : def_shown (a_module (codes "C")) (Some (10 ∷ 255 ∷ [])) ≡ codes "module C " ++ encode_lower (10 ∷ 255 ∷ [])
module_shown = refl

pub import_shown : def_shown (AnImport (record { name = codes "D"; sig = record { types = []; vals = [] }; constraint = Ranges [] true; like = []; by = [] })) (Some (0 ∷ 16 ∷ [])) ≡ codes "import D " ++ encode_lower (0 ∷ 16 ∷ [])
import_shown = refl
