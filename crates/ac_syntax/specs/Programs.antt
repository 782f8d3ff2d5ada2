-- Which signs are which signature, definition and program.
--
--   program    = (def)* expr
--   def        = module | import | 'mark' STRING
--   module     = 'module' UPPER ':' sig ['version' version] '=' 'struct' (field)* 'end'
--   sig        = 'sig' (spec)* 'end'
--   spec       = 'type' lower ['=' type] | 'val' lower ':' type
--   field      = abbrev | 'val' lower ':' type '=' expr
--   abbrev     = 'type' lower '=' type
--   import     = 'import' UPPER ':' sig 'version' constraint ['like' 'struct' (abbrev)* 'end'] 'by' resolve
--              | 'import' UPPER ':' sig 'version' 'name' '=' UPPER 'by' resolve
--   resolve    = ratom (',' ratom)*
--   ratom      = 'Static_Link' | 'Here_Already' | STRING
--
-- What a version and a constraint are is said where they are read.
use Rattle.std.specs.Prelude.{◌≡◌, ℕ, Bool, List, [], ◌∷◌, Option, Some, None}
use Rattle.ac_types.specs.Types.{Bytes}
use Rattle.ac_types.specs.Sigs.{Atom, Range, Ranges, Resolve, StaticLink, HereAlready, Uri}
use Rattle.ac_version.specs.declared.read.VToken.{VToken}
use Rattle.ac_version.specs.declared.read.VToken.TheVariants as vtoken
use Rattle.ac_version.specs.VersionReading.{IsVersion, IsConstraint}
use Rattle.ac_syntax.specs.Signs.{Sign, Int, Str, Lower, Upper, Fixed}
use Rattle.ac_syntax.specs.Trees.{NameAt, TypeTree, Tree, AbbrevTree, SpecTree, AbstractSpec, ManifestSpec, ValSpec, SigTree, FieldTree, AbbrevField, ValField, WantsVersion, WantsName, DefTree, ModuleDef, ImportDef, MarkDef, ProgramTree}
use Rattle.ac_syntax.specs.TypeForms.{IsType}
use Rattle.ac_syntax.specs.Expressions.{IsExpr}
use Rattle.ac_syntax.specs.declared.sign.Symbol.TheVariants as symbol
use Rattle.ac_syntax.specs.declared.sign.Symbol.TheVariants.{By, Colon, Comma, End, Equals, Import, Like, Mark, Module, NameWord, Sig, Struct, TypeWord, Val, Version}

abbrev pub placed_name : ℕ → Bytes → NameAt
placed_name at word = record { at = at; word = word }

abbrev pub abbreviation : ℕ → Bytes → TypeTree → AbbrevTree
abbreviation at word T = record { name = placed_name at word; ty = T }

-- the specs of a signature, and its `end`
pub data ParsesSpecs : List Sign → List SpecTree → List Sign → Type 0 where
  no_specs : {a : ℕ} {ts : List Sign} → ParsesSpecs (Fixed a End ∷ ts) [] ts
  abstract_type : {a b : ℕ} {x : Bytes} {specs : List SpecTree} {ts r : List Sign}
      → ParsesSpecs ts specs r → ParsesSpecs (Fixed a TypeWord ∷ Lower b x ∷ ts) (AbstractSpec (placed_name b x) ∷ specs) r
  manifest_type : {a b c : ℕ} {x : Bytes} {T : TypeTree} {specs : List SpecTree} {ts r s : List Sign}
      → IsType ts T r → ParsesSpecs r specs s → ParsesSpecs (Fixed a TypeWord ∷ Lower b x ∷ Fixed c Equals ∷ ts) (ManifestSpec (abbreviation b x T) ∷ specs) s
  value : {a b c : ℕ} {x : Bytes} {T : TypeTree} {specs : List SpecTree} {ts r s : List Sign}
      → IsType ts T r → ParsesSpecs r specs s → ParsesSpecs (Fixed a Val ∷ Lower b x ∷ Fixed c Colon ∷ ts) (ValSpec (placed_name b x) T ∷ specs) s

-- a signature, behind which these signs are left
pub data IsSig : List Sign → SigTree → List Sign → Type 0 where
  sig : {a : ℕ} {specs : List SpecTree} {ts r : List Sign} → ParsesSpecs ts specs r → IsSig (Fixed a Sig ∷ ts) (record { at = a; specs = specs }) r

-- the fields of a struct, and its `end`
pub data ParsesFields : List Sign → List FieldTree → List Sign → Type 0 where
  no_fields : {a : ℕ} {ts : List Sign} → ParsesFields (Fixed a End ∷ ts) [] ts
  type_field : {a b c : ℕ} {x : Bytes} {T : TypeTree} {fields : List FieldTree} {ts r s : List Sign}
      → IsType ts T r → ParsesFields r fields s → ParsesFields (Fixed a TypeWord ∷ Lower b x ∷ Fixed c Equals ∷ ts) (AbbrevField (abbreviation b x T) ∷ fields) s
  value_field : {a b c d : ℕ} {x : Bytes} {T : TypeTree} {e : Tree} {fields : List FieldTree} {ts r s u : List Sign}
      → IsType ts T (Fixed d Equals ∷ r) → IsExpr r e s → ParsesFields s fields u
      → ParsesFields (Fixed a Val ∷ Lower b x ∷ Fixed c Colon ∷ ts) (ValField (placed_name b x) T e ∷ fields) u

-- the abbreviations of a likespec, and its `end`
pub data ParsesAbbrevs : List Sign → List AbbrevTree → List Sign → Type 0 where
  no_abbrevs : {a : ℕ} {ts : List Sign} → ParsesAbbrevs (Fixed a End ∷ ts) [] ts
  abbrev_ : {a b c : ℕ} {x : Bytes} {T : TypeTree} {abbrevs : List AbbrevTree} {ts r s : List Sign}
      → IsType ts T r → ParsesAbbrevs r abbrevs s → ParsesAbbrevs (Fixed a TypeWord ∷ Lower b x ∷ Fixed c Equals ∷ ts) (abbreviation b x T ∷ abbrevs) s

-- what a sign is in a version or a constraint
abbrev pub vtoken_of : Sign → Option VToken
vtoken_of (Int a n) = Some (vtoken.Number n)
vtoken_of (Fixed a symbol.Dot) = Some vtoken.Dot
vtoken_of (Fixed a symbol.Minus) = Some vtoken.Minus
vtoken_of (Fixed a symbol.Star) = Some vtoken.Star
vtoken_of (Fixed a symbol.MyName) = Some vtoken.MyName
vtoken_of t = None

-- a front of the signs is these tokens of a version or a constraint
pub data VTokens : List Sign → List VToken → List Sign → Type 0 where
  no_vtokens : {ts : List Sign} → VTokens ts [] ts
  vtoken_ : {t : Sign} {v : VToken} {vs : List VToken} {ts r : List Sign} → vtoken_of t ≡ Some v → VTokens ts vs r → VTokens (t ∷ ts) (v ∷ vs) r

-- the version of a module, where one is written
pub data ParsesVersion : List Sign → Option (List Atom) → List Sign → Type 0 where
  no_version : {ts : List Sign} → ParsesVersion ts None ts
  version : {a : ℕ} {vs : List VToken} {atoms : List Atom} {ts r : List Sign}
      → VTokens ts vs r → IsVersion vs atoms → ParsesVersion (Fixed a Version ∷ ts) (Some atoms) r

-- the likespec of an import, where one is written
pub data ParsesLike : List Sign → Option (List AbbrevTree) → List Sign → Type 0 where
  no_like : {ts : List Sign} → ParsesLike ts None ts
  like : {a b : ℕ} {abbrevs : List AbbrevTree} {ts r : List Sign}
      → ParsesAbbrevs ts abbrevs r → ParsesLike (Fixed a Like ∷ Fixed b Struct ∷ ts) (Some abbrevs) r

abbrev pub resolve_sign : Sign → Option Resolve
resolve_sign (Fixed a symbol.StaticLink) = Some StaticLink
resolve_sign (Fixed a symbol.HereAlready) = Some HereAlready
resolve_sign (Str a text) = Some (Uri text)
resolve_sign t = None

pub data ParsesResolve : List Sign → List Resolve → List Sign → Type 0 where
  last_resolve : {t : Sign} {a : Resolve} {ts : List Sign} → resolve_sign t ≡ Some a → ParsesResolve (t ∷ ts) (a ∷ []) ts
  more_resolve : {t : Sign} {a : Resolve} {rest : List Resolve} {b : ℕ} {ts r : List Sign}
      → resolve_sign t ≡ Some a → ParsesResolve ts rest r → ParsesResolve (t ∷ Fixed b Comma ∷ ts) (a ∷ rest) r

pub data ParsesDef : List Sign → DefTree → List Sign → Type 0 where
  module_ : {a b c d f : ℕ} {x : Bytes} {σ : SigTree} {version : Option (List Atom)} {fields : List FieldTree} {ts r s u : List Sign}
      → IsSig ts σ r → ParsesVersion r version (Fixed d Equals ∷ Fixed f Struct ∷ s) → ParsesFields s fields u
      → ParsesDef (Fixed a Module ∷ Upper b x ∷ Fixed c Colon ∷ ts) (ModuleDef a (placed_name b x) σ version fields) u
  import_version : {a b c d f : ℕ} {x : Bytes} {σ : SigTree} {vs : List VToken} {ranges : List Range} {star : Bool} {like : Option (List AbbrevTree)} {by : List Resolve} {ts r s u v : List Sign}
      → IsSig ts σ (Fixed d Version ∷ r) → VTokens r vs s → IsConstraint vs ranges star → ParsesLike s like (Fixed f By ∷ u) → ParsesResolve u by v
      → ParsesDef (Fixed a Import ∷ Upper b x ∷ Fixed c Colon ∷ ts) (ImportDef a (placed_name b x) σ (WantsVersion (Ranges ranges star)) like by) v
  import_name : {a b c d f g h i : ℕ} {x y : Bytes} {σ : SigTree} {by : List Resolve} {ts r s : List Sign}
      → IsSig ts σ (Fixed d Version ∷ Fixed f NameWord ∷ Fixed g Equals ∷ Upper h y ∷ Fixed i By ∷ r) → ParsesResolve r by s
      → ParsesDef (Fixed a Import ∷ Upper b x ∷ Fixed c Colon ∷ ts) (ImportDef a (placed_name b x) σ (WantsName (placed_name h y)) None by) s
  mark : {a b : ℕ} {text : Bytes} {ts : List Sign} → ParsesDef (Fixed a Mark ∷ Str b text ∷ ts) (MarkDef a b text) ts

-- all signs are definitions and an expression
pub data ParsesProgram : List Sign → List DefTree → Tree → Type 0 where
  main : {e : Tree} {ts : List Sign} → IsExpr ts e [] → ParsesProgram ts [] e
  definition : {d : DefTree} {ds : List DefTree} {e : Tree} {ts r : List Sign} → ParsesDef ts d r → ParsesProgram r ds e → ParsesProgram ts (d ∷ ds) e

-- the signs are this program
pub data IsProgram : List Sign → ProgramTree → Type 0 where
  program : {ds : List DefTree} {e : Tree} {ts : List Sign} → ParsesProgram ts ds e → IsProgram ts (record { defs = ds; expr = Some e })

-- the signs are one module, with no expression
pub data IsModule : List Sign → ProgramTree → Type 0 where
  module_alone : {a : ℕ} {name : NameAt} {σ : SigTree} {version : Option (List Atom)} {fields : List FieldTree} {ts : List Sign}
      → ParsesDef ts (ModuleDef a name σ version fields) [] → IsModule ts (record { defs = ModuleDef a name σ version fields ∷ []; expr = None })
