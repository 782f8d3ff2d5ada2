-- The definitions of signs within bounds are within them: their names, versions, constraints and resolvespecs, their types and terms.
use Rattle.std.proofs.Common.{◌≡◌, ◌≤◌, ◌<◌, ◌^◌, ℕ, Bool, true, false, List, [], ◌∷◌, length, Option, Some, None, refl, arith}
use Rattle.std.specs.Prelude.{◌||◌}
use Rattle.std.specs.List.{list_all}
use Rattle.std.proofs.lemmas.Bool.{lt-ltb, le-leb}
use Rattle.ac_types.specs.Sigs.{Atom, Range, Ranges, Exact, Resolve}
use Rattle.ac_types.proofs.Same.{and_true}
use Rattle.ac_terms.specs.Bounds.{is_lower, is_upper, is_string, is_four, fits_atom, fits_range, fits_constraint}
use Rattle.ac_version.specs.VersionReading.{AtomAt, numbered, own, Atoms, last_atom, more_atoms, RangeAt, one, between, up_to, from, Ranged, last_range, starred_range, more_ranges, IsConstraint, any, ranged}
use Rattle.ac_version.specs.declared.read.VToken.{VToken}
use Rattle.ac_syntax.specs.Signs.{Sign}
use Rattle.ac_syntax.specs.Trees.{Tree, AbbrevTree, SpecTree, AbstractSpec, ManifestSpec, ValSpec, SigTree, FieldTree, AbbrevField, ValField, WantsTree, WantsVersion, WantsName, DefTree, ModuleDef, ImportDef, MarkDef, ProgramTree}
use Rattle.ac_syntax.specs.Programs as programs
use Rattle.ac_syntax.specs.Programs.{ParsesSpecs, IsSig, ParsesFields, ParsesAbbrevs, VTokens, no_vtokens, vtoken_, ParsesVersion, ParsesLike, ParsesResolve, ParsesDef, ParsesProgram, IsProgram, IsModule}
use Rattle.ac_load_rules.proofs.SignBounds.{Fit, rest_fits, Leaves, here, behind, further, on, left}
use Rattle.ac_load_rules.proofs.TreeBounds.{TypeHas, TreeHas, of_type, tree_read}

-- an abbreviation, a spec, a field
abbrev pub AbbrevHas : AbbrevTree → Type 0
AbbrevHas a = (is_lower a.name.word ≡ true) × TypeHas a.ty

abbrev pub SpecHas : SpecTree → Type 0
SpecHas (AbstractSpec name) = is_lower name.word ≡ true
SpecHas (ManifestSpec a) = AbbrevHas a
SpecHas (ValSpec name ty) = (is_lower name.word ≡ true) × TypeHas ty

abbrev pub FieldHas : FieldTree → Type 0
FieldHas (AbbrevField a) = AbbrevHas a
FieldHas (ValField name ty body) = (is_lower name.word ≡ true) × TypeHas ty × TreeHas body

abbrev pub EachHas : {A : Type 0} → (A → Type 0) → List A → Type 0
EachHas Has [] = Unit {0}
EachHas Has (x ∷ xs) = Has x × EachHas Has xs

-- a version, and what an import asks for with its likespec
abbrev pub VersionHas : Option (List Atom) → Type 0
VersionHas None = Unit {0}
VersionHas (Some atoms) = (1 ≤ length atoms) × (length atoms ≤ 8) × (list_all fits_atom atoms ≡ true)

abbrev pub LikeHas : Option (List AbbrevTree) → Type 0
LikeHas None = Unit {0}
LikeHas (Some abbrevs) = EachHas AbbrevHas abbrevs

-- an import by exact name has no likespec
abbrev pub WantsHas : WantsTree → Option (List AbbrevTree) → Type 0
WantsHas (WantsVersion (Ranges rs star)) like = fits_constraint (Ranges rs star) ≡ true
WantsHas (WantsVersion (Exact n)) like = ⊥
WantsHas (WantsName name) like = like ≡ None

abbrev pub DefHas : DefTree → Type 0
DefHas (ModuleDef at name σ version fields) = (is_upper name.word ≡ true) × EachHas SpecHas σ.specs × VersionHas version × EachHas FieldHas fields
DefHas (ImportDef at name σ wants like by) = (is_upper name.word ≡ true) × EachHas SpecHas σ.specs × WantsHas wants like × LikeHas like × (1 ≤ length by)
DefHas (MarkDef at text_at text) = is_string text ≡ true

abbrev pub MainHas : Option Tree → Type 0
MainHas None = Unit {0}
MainHas (Some e) = TreeHas e

pub record ProgramHas (p : ProgramTree) : Type 0 where
  pub defs : EachHas DefHas p.defs
  pub main : MainHas p.expr

-- versions and constraints

four_fits : (n : ℕ) → n < 2 ^ 32 → is_four n ≡ true
four_fits n h = lt-ltb n (2 ^ 32) h

atom_fits : {t : VToken} {a : Atom} → AtomAt t a → fits_atom a ≡ true
atom_fits (numbered {n} h) = four_fits n h
atom_fits own = refl

record AtomsFit (atoms : List Atom) : Type 0 where
  some : 1 ≤ length atoms
  fit : list_all fits_atom atoms ≡ true

atoms_fit : {ts : List VToken} {atoms : List Atom} → Atoms ts atoms → AtomsFit atoms
atoms_fit (last_atom a) = record { some = omega arith; fit = and_true (atom_fits a) refl }
atoms_fit (more_atoms a more) = record { some = omega arith; fit = and_true (atom_fits a) (atoms_fit more).fit }

range_fits : {ts r : List VToken} {a : Range} → RangeAt ts a r → fits_range a ≡ true
range_fits (one {n} h) = four_fits n h
range_fits (between {n} {m} h k) = and_true (four_fits n h) (four_fits m k)
range_fits (up_to {n} h) = four_fits n h
range_fits (from {n} h) = four_fits n h

record RangesFit (rs : List Range) : Type 0 where
  some : 1 ≤ length rs
  fit : list_all fits_range rs ≡ true

ranges_fit : {ts : List VToken} {rs : List Range} {star : Bool} → Ranged ts rs star → RangesFit rs
ranges_fit (last_range r) = record { some = omega arith; fit = and_true (range_fits r) refl }
ranges_fit (starred_range r) = record { some = omega arith; fit = and_true (range_fits r) refl }
ranges_fit (more_ranges r more) = record { some = omega arith; fit = and_true (range_fits r) (ranges_fit more).fit }

either_true : (a b : Bool) → b ≡ true → (a || b) ≡ true
either_true true b h = refl
either_true false b h = h

constraint_fits : {ts : List VToken} {rs : List Range} {star : Bool} → IsConstraint ts rs star → fits_constraint (Ranges rs star) ≡ true
constraint_fits any = refl
constraint_fits (ranged {ranges = rs} {star = star} r few) =
    let x = ranges_fit r in
    and_true (and_true x.fit (le-leb (length rs) 8 few)) (either_true star _ (le-leb 1 (length rs) x.some))

-- what stands between

vtokens_leave : {ts r : List Sign} {vs : List VToken} → VTokens ts vs r → Leaves ts r
vtokens_leave no_vtokens = here
vtokens_leave (vtoken_ is more) = behind (vtokens_leave more)

record Read (A : Type 0) (ts r : List Sign) : Type 0 where
  has : A
  leaves : Leaves ts r

specs_read : {ts r : List Sign} {specs : List SpecTree} → ParsesSpecs ts specs r → Fit ts → Read (EachHas SpecHas specs) ts r
specs_read programs.no_specs f = record { has = tt; leaves = behind here }
specs_read (programs.abstract_type p) f =
    let name = rest_fits f in
    let x = specs_read p (rest_fits name) in
    record { has = (name.all.0, x.has); leaves = behind (behind x.leaves) }
specs_read (programs.manifest_type T p) f =
    let name = rest_fits f in
    let t = of_type T in
    let x = specs_read p (left t.leaves (rest_fits (rest_fits name))) in
    record { has = ((name.all.0, t.has), x.has); leaves = behind (behind (behind (further t.leaves x.leaves))) }
specs_read (programs.value T p) f =
    let name = rest_fits f in
    let t = of_type T in
    let x = specs_read p (left t.leaves (rest_fits (rest_fits name))) in
    record { has = ((name.all.0, t.has), x.has); leaves = behind (behind (behind (further t.leaves x.leaves))) }

sig_read : {ts r : List Sign} {σ : SigTree} → IsSig ts σ r → Fit ts → Read (EachHas SpecHas σ.specs) ts r
sig_read (programs.sig p) f = let x = specs_read p (rest_fits f) in record { has = x.has; leaves = behind x.leaves }

fields_read : {ts r : List Sign} {fields : List FieldTree} → ParsesFields ts fields r → Fit ts → Read (EachHas FieldHas fields) ts r
fields_read programs.no_fields f = record { has = tt; leaves = behind here }
fields_read (programs.type_field T p) f =
    let name = rest_fits f in
    let t = of_type T in
    let x = fields_read p (left t.leaves (rest_fits (rest_fits name))) in
    record { has = ((name.all.0, t.has), x.has); leaves = behind (behind (behind (further t.leaves x.leaves))) }
fields_read (programs.value_field T e p) f =
    let name = rest_fits f in
    let t = of_type T in
    let g = rest_fits (left t.leaves (rest_fits (rest_fits name))) in
    let y = tree_read e.parses tt g in
    let x = fields_read p (left y.leaves g) in
    record { has = ((name.all.0, t.has, y.has), x.has); leaves = behind (behind (behind (on t.leaves (further y.leaves x.leaves)))) }

abbrevs_read : {ts r : List Sign} {abbrevs : List AbbrevTree} → ParsesAbbrevs ts abbrevs r → Fit ts → Read (EachHas AbbrevHas abbrevs) ts r
abbrevs_read programs.no_abbrevs f = record { has = tt; leaves = behind here }
abbrevs_read (programs.abbrev_ T p) f =
    let name = rest_fits f in
    let t = of_type T in
    let x = abbrevs_read p (left t.leaves (rest_fits (rest_fits name))) in
    record { has = ((name.all.0, t.has), x.has); leaves = behind (behind (behind (further t.leaves x.leaves))) }

version_read : {ts r : List Sign} {version : Option (List Atom)} → ParsesVersion ts version r → Read (VersionHas version) ts r
version_read programs.no_version = record { has = tt; leaves = here }
version_read (programs.version p v) = let x = atoms_fit v.atoms in record { has = (x.some, v.few, x.fit); leaves = behind (vtokens_leave p) }

like_read : {ts r : List Sign} {like : Option (List AbbrevTree)} → ParsesLike ts like r → Fit ts → Read (LikeHas like) ts r
like_read programs.no_like f = record { has = tt; leaves = here }
like_read (programs.like p) f = let x = abbrevs_read p (rest_fits (rest_fits f)) in record { has = x.has; leaves = behind (behind x.leaves) }

resolve_read : {ts r : List Sign} {by : List Resolve} → ParsesResolve ts by r → Read (1 ≤ length by) ts r
resolve_read (programs.last_resolve is) = record { has = omega arith; leaves = behind here }
resolve_read (programs.more_resolve is p) = let x = resolve_read p in record { has = omega arith; leaves = behind (behind x.leaves) }

-- definitions and programs

def_read : {ts r : List Sign} {d : DefTree} → ParsesDef ts d r → Fit ts → Read (DefHas d) ts r
def_read (programs.module_ s v p) f =
    let name = rest_fits f in
    let x = sig_read s (rest_fits (rest_fits name)) in
    let y = version_read v in
    let g = left y.leaves (left x.leaves (rest_fits (rest_fits name))) in
    let z = fields_read p (rest_fits (rest_fits g)) in
    record { has = (name.all.0, x.has, y.has, z.has); leaves = behind (behind (behind (further x.leaves (on y.leaves (behind z.leaves))))) }
def_read (programs.import_version s v c l b) f =
    let name = rest_fits f in
    let x = sig_read s (rest_fits (rest_fits name)) in
    let y = vtokens_leave v in
    let g = left y (rest_fits (left x.leaves (rest_fits (rest_fits name)))) in
    let z = like_read l g in
    let w = resolve_read b in
    record { has = (name.all.0, x.has, constraint_fits c, z.has, w.has); leaves = behind (behind (behind (on x.leaves (further y (on z.leaves w.leaves))))) }
def_read (programs.import_name s b) f =
    let name = rest_fits f in
    let x = sig_read s (rest_fits (rest_fits name)) in
    let w = resolve_read b in
    record { has = (name.all.0, x.has, refl, tt, w.has); leaves = behind (behind (behind (on x.leaves (behind (behind (behind (behind w.leaves))))))) }
def_read programs.mark f = record { has = (rest_fits f).all.0; leaves = behind (behind here) }

program_read : {ts : List Sign} {ds : List DefTree} {e : Tree} → ParsesProgram ts ds e → Fit ts → EachHas DefHas ds × TreeHas e
program_read (programs.main e) f = (tt, (tree_read e.parses tt f).has)
program_read (programs.definition d p) f =
    let x = def_read d f in
    let y = program_read p (left x.leaves f) in
    ((x.has, y.0), y.1)

pub program_has : {ts : List Sign} {p : ProgramTree} → IsProgram ts p → Fit ts → ProgramHas p
program_has (programs.program p) f = let x = program_read p f in record { defs = x.0; main = x.1 }

pub module_has : {ts : List Sign} {p : ProgramTree} → IsModule ts p → Fit ts → ProgramHas p
module_has (programs.module_alone d) f = record { defs = ((def_read d f).has, tt); main = tt }
