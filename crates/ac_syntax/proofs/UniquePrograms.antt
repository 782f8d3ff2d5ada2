-- Signs have at most one signature and one definition at their front, and are at most one program.
use Rattle.std.proofs.Common.{◌≡◌, ℕ, Bool, true, false, List, [], ◌∷◌, Option, Some, None, refl, sym, ◌∙◌, ap, subst, arith}
use Rattle.ac_types.specs.Sigs.{Atom, Range, Resolve}
use Rattle.ac_version.specs.declared.read.VToken.{VToken}
use Rattle.ac_version.specs.VersionReading.{IsVersion, IsConstraint}
use Rattle.ac_version.proofs.Unique.{same_version, same_constraint}
use Rattle.ac_syntax.specs.Signs.{Sign, Int, Str, Lower, Upper, Fixed, Other}
use Rattle.ac_syntax.specs.Trees.{Tree, AbbrevTree, SpecTree, SigTree, FieldTree, DefTree, ProgramTree}
use Rattle.ac_syntax.specs.Expressions.{IsExpr}
use Rattle.ac_syntax.specs.Programs.{ParsesSpecs, no_specs, abstract_type, manifest_type, value, IsSig, sig, ParsesFields, no_fields, type_field, value_field, ParsesAbbrevs, no_abbrevs, abbrev_, vtoken_of, VTokens, no_vtokens, vtoken_, ParsesVersion, no_version, version, ParsesLike, no_like, like, ParsesResolve, last_resolve, more_resolve, ParsesDef, module_, import_version, import_name, mark, ParsesProgram, main, definition, IsProgram, program, IsModule, module_alone}
use Rattle.ac_syntax.specs.declared.sign.Symbol.TheVariants.{By, Comma, Equals, NameWord}
use Rattle.ac_syntax.proofs.Exceptions.{apart, nothing_there, same_value}
use Rattle.ac_syntax.proofs.UniqueTypes.{tail_eq, same_type}
use Rattle.ac_syntax.proofs.UniqueExpressions.{same_expr}
use Rattle.ac_syntax.proofs.Fronts.{begins_not}

-- two readings of the same signs give one answer and leave the same signs
pub record SameRead {A : Type 0} (a b : A) (r s : List Sign) : Type 0 where
  pub tree : a ≡ b
  pub rest : r ≡ s

same_here : {A : Type 0} {a : A} {r : List Sign} → SameRead a a r r
same_here = record { tree = refl; rest = refl }

-- a reading of the signs that stand at the same place
at_same : {A : Type 0} (P : List Sign → A → List Sign → Type 0) {r s t : List Sign} {a : A} → r ≡ s → P s a t → P r a t
at_same P {t = t} {a = a} e p = subst (λ (u : List Sign). P u a t) (sym e) p

specs_at_same : {r s t : List Sign} {a : List SpecTree} → r ≡ s → ParsesSpecs s a t → ParsesSpecs r a t
specs_at_same e p = at_same ParsesSpecs e p

fields_at_same : {r s t : List Sign} {a : List FieldTree} → r ≡ s → ParsesFields s a t → ParsesFields r a t
fields_at_same e p = at_same ParsesFields e p

abbrevs_at_same : {r s t : List Sign} {a : List AbbrevTree} → r ≡ s → ParsesAbbrevs s a t → ParsesAbbrevs r a t
abbrevs_at_same e p = at_same ParsesAbbrevs e p

version_at_same : {r s t : List Sign} {a : Option (List Atom)} → r ≡ s → ParsesVersion s a t → ParsesVersion r a t
version_at_same e p = at_same ParsesVersion e p

vtokens_at_same : {r s t : List Sign} {a : List VToken} → r ≡ s → VTokens s a t → VTokens r a t
vtokens_at_same e p = at_same VTokens e p

like_at_same : {r s t : List Sign} {a : Option (List AbbrevTree)} → r ≡ s → ParsesLike s a t → ParsesLike r a t
like_at_same e p = at_same ParsesLike e p

resolve_at_same : {r s t : List Sign} {a : List Resolve} → r ≡ s → ParsesResolve s a t → ParsesResolve r a t
resolve_at_same e p = at_same ParsesResolve e p

expr_at_same : {r s t : List Sign} {a : Tree} → r ≡ s → IsExpr s a t → IsExpr r a t
expr_at_same e p = at_same IsExpr e p

-- a spec doesn't begin with `=`
equals_begins_none : {P : Type 0} {a : ℕ} {specs : List SpecTree} {ts r : List Sign} → ParsesSpecs (Fixed a Equals ∷ ts) specs r → P
equals_begins_none p = elim p [ ]

same_specs : {ts r s : List Sign} {a b : List SpecTree} → ParsesSpecs ts a r → ParsesSpecs ts b s → SameRead a b r s
same_specs no_specs no_specs = same_here
same_specs (abstract_type p) (abstract_type q) =
    let d = same_specs p q in record { tree = let x = d.tree in cc; rest = d.rest }
same_specs (abstract_type p) (manifest_type U q) = equals_begins_none p
same_specs (manifest_type T p) (abstract_type q) = equals_begins_none q
same_specs (manifest_type T p) (manifest_type U q) =
    let t = same_type T U in
    let d = same_specs p (specs_at_same t.rest q) in
    record { tree = let x = t.tree in let y = d.tree in cc; rest = d.rest }
same_specs (value T p) (value U q) =
    let t = same_type T U in
    let d = same_specs p (specs_at_same t.rest q) in
    record { tree = let x = t.tree in let y = d.tree in cc; rest = d.rest }

pub same_sig : {ts r s : List Sign} {a b : SigTree} → IsSig ts a r → IsSig ts b s → SameRead a b r s
same_sig (sig p) (sig q) = let d = same_specs p q in record { tree = let x = d.tree in cc; rest = d.rest }

same_fields : {ts r s : List Sign} {a b : List FieldTree} → ParsesFields ts a r → ParsesFields ts b s → SameRead a b r s
same_fields no_fields no_fields = same_here
same_fields (type_field T p) (type_field U q) =
    let t = same_type T U in
    let d = same_fields p (fields_at_same t.rest q) in
    record { tree = let x = t.tree in let y = d.tree in cc; rest = d.rest }
same_fields (value_field T e p) (value_field U f q) =
    let t = same_type T U in
    let d = same_expr e (expr_at_same (tail_eq t.rest) f) in
    let h = same_fields p (fields_at_same d.1 q) in
    record { tree = let x = t.tree in let y = d.0 in let z = h.tree in cc; rest = h.rest }

same_abbrevs : {ts r s : List Sign} {a b : List AbbrevTree} → ParsesAbbrevs ts a r → ParsesAbbrevs ts b s → SameRead a b r s
same_abbrevs no_abbrevs no_abbrevs = same_here
same_abbrevs (abbrev_ T p) (abbrev_ U q) =
    let t = same_type T U in
    let d = same_abbrevs p (abbrevs_at_same t.rest q) in
    record { tree = let x = t.tree in let y = d.tree in cc; rest = d.rest }

abbrev vtoken_front : List Sign → Option VToken
vtoken_front [] = None
vtoken_front (t ∷ ts) = vtoken_of t

same_vtokens : {ts r s : List Sign} {a b : List VToken} → VTokens ts a r → VTokens ts b s → vtoken_front r ≡ None → vtoken_front s ≡ None → SameRead a b r s
same_vtokens no_vtokens no_vtokens x y = same_here
same_vtokens no_vtokens (vtoken_ e q) x y = nothing_there (sym x ∙ e)
same_vtokens (vtoken_ e p) no_vtokens x y = nothing_there (sym y ∙ e)
same_vtokens (vtoken_ e p) (vtoken_ f q) x y =
    let v = same_value e f in
    let d = same_vtokens p q x y in
    record { tree = let z = d.tree in cc; rest = d.rest }

versions_at_same : {vs ws : List VToken} {a : List Atom} → vs ≡ ws → IsVersion ws a → IsVersion vs a
versions_at_same {a = a} e p = subst (λ (v : List VToken). IsVersion v a) (sym e) p

constraints_at_same : {vs ws : List VToken} {a : List Range} {star : Bool} → vs ≡ ws → IsConstraint ws a star → IsConstraint vs a star
constraints_at_same {a = a} {star = star} e p = subst (λ (v : List VToken). IsConstraint v a star) (sym e) p

same_version_part : {d f : ℕ} {ts r s : List Sign} {a b : Option (List Atom)} → ParsesVersion ts a (Fixed d Equals ∷ r) → ParsesVersion ts b (Fixed f Equals ∷ s) → SameRead a b (Fixed d Equals ∷ r) (Fixed f Equals ∷ s)
same_version_part no_version no_version = same_here
same_version_part (version p v) (version q w) =
    let d = same_vtokens p q refl refl in
    record { tree = ap Some (same_version v (versions_at_same d.tree w)); rest = d.rest }

same_like : {d f : ℕ} {ts r s : List Sign} {a b : Option (List AbbrevTree)} → ParsesLike ts a (Fixed d By ∷ r) → ParsesLike ts b (Fixed f By ∷ s) → SameRead a b (Fixed d By ∷ r) (Fixed f By ∷ s)
same_like no_like no_like = same_here
same_like (like p) (like q) = let d = same_abbrevs p q in record { tree = ap Some d.tree; rest = d.rest }

-- a like or a `by` is no part of a constraint
like_front : {f : ℕ} {ts r : List Sign} {a : Option (List AbbrevTree)} → ParsesLike ts a (Fixed f By ∷ r) → vtoken_front ts ≡ None
like_front no_like = refl
like_front (like p) = refl

abbrev begins_comma : List Sign → Bool
begins_comma (Fixed a Comma ∷ ts) = true
begins_comma ts = false

same_resolve : {ts r s : List Sign} {a b : List Resolve} → ParsesResolve ts a r → ParsesResolve ts b s → begins_comma r ≡ false → begins_comma s ≡ false → SameRead a b r s
same_resolve (last_resolve e) (last_resolve f) x y = record { tree = let z = same_value e f in cc; rest = refl }
same_resolve (last_resolve e) (more_resolve f q) x y = apart (sym x)
same_resolve (more_resolve e p) (last_resolve f) x y = apart (sym y)
same_resolve (more_resolve e p) (more_resolve f q) x y =
    let z = same_value e f in
    let d = same_resolve p q x y in
    record { tree = let v = d.tree in cc; rest = d.rest }

-- a constraint is no `name`
name_is_no_constraint : {P : Type 0} {a : ℕ} {ts r s : List Sign} {vs : List VToken} {like : Option (List AbbrevTree)} {f : ℕ}
    → VTokens (Fixed a NameWord ∷ ts) vs r → ParsesLike r like (Fixed f By ∷ s) → P
name_is_no_constraint no_vtokens l = elim l [ ]
name_is_no_constraint (vtoken_ e p) l = nothing_there e

pub same_def : {ts r s : List Sign} {a b : DefTree} → ParsesDef ts a r → ParsesDef ts b s → begins_comma r ≡ false → begins_comma s ≡ false → SameRead a b r s
same_def (module_ σ v p) (module_ τ w q) x y =
    let d = same_sig σ τ in
    let h = same_version_part v (version_at_same d.rest w) in
    let i = same_fields p (fields_at_same (tail_eq (tail_eq h.rest)) q) in
    record { tree = let a = d.tree in let b = h.tree in let c = i.tree in cc; rest = i.rest }
same_def (import_version σ v c l p) (import_version τ w d m q) x y =
    let g = same_sig σ τ in
    let h = same_vtokens v (vtokens_at_same (tail_eq g.rest) w) (like_front l) (like_front m) in
    let i = same_constraint c (constraints_at_same h.tree d) in
    let j = same_like l (like_at_same h.rest m) in
    let k = same_resolve p (resolve_at_same (tail_eq j.rest) q) x y in
    record { tree = let a = g.tree in let b = i.ranges in let c = i.star in let d = j.tree in let e = k.tree in cc; rest = k.rest }
same_def (import_version σ v c l p) (import_name τ q) x y =
    name_is_no_constraint (vtokens_at_same (sym (tail_eq (same_sig σ τ).rest)) v) l
same_def (import_name σ p) (import_version τ w d m q) x y =
    name_is_no_constraint (vtokens_at_same (tail_eq (same_sig σ τ).rest) w) m
same_def (import_name σ p) (import_name τ q) x y =
    let g = same_sig σ τ in
    let k = same_resolve p (resolve_at_same (tail_eq (tail_eq (tail_eq (tail_eq (tail_eq g.rest))))) q) x y in
    record { tree = let a = g.tree in let b = g.rest in let e = k.tree in cc; rest = k.rest }
same_def mark mark x y = same_here

expr_begins : {r : List Sign} {e : Tree} (ts : List Sign) → IsExpr ts e r → begins_comma ts ≡ false
expr_begins [] p = refl
expr_begins (Fixed a Comma ∷ ts) p = begins_not p.parses (omega arith)
expr_begins (Fixed a t ∷ ts) p = refl
expr_begins (Int a n ∷ ts) p = refl
expr_begins (Str a x ∷ ts) p = refl
expr_begins (Lower a x ∷ ts) p = refl
expr_begins (Upper a x ∷ ts) p = refl
expr_begins (Other a ∷ ts) p = refl

program_begins : {ts : List Sign} {ds : List DefTree} {e : Tree} → ParsesProgram ts ds e → begins_comma ts ≡ false
program_begins (main p) = expr_begins _ p
program_begins (definition (module_ σ v p) q) = refl
program_begins (definition (import_version σ v c l p) q) = refl
program_begins (definition (import_name σ p) q) = refl
program_begins (definition mark q) = refl

def_is_no_expr : {P : Type 0} {ts r s : List Sign} {d : DefTree} {e : Tree} → ParsesDef ts d r → IsExpr ts e s → P
def_is_no_expr (module_ σ v p) q = begins_not q.parses (omega arith)
def_is_no_expr (import_version σ v c l p) q = begins_not q.parses (omega arith)
def_is_no_expr (import_name σ p) q = begins_not q.parses (omega arith)
def_is_no_expr mark q = begins_not q.parses (omega arith)

record SameProgram (a b : List DefTree) (e f : Tree) : Type 0 where
  defs : a ≡ b
  expr : e ≡ f

program_at_same : {r s : List Sign} {ds : List DefTree} {e : Tree} → r ≡ s → ParsesProgram s ds e → ParsesProgram r ds e
program_at_same {ds = ds} {e = e} is p = subst (λ (u : List Sign). ParsesProgram u ds e) (sym is) p

same_parts : {ts : List Sign} {a b : List DefTree} {e f : Tree} → ParsesProgram ts a e → ParsesProgram ts b f → SameProgram a b e f
same_parts (main p) (main q) = record { defs = refl; expr = (same_expr p q).0 }
same_parts (main p) (definition d q) = def_is_no_expr d p
same_parts (definition d p) (main q) = def_is_no_expr d q
same_parts (definition d p) (definition c q) =
    let h = same_def d c (program_begins p) (program_begins q) in
    let i = same_parts p (program_at_same h.rest q) in
    record { defs = let x = h.tree in let y = i.defs in cc; expr = i.expr }

pub same_program : {ts : List Sign} {p q : ProgramTree} → IsProgram ts p → IsProgram ts q → p ≡ q
same_program (program p) (program q) = let d = same_parts p q in let x = d.defs in let y = d.expr in cc

pub same_module : {ts : List Sign} {p q : ProgramTree} → IsModule ts p → IsModule ts q → p ≡ q
same_module (module_alone p) (module_alone q) = let d = (same_def p q refl refl).tree in ap (λ (x : DefTree). record { defs = x ∷ []; expr = None }) d
