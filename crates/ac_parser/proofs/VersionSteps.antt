-- The steps of the parsers of versions and constraints, over lists of signs.
use Rattle.std.proofs.Common.{◌≡◌, ◌<◌, ◌≤◌, ◌+◌, ◌-◌, ℕ, suc, length, get_or, take, drop, List, [], ◌∷◌, ◌++◌, Option, Some, None, refl, sym, ◌∙◌, ap, subst, arith}
use Rattle.std.proofs.lemmas.List.{take_rest}
use Rattle.std.proofs.Math.Seq.{drop-cons}
use Rattle.std.proofs.Math.ListN.{drop_of_length-le}
use Rattle.ac_types.specs.Sigs.{Atom, Constraint, Ranges, Exact}
use Rattle.ac_version.specs.declared.read.VToken.{VToken}
use Rattle.ac_version.specs.declared.read.VersionFault.TheVariants as bad
use Rattle.ac_version.specs.VersionReading.{IsVersion, ReadsConstraint}
use Rattle.ac_version.proofs.Unique.{same_version, same_constraint}
use Rattle.ac_syntax.specs.Signs.{Sign, Fixed}
use Rattle.ac_syntax.specs.declared.sign.Sign as code
use Rattle.ac_syntax.specs.ReadSigns.{read_sign, read_signs}
use Rattle.ac_syntax.specs.Programs.{vtoken_of, VTokens, no_vtokens, vtoken_, ParsesVersion, no_version, version}
use Rattle.ac_syntax.specs.PartParsing.{SymbolAt, NoSymbol}
use Rattle.ac_syntax.specs.declared.stop.ParseError.TheVariants as stop
use Rattle.ac_syntax.specs.declared.sign.Symbol.TheVariants.{Equals, Version}
use Rattle.ac_syntax.proofs.Exceptions.{nothing_there, same_value}
use Rattle.ac_syntax.proofs.UniqueTypes.{tail_eq}
use Rattle.ac_parser.specs.inner.ProgramParsing.{OnlyRead, NoRead, Anything, NoVToken, BeginsEquals, VersionAt, ConstraintAt}
use Rattle.ac_syntax.proofs.Depth.{head_eq}

pub nothing_is_none : {P : Type 0} {x : Sign} {r : List Sign} → [] ≡ x ∷ r → P
nothing_is_none e = cc

version_is_no_equals : {P : Type 0} {a b : ℕ} {r s : List Sign} → Fixed a Version ∷ r ≡ Fixed b Equals ∷ s → P
version_is_no_equals e = cc

pub nothing_no_vtoken : (ts : List Sign) → ts ≡ [] → NoVToken ts
nothing_no_vtoken ts is t us e = nothing_is_none (sym is ∙ e)

pub first_no_vtoken : (ts rest : List Sign) (t : Sign) → ts ≡ t ∷ rest → vtoken_of t ≡ None → NoVToken ts
first_no_vtoken ts rest t is none u us e = subst (λ (x : Sign). vtoken_of x ≡ None) (head_eq (sym is ∙ e)) none

pub no_tokens_yet : (ts : List Sign) → VTokens ts [] ts
no_tokens_yet ts = no_vtokens

-- the signs from a number on
module _ (signs : List code.Sign) (i : ℕ) where
  pub signs_left : (t : code.Sign) → i < length signs → t ≡ get_or signs i t → read_signs (drop i signs) ≡ read_sign t ∷ read_signs (drop (i + 1) signs)
  signs_left t h is =
      let next : suc i ≡ i + 1 = omega arith in
      ap read_signs (drop-cons signs i t h) ∙ ap (λ (x : code.Sign). read_sign x ∷ read_signs (drop (suc i) signs)) (sym is) ∙ ap (λ (j : ℕ). read_sign t ∷ read_signs (drop j signs)) next

  pub none_behind : length signs ≤ i → read_signs (drop i signs) ≡ []
  none_behind h = ap read_signs (drop_of_length-le signs h)

tokens_at : {r s t : List Sign} {a : List VToken} → r ≡ s → VTokens s a t → VTokens r a t
tokens_at {r} {s} {t} {a} e p = subst (λ (u : List Sign). VTokens u a t) (sym e) p

pub one_more : (ts rest behind : List Sign) (vs : List VToken) (t : Sign) (v : VToken) → VTokens ts vs rest → rest ≡ t ∷ behind → vtoken_of t ≡ Some v → VTokens ts (vs ++ v ∷ []) behind
one_more ts rest behind vs t v no_vtokens is e = tokens_at is (vtoken_ e no_vtokens)
one_more ts rest behind vs t v (vtoken_ {vs = ws} {ts = us} f p) is e = vtoken_ f (one_more us rest behind ws t v p is e)

same_tokens : {ts r s : List Sign} {a b : List VToken} → VTokens ts a r → VTokens ts b s → NoVToken r → NoVToken s → (a ≡ b) × (r ≡ s)
same_tokens no_vtokens no_vtokens x y = (refl, refl)
same_tokens no_vtokens (vtoken_ {t = t} {ts = ts} e q) x y = nothing_there (sym (x t ts refl) ∙ e)
same_tokens (vtoken_ {t = t} {ts = ts} e p) no_vtokens x y = nothing_there (sym (y t ts refl) ∙ e)
same_tokens (vtoken_ e p) (vtoken_ f q) x y =
    let v = same_value e f in
    let d = same_tokens p q x y in
    (let z = d.0 in cc, d.1)

pub all_tokens : (ts rest : List Sign) (vs : List VToken) → VTokens ts vs rest → NoVToken rest → OnlyRead VTokens NoVToken ts vs rest
all_tokens ts rest vs p stops = record { reads = p; only = λ ws other q next. same_tokens q p next stops }

-- an `=` is no part of a version
equals_no_vtoken : (rest : List Sign) → BeginsEquals rest → NoVToken rest
equals_no_vtoken rest e = first_no_vtoken rest _ _ e.1.is refl

version_only : {ts us other : List Sign} {a : ℕ} {b : Option (List Atom)} {P : Type 0} → ts ≡ Fixed a Version ∷ us → ParsesVersion ts b other → BeginsEquals other → ((vs : List VToken) (atoms : List Atom) → b ≡ Some atoms → VTokens us vs other → IsVersion vs atoms → P) → P
version_only is no_version next f = version_is_no_equals (sym is ∙ next.1.is)
version_only is (version {vs = vs} {atoms = atoms} p v) next f = f vs atoms refl (tokens_at (tail_eq (sym is)) p) v

unversioned_only : {ts other : List Sign} {b : Option (List Atom)} → NoSymbol Version ts → ParsesVersion ts b other → (b ≡ None) × (other ≡ ts)
unversioned_only none no_version = (refl, refl)
unversioned_only none (version {a = a} p v) = absurd (none _ (record { at = a; is = refl }))

version_at : {r s t : List Sign} {a : Option (List Atom)} → r ≡ s → ParsesVersion s a t → ParsesVersion r a t
version_at {r} {s} {t} {a} e p = subst (λ (u : List Sign). ParsesVersion u a t) (sym e) p

module _ (ts : List Sign) where
  pub unversioned : NoSymbol Version ts → OnlyRead ParsesVersion BeginsEquals ts None ts
  unversioned none = record { reads = no_version; only = λ b other p next. unversioned_only none p }

  module _ (behind : List Sign) (at : SymbolAt Version ts behind) (vs : List VToken) (rest : List Sign) (tokens : OnlyRead VTokens NoVToken behind vs rest) where
    pub versioned : (atoms : List Atom) → IsVersion vs atoms → OnlyRead ParsesVersion BeginsEquals ts (Some atoms) rest
    versioned atoms v = record {
      reads = version_at at.is (version tokens.reads v);
      only = λ b other p next. version_only at.is p next (λ ws others is q w.
          let o = tokens.only ws other q (equals_no_vtoken other next) in
          (is ∙ ap Some (same_version (subst (λ (l : List VToken). IsVersion l others) o.0 w) v), o.1));
    }

-- the `=` and the `struct` behind it

equals_behind : {a : ℕ} {rest : List Sign} → BeginsEquals (Fixed a Equals ∷ rest)
equals_behind {a} {rest} = (rest, record { at = a; is = refl })

module _ (ts : List Sign) where
  pub no_version_at : NoRead ParsesVersion BeginsEquals ts → NoRead VersionAt Anything ts
  no_version_at none b other x next = none b _ x.parses equals_behind

  module _ (v : Option (List Atom)) (rest : List Sign) (o : OnlyRead ParsesVersion BeginsEquals ts v rest) where
    left : {b : Option (List Atom)} {other : List Sign} (x : VersionAt ts b other) → (b ≡ v) × (Fixed x.equals Equals ∷ other ≡ rest)
    left x = o.only _ _ x.parses equals_behind

    pub no_equals : NoSymbol Equals rest → NoRead VersionAt Anything ts
    no_equals none b other x next = none _ (record { at = x.equals; is = sym (left x).1 })

    pub version_at_equals : (end : List Sign) → SymbolAt Equals rest end → OnlyRead VersionAt Anything ts v end
    version_at_equals end s = record {
      reads = record { equals = s.at; parses = subst (λ (l : List Sign). ParsesVersion ts v l) s.is o.reads };
      only = λ b other x next. let d = left x in (d.0, tail_eq (d.1 ∙ s.is));
    }

-- constraints

constraint_only : (vs : List VToken) (a b : Constraint) → ReadsConstraint vs a → ReadsConstraint vs b → a ≡ b
constraint_only vs (Ranges r s) (Ranges q t) p o = let e = same_constraint p o in let x = e.ranges in let y = e.star in cc
constraint_only vs (Ranges r s) (Exact n) p o = absurd o
constraint_only vs (Exact n) b p o = absurd p

module _ (ts : List Sign) (vs : List VToken) (rest : List Sign) (tokens : OnlyRead VTokens NoVToken ts vs rest) where
  pub constraint_read : (c : Constraint) → ReadsConstraint vs c → OnlyRead ConstraintAt NoVToken ts c rest
  constraint_read c is = record {
    reads = record { vs = vs; tokens = tokens.reads; is = is };
    only = λ b other x next.
        let o = tokens.only x.vs other x.tokens next in
        (constraint_only vs b c (subst (λ (l : List VToken). ReadsConstraint l b) o.0 x.is) is, o.1);
  }

-- a pass over the signs from the front
module _ (signs : List code.Sign) (i len : ℕ) (vs : List VToken) (read : VTokens (read_signs signs) vs (read_signs (drop i signs))) (count : len ≡ i) where
  rest_is : read_signs (take (length signs - len) (drop len signs)) ≡ read_signs (drop i signs)
  rest_is = ap read_signs (take_rest signs len) ∙ ap (λ (n : ℕ). read_signs (drop n signs)) count

  pub stops_here : NoVToken (read_signs (drop i signs)) → OnlyRead VTokens NoVToken (read_signs signs) vs (read_signs (take (length signs - len) (drop len signs)))
  stops_here none = subst (λ (r : List Sign). OnlyRead VTokens NoVToken (read_signs signs) vs r) (sym rest_is) (all_tokens _ _ vs read none)

  pub stopped_here : NoVToken (read_signs (drop i signs)) → NoVToken (read_signs (take (length signs - len) (drop len signs)))
  stopped_here none = subst (λ (r : List Sign). NoVToken r) (sym rest_is) none

  pub none_here : (t : code.Sign) → i < length signs → t ≡ get_or signs i t → vtoken_of (read_sign t) ≡ None → NoVToken (read_signs (drop i signs))
  none_here t h is none = first_no_vtoken _ _ _ (signs_left signs i t h is) none

  pub none_more : length signs ≤ i → NoVToken (read_signs (drop i signs))
  none_more h = nothing_no_vtoken _ (none_behind signs i h)

  pub more_here : (t : code.Sign) (v : VToken) (ws : List VToken) → i < length signs → t ≡ get_or signs i t → vtoken_of (read_sign t) ≡ Some v → ws ≡ vs ++ v ∷ [] → VTokens (read_signs signs) ws (read_signs (drop (i + 1) signs))
  more_here t v ws h is some same = subst (λ (l : List VToken). VTokens (read_signs signs) l (read_signs (drop (i + 1) signs))) (sym same) (one_more _ _ _ vs _ v read (signs_left signs i t h is) some)
