-- The steps of the parser of signatures, over lists of signs.
use Rattle.std.proofs.Common.{◌≡◌, ℕ, List, [], ◌∷◌, ◌++◌, refl, sym, ◌∙◌, ap, subst, append_assoc, append-nil}
use Rattle.ac_types.specs.Types.{Bytes}
use Rattle.ac_syntax.specs.Signs.{Sign, Lower, Fixed, here}
use Rattle.ac_syntax.specs.Trees.{NameAt, TypeTree, SpecTree, AbstractSpec, ManifestSpec, ValSpec, SigTree}
use Rattle.ac_syntax.specs.TypeForms.{IsType}
use Rattle.ac_syntax.specs.Programs.{ParsesSpecs, no_specs, abstract_type, manifest_type, value, IsSig, sig}
use Rattle.ac_syntax.specs.PartParsing.{SymbolAt, NoSymbol, LowerAt, NoLower, OtherSpecs, SpecAt, NoSpecs, NoSig}
use Rattle.ac_syntax.specs.declared.sign.Symbol.TheVariants.{End, TypeWord, Val, Equals, Colon, Sig}
use Rattle.ac_syntax.proofs.UniqueTypes.{same_type}

pub specs_at : {r s t : List Sign} {a : List SpecTree} → r ≡ s → ParsesSpecs s a t → ParsesSpecs r a t
specs_at {r} {s} {t} {a} e p = subst (λ (u : List Sign). ParsesSpecs u a t) (sym e) p

type_at : {r s t : List Sign} {T : TypeTree} → r ≡ s → IsType s T t → IsType r T t
type_at {r} {s} {t} {T} e p = subst (λ (u : List Sign). IsType u T t) (sym e) p

-- behind a `type`

pub unnamed_type : (a : ℕ) (ts : List Sign) → NoLower ts → NoSpecs (Fixed a TypeWord ∷ ts)
unnamed_type a ts none specs end (abstract_type {b = b} {x = x} p) = none (record { at = b; word = x }) _ refl
unnamed_type a ts none specs end (manifest_type {b = b} {x = x} T p) = none (record { at = b; word = x }) _ refl

-- the specs of which the first is abstract
abstract_forth : {a b : ℕ} {x : Bytes} {rest end : List Sign} {specs : List SpecTree} → NoSymbol Equals rest → ParsesSpecs (Fixed a TypeWord ∷ Lower b x ∷ rest) specs end → OtherSpecs (AbstractSpec (record { at = b; word = x })) rest specs end
abstract_forth none (abstract_type p) = record { others = _; is = refl; parses = p }
abstract_forth none (manifest_type {c = c} T p) = absurd (none _ (record { at = c; is = refl }))

manifest_forth : {a b c : ℕ} {x : Bytes} {T : TypeTree} {behind rest end : List Sign} {specs : List SpecTree} → IsType behind T rest
    → ParsesSpecs (Fixed a TypeWord ∷ Lower b x ∷ Fixed c Equals ∷ behind) specs end → OtherSpecs (ManifestSpec (record { name = record { at = b; word = x }; ty = T })) rest specs end
manifest_forth T (abstract_type p) = elim p [ ]
manifest_forth {b = b} {x = x} T (manifest_type {specs = specs} U p) =
    let d = same_type U T in
    record { others = _; is = ap (λ (t : TypeTree). ManifestSpec (record { name = record { at = b; word = x }; ty = t }) ∷ specs) d.tree; parses = specs_at (sym d.rest) p }

value_forth : {a b c : ℕ} {x : Bytes} {T : TypeTree} {behind rest end : List Sign} {specs : List SpecTree} → IsType behind T rest
    → ParsesSpecs (Fixed a Val ∷ Lower b x ∷ Fixed c Colon ∷ behind) specs end → OtherSpecs (ValSpec (record { at = b; word = x }) T) rest specs end
value_forth {b = b} {x = x} T (value {specs = specs} U p) =
    let d = same_type U T in
    record { others = _; is = ap (λ (t : TypeTree). ValSpec (record { at = b; word = x }) t ∷ specs) d.tree; parses = specs_at (sym d.rest) p }

module _ (a : ℕ) (ts rest : List Sign) (name : NameAt) (at : LowerAt name ts rest) where
  pub abstract_spec : NoSymbol Equals rest → SpecAt (Fixed a TypeWord ∷ ts) (AbstractSpec name) rest
  abstract_spec none = record {
    back = λ specs end p. specs_at (ap (λ (l : List Sign). Fixed a TypeWord ∷ l) at) (abstract_type p);
    forth = λ specs end p. abstract_forth none (specs_at (sym (ap (λ (l : List Sign). Fixed a TypeWord ∷ l) at)) p);
  }

  with_equals : (behind : List Sign) (e : SymbolAt Equals rest behind) → Fixed a TypeWord ∷ ts ≡ Fixed a TypeWord ∷ Lower name.at name.word ∷ Fixed e.at Equals ∷ behind
  with_equals behind e = ap (λ (l : List Sign). Fixed a TypeWord ∷ l) (at ∙ ap (λ (l : List Sign). Lower name.at name.word ∷ l) e.is)

  pub manifest_spec : (behind end : List Sign) (T : TypeTree) → SymbolAt Equals rest behind → IsType behind T end → SpecAt (Fixed a TypeWord ∷ ts) (ManifestSpec (record { name = name; ty = T })) end
  manifest_spec behind end T e t = record {
    back = λ specs r p. specs_at (with_equals behind e) (manifest_type t p);
    forth = λ specs r p. manifest_forth t (specs_at (sym (with_equals behind e)) p);
  }

  with_colon : (behind : List Sign) (e : SymbolAt Colon rest behind) → Fixed a Val ∷ ts ≡ Fixed a Val ∷ Lower name.at name.word ∷ Fixed e.at Colon ∷ behind
  with_colon behind e = ap (λ (l : List Sign). Fixed a Val ∷ l) (at ∙ ap (λ (l : List Sign). Lower name.at name.word ∷ l) e.is)

  pub val_spec : (behind end : List Sign) (T : TypeTree) → SymbolAt Colon rest behind → IsType behind T end → SpecAt (Fixed a Val ∷ ts) (ValSpec name T) end
  val_spec behind end T e t = record {
    back = λ specs r p. specs_at (with_colon behind e) (value t p);
    forth = λ specs r p. value_forth t (specs_at (sym (with_colon behind e)) p);
  }

  no_colon_after : {b : ℕ} {x : Bytes} {r end : List Sign} {specs : List SpecTree} → NoSymbol Colon r → ParsesSpecs (Fixed a Val ∷ Lower b x ∷ r) specs end → ⊥
  no_colon_after none (value {c = c} T p) = none _ (record { at = c; is = refl })

  pub no_colon : NoSymbol Colon rest → NoSpecs (Fixed a Val ∷ ts)
  no_colon none specs end p = no_colon_after none (specs_at (sym (ap (λ (l : List Sign). Fixed a Val ∷ l) at)) p)

pub unnamed_val : (a : ℕ) (ts : List Sign) → NoLower ts → NoSpecs (Fixed a Val ∷ ts)
unnamed_val a ts none specs end (value {b = b} {x = x} T p) = none (record { at = b; word = x }) _ refl

-- neither `type`, `val` nor `end`
pub no_spec_word : (ts : List Sign) → NoSymbol TypeWord ts → NoSymbol Val ts → NoSymbol End ts → NoSpecs ts
no_spec_word ts t v e specs end (no_specs {a = a}) = e _ (record { at = a; is = refl })
no_spec_word ts t v e specs end (abstract_type {a = a} p) = t _ (record { at = a; is = refl })
no_spec_word ts t v e specs end (manifest_type {a = a} T p) = t _ (record { at = a; is = refl })
no_spec_word ts t v e specs end (value {a = a} T p) = v _ (record { at = a; is = refl })

-- the specs so far, and those that stand at the rest

pub record LeftSpecs (done : List SpecTree) (rest : List Sign) (specs : List SpecTree) (end : List Sign) : Type 0 where
  pub left : List SpecTree
  pub is : specs ≡ done ++ left
  pub parses : ParsesSpecs rest left end

pub record SpecsSoFar (ts : List Sign) (done : List SpecTree) (rest : List Sign) : Type 0 where
  pub back : (specs : List SpecTree) (end : List Sign) → ParsesSpecs rest specs end → ParsesSpecs ts (done ++ specs) end
  pub forth : (specs : List SpecTree) (end : List Sign) → ParsesSpecs ts specs end → LeftSpecs done rest specs end

no_specs_yet : (ts : List Sign) → SpecsSoFar ts [] ts
no_specs_yet ts = record { back = λ specs end p. p; forth = λ specs end p. record { left = specs; is = refl; parses = p } }

sig_specs : {a : ℕ} {ts rest : List Sign} {σ : SigTree} {P : Type 0} → IsSig (Fixed a Sig ∷ ts) σ rest → ((specs : List SpecTree) → ParsesSpecs ts specs rest → P) → P
sig_specs (sig p) f = f _ p

sig_begins : {ts rest : List Sign} {σ : SigTree} {P : Type 0} → IsSig ts σ rest → ((a : ℕ) (us : List Sign) → ts ≡ Fixed a Sig ∷ us → P) → P
sig_begins (sig {a = a} {ts = ts} p) f = f a ts refl

pub unbegun_none : (ts : List Sign) → NoSymbol Sig ts → NoSig ts
unbegun_none ts none σ rest p = sig_begins p (λ a us is. none us (record { at = a; is = is }))

-- behind the `sig`, and behind the specs done
pub record SigSoFar (ts : List Sign) (done : List SpecTree) (rest : List Sign) : Type 0 where
  pub inner : List Sign
  pub begun : SymbolAt Sig ts inner
  pub so_far : SpecsSoFar inner done rest

pub sig_begun : (ts us : List Sign) → SymbolAt Sig ts us → SigSoFar ts [] us
sig_begun ts us at = record { inner = us; begun = at; so_far = no_specs_yet us }

module _ (ts : List Sign) (done : List SpecTree) (rest : List Sign) (so : SigSoFar ts done rest) where
  pub next_spec : (s : SpecTree) (later : List Sign) → SpecAt rest s later → SigSoFar ts (done ++ s ∷ []) later
  next_spec s later o = record {
    inner = so.inner;
    begun = so.begun;
    so_far = record {
      back = λ specs end p. subst (λ (l : List SpecTree). ParsesSpecs so.inner l end) (sym (append_assoc done (s ∷ []) specs)) (so.so_far.back (s ∷ specs) end (o.back specs end p));
      forth = λ specs end p.
          let l = so.so_far.forth specs end p in
          let f = o.forth l.left end l.parses in
          record { left = f.others; is = l.is ∙ ap (λ (m : List SpecTree). done ++ m) f.is ∙ sym (append_assoc done (s ∷ []) f.others); parses = f.parses };
    };
  }

  pub sig_none : NoSpecs rest → NoSig ts
  sig_none none σ end p =
      sig_specs (subst (λ (l : List Sign). IsSig l σ end) so.begun.is p) (λ specs q. let l = so.so_far.forth specs end q in none l.left end l.parses)

  pub sig_ended : (end : List Sign) (at : ℕ) → SymbolAt End rest end → at ≡ here ts → IsSig ts (record { at = at; specs = done }) end
  sig_ended end at e is =
      let place : at ≡ so.begun.at = is ∙ ap here so.begun.is in
      let all : done ++ [] ≡ done = append-nil done in
      subst (λ (n : ℕ). IsSig ts (record { at = n; specs = done }) end) (sym place)
      (subst (λ (l : List Sign). IsSig l (record { at = so.begun.at; specs = done }) end) (sym so.begun.is)
      (sig (subst (λ (l : List SpecTree). ParsesSpecs so.inner l end) all (so.so_far.back [] end (specs_at e.is no_specs)))))
