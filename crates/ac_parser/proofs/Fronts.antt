-- The steps of the parsers of abbreviations and of what a module or an import begins with, over lists of signs.
use Rattle.std.proofs.Common.{◌≡◌, ℕ, List, [], ◌∷◌, refl, sym, ◌∙◌, ap, subst}
use Rattle.ac_types.specs.Types.{Bytes}
use Rattle.ac_syntax.specs.Signs.{Sign, Lower, Upper, Fixed}
use Rattle.ac_syntax.specs.Trees.{NameAt, TypeTree, AbbrevTree, SigTree}
use Rattle.ac_syntax.specs.TypeForms.{IsType, Whole}
use Rattle.ac_syntax.specs.Programs.{IsSig}
use Rattle.ac_syntax.specs.PartParsing.{SymbolAt, NoSymbol, LowerAt, NoType}
use Rattle.ac_syntax.specs.declared.sign.Symbol.{Symbol}
use Rattle.ac_syntax.specs.declared.sign.Symbol.TheVariants.{Colon, Equals}
use Rattle.ac_syntax.proofs.UniqueTypes.{tail_eq, same_type}
use Rattle.ac_syntax.proofs.UniquePrograms.{same_sig}
use Rattle.ac_syntax.proofs.Depth.{head_eq}
use Rattle.ac_parser.specs.inner.ProgramParsing.{UpperAt, OnlyRead, NoRead, Anything, AbbrevAt, NoAbbrev, HeadAt}

pub lower_eq : {a b : ℕ} {w v : Bytes} {r s : List Sign} → Lower a w ∷ r ≡ Lower b v ∷ s → (a ≡ b) × (w ≡ v)
lower_eq e = let h = head_eq e in (ap (λ (x : Sign). elim x [ Lower c u ↦ c | _ ↦ 0 ]) h, ap (λ (x : Sign). elim x [ Lower c u ↦ u | _ ↦ [] ]) h)

pub upper_eq : {a b : ℕ} {w v : Bytes} {r s : List Sign} → Upper a w ∷ r ≡ Upper b v ∷ s → (a ≡ b) × (w ≡ v)
upper_eq e = let h = head_eq e in (ap (λ (x : Sign). elim x [ Upper c u ↦ c | _ ↦ 0 ]) h, ap (λ (x : Sign). elim x [ Upper c u ↦ u | _ ↦ [] ]) h)

pub name_eq : (a b : NameAt) → (a.at ≡ b.at) × (a.word ≡ b.word) → a ≡ b
name_eq a b e = ap (λ (n : ℕ). record { at = n; word = a.word }) e.0 ∙ ap (λ (w : Bytes). record { at = b.at; word = w }) e.1

abbrev_eq : (a b : AbbrevTree) → a.name ≡ b.name → a.ty ≡ b.ty → a ≡ b
abbrev_eq a b e f = ap (λ (n : NameAt). record { name = n; ty = a.ty }) e ∙ ap (λ (t : TypeTree). record { name = b.name; ty = t }) f

head_same : (a b : NameAt × SigTree) → a.0 ≡ b.0 → a.1 ≡ b.1 → a ≡ b
head_same a b e f = ap (λ (n : NameAt). (n, a.1)) e ∙ ap (λ (t : SigTree). (b.0, t)) f

pub type_at : {r s t : List Sign} {T : TypeTree} → r ≡ s → IsType s T t → IsType r T t
type_at {r} {s} {t} {T} e p = subst (λ (u : List Sign). IsType u T t) (sym e) p

pub type_to : {r s t : List Sign} {T : TypeTree} → s ≡ t → IsType r T t → IsType r T s
type_to {r} {s} {t} {T} e p = subst (λ (u : List Sign). IsType r T u) (sym e) p

pub sig_at : {r s t : List Sign} {T : SigTree} → r ≡ s → IsSig s T t → IsSig r T t
sig_at {r} {s} {t} {T} e p = subst (λ (u : List Sign). IsSig u T t) (sym e) p

-- behind a `type`

module _ (ts : List Sign) where
  module _ (name : NameAt) (rest : List Sign) (at : LowerAt name ts rest) where
    pub no_equals : NoSymbol Equals rest → NoAbbrev ts
    no_equals none a end x = none x.inner (record { at = x.equals; is = tail_eq (sym at ∙ x.is) })

    module _ (behind : List Sign) (e : SymbolAt Equals rest behind) where
      opened : ts ≡ Lower name.at name.word ∷ Fixed e.at Equals ∷ behind
      opened = at ∙ ap (λ (l : List Sign). Lower name.at name.word ∷ l) e.is

      pub untyped : NoType 100 Whole behind → NoAbbrev ts
      untyped none a end x = none a.ty end (type_at (tail_eq (tail_eq (sym opened ∙ x.is))) x.ty)

      pub abbreviated : (T : TypeTree) (end : List Sign) → IsType behind T end → AbbrevAt ts (record { name = name; ty = T }) end
      abbreviated T end t = record { inner = behind; equals = e.at; is = opened; ty = t }

pub same_abbrev : {ts r s : List Sign} {a b : AbbrevTree} → AbbrevAt ts a r → AbbrevAt ts b s → (a ≡ b) × (r ≡ s)
same_abbrev {a = a} {b = b} x y =
    let e = sym x.is ∙ y.is in
    let n = name_eq a.name b.name (lower_eq e) in
    let t = same_type x.ty (type_at (tail_eq (tail_eq e)) y.ty) in
    (abbrev_eq a b n t.tree, t.rest)

-- behind a `module` or an `import`

pub same_head : {ts r s : List Sign} {a b : NameAt × SigTree} → HeadAt ts a r → HeadAt ts b s → (a ≡ b) × (r ≡ s)
same_head {a = a} {b = b} x y =
    let e = sym x.is ∙ y.is in
    let n = name_eq a.0 b.0 (upper_eq e) in
    let t = same_sig x.sig (sig_at (tail_eq (tail_eq e)) y.sig) in
    (head_same a b n t.tree, t.rest)

module _ (ts : List Sign) where
  module _ (name : NameAt) (rest : List Sign) (at : UpperAt name ts rest) where
    pub no_colon : NoSymbol Colon rest → NoRead HeadAt Anything ts
    no_colon none a end x next = none x.inner (record { at = x.colon; is = tail_eq (sym at ∙ x.is) })

    module _ (behind : List Sign) (e : SymbolAt Colon rest behind) where
      titled : ts ≡ Upper name.at name.word ∷ Fixed e.at Colon ∷ behind
      titled = at ∙ ap (λ (l : List Sign). Upper name.at name.word ∷ l) e.is

      pub headed : (σ : SigTree) (end : List Sign) → IsSig behind σ end → OnlyRead HeadAt Anything ts (name, σ) end
      headed σ end t =
          let h : HeadAt ts (name, σ) end = record { inner = behind; colon = e.at; is = titled; sig = t } in
          record { reads = h; only = λ b other x next. same_head x h }
