-- The steps of the parsers of modules, over lists of signs.
use Rattle.std.proofs.Common.{◌≡◌, ℕ, List, [], ◌∷◌, Option, refl, sym, ◌∙◌, ap, subst}
use Rattle.ac_types.specs.Sigs.{Atom}
use Rattle.ac_syntax.specs.Signs.{Sign, Lower, Fixed}
use Rattle.ac_syntax.specs.Trees.{NameAt, TypeTree, Tree, AbbrevTree, SigTree, FieldTree, AbbrevField, ValField, DefTree, ModuleDef}
use Rattle.ac_syntax.specs.TypeForms.{IsType, Whole}
use Rattle.ac_syntax.specs.Expressions.{IsExpr}
use Rattle.ac_syntax.specs.Programs.{ParsesFields, no_fields, type_field, value_field, ParsesAbbrevs, no_abbrevs, abbrev_, ParsesVersion, ParsesDef, module_, placed_name}
use Rattle.ac_syntax.specs.PartParsing.{SymbolAt, NoSymbol, LowerAt, NoLower, NoType}
use Rattle.ac_syntax.specs.declared.sign.Symbol.TheVariants.{Colon, End, Equals, Module, Struct, TypeWord, Val}
use Rattle.ac_syntax.proofs.UniqueTypes.{tail_eq, same_type}
use Rattle.ac_syntax.proofs.UniqueExpressions.{same_expr}
use Rattle.ac_parser_patterns.specs.Reading.{Nothing}
use Rattle.ac_parser.specs.inner.ProgramParsing.{OnlyRead, NoRead, Anything, NoComma, StructOf, Others, ItemAt, AbbrevAt, NoAbbrev, HeadAt, VersionAt}
use Rattle.ac_parser.proofs.Fronts.{lower_eq, name_eq, type_at, type_to, same_abbrev}
use Rattle.ac_parser.proofs.Lists.{item_at}

-- abbreviations

abbrevs_at : {r s t : List Sign} {a : List AbbrevTree} → r ≡ s → ParsesAbbrevs s a t → ParsesAbbrevs r a t
abbrevs_at {r} {s} {t} {a} e p = subst (λ (u : List Sign). ParsesAbbrevs u a t) (sym e) p

type_word : {a : ℕ} {ts : List Sign} {x : AbbrevTree} {rest : List Sign} (at : AbbrevAt ts x rest) → Fixed a TypeWord ∷ ts ≡ Fixed a TypeWord ∷ Lower x.name.at x.name.word ∷ Fixed at.equals Equals ∷ at.inner
type_word {a} at = ap (λ (l : List Sign). Fixed a TypeWord ∷ l) at.is

abbrevs_forth : {a : ℕ} {ts rest end : List Sign} {x : AbbrevTree} {items : List AbbrevTree} → AbbrevAt ts x rest → ParsesAbbrevs (Fixed a TypeWord ∷ ts) items end → Others ParsesAbbrevs x rest items end
abbrevs_forth at (abbrev_ {c = c} {abbrevs = others} T p) =
    let d = same_abbrev at (record { inner = _; equals = c; is = refl; ty = T }) in
    record { others = others; is = ap (λ (x : AbbrevTree). x ∷ others) (sym d.0); reads = abbrevs_at d.1 p }

abbrev_item : (a : ℕ) (ts rest : List Sign) (x : AbbrevTree) → AbbrevAt ts x rest → ItemAt ParsesAbbrevs (Fixed a TypeWord ∷ ts) x rest
abbrev_item a ts rest x at = record {
  back = λ items end p. abbrevs_at (type_word at) (abbrev_ at.ty p);
  forth = λ items end p. abbrevs_forth at p;
}

abbrev_none : {a : ℕ} {ts end : List Sign} {items : List AbbrevTree} → NoAbbrev ts → ParsesAbbrevs (Fixed a TypeWord ∷ ts) items end → ⊥
abbrev_none none (abbrev_ {c = c} T p) = none _ _ (record { inner = _; equals = c; is = refl; ty = T })

end_only : {e : ℕ} {ts end : List Sign} {items : List AbbrevTree} → ParsesAbbrevs (Fixed e End ∷ ts) items end → (items ≡ []) × (end ≡ ts)
end_only no_abbrevs = (refl, refl)

module _ (ts us : List Sign) where
  pub abbrevs_item : SymbolAt TypeWord ts us → (x : AbbrevTree) (rest : List Sign) → AbbrevAt us x rest → ItemAt ParsesAbbrevs ts x rest
  abbrevs_item s x rest at = item_at s.is (abbrev_item s.at us rest x at)

  pub abbrevs_none : SymbolAt TypeWord ts us → NoAbbrev us → NoRead ParsesAbbrevs Anything ts
  abbrevs_none s none items end p next = abbrev_none none (abbrevs_at (sym s.is) p)

  pub abbrevs_end : SymbolAt End ts us → OnlyRead ParsesAbbrevs Anything ts [] us
  abbrevs_end s = record { reads = abbrevs_at s.is no_abbrevs; only = λ items other p next. end_only (abbrevs_at (sym s.is) p) }

pub no_abbrev_word : (ts : List Sign) → NoSymbol TypeWord ts → NoSymbol End ts → NoRead ParsesAbbrevs Anything ts
no_abbrev_word ts t e items end (no_abbrevs {a = a}) next = e _ (record { at = a; is = refl })
no_abbrev_word ts t e items end (abbrev_ {a = a} T p) next = t _ (record { at = a; is = refl })

-- behind a `val` stands this field
record ValueAt (ts : List Sign) (name : NameAt) (T : TypeTree) (e : Tree) (rest : List Sign) : Type 0 where
  inner : List Sign
  body : List Sign
  colon : ℕ
  equals : ℕ
  is : ts ≡ Lower name.at name.word ∷ Fixed colon Colon ∷ inner
  ty : IsType inner T (Fixed equals Equals ∷ body)
  expr : IsExpr body e rest

abbrev NoValue : List Sign → Type 0
NoValue ts = (name : NameAt) (T : TypeTree) (e : Tree) (rest : List Sign) → ValueAt ts name T e rest → ⊥

fields_at : {r s t : List Sign} {a : List FieldTree} → r ≡ s → ParsesFields s a t → ParsesFields r a t
fields_at {r} {s} {t} {a} e p = subst (λ (u : List Sign). ParsesFields u a t) (sym e) p

expr_at : {r s t : List Sign} {e : Tree} → r ≡ s → IsExpr s e t → IsExpr r e t
expr_at {r} {s} {t} {e} is p = subst (λ (u : List Sign). IsExpr u e t) (sym is) p

record SameField (a b : FieldTree) (r s : List Sign) : Type 0 where
  field : a ≡ b
  rest : r ≡ s

same_value_field : {ts r s : List Sign} {n m : NameAt} {T U : TypeTree} {e f : Tree} → ValueAt ts n T e r → ValueAt ts m U f s → SameField (ValField n T e) (ValField m U f) r s
same_value_field {n = n} {m = m} x y =
    let is = sym x.is ∙ y.is in
    let name = name_eq n m (lower_eq is) in
    let t = same_type x.ty (type_at (tail_eq (tail_eq is)) y.ty) in
    let d = same_expr x.expr (expr_at (tail_eq t.rest) y.expr) in
    record { field = let u = t.tree in let v = d.0 in cc; rest = d.1 }

value_forth : {a : ℕ} {ts rest end : List Sign} {name : NameAt} {T : TypeTree} {e : Tree} {items : List FieldTree} → ValueAt ts name T e rest → ParsesFields (Fixed a Val ∷ ts) items end → Others ParsesFields (ValField name T e) rest items end
value_forth at (value_field {b = b} {c = c} {d = d} {x = x} {fields = others} U f p) =
    let s = same_value_field at (record { inner = _; body = _; colon = c; equals = d; is = refl; ty = U; expr = f }) in
    record { others = others; is = ap (λ (y : FieldTree). y ∷ others) (sym s.field); reads = fields_at s.rest p }

value_item : (a : ℕ) (ts rest : List Sign) (name : NameAt) (T : TypeTree) (e : Tree) → ValueAt ts name T e rest → ItemAt ParsesFields (Fixed a Val ∷ ts) (ValField name T e) rest
value_item a ts rest name T e at = record {
  back = λ items end p. fields_at (ap (λ (l : List Sign). Fixed a Val ∷ l) at.is) (value_field at.ty at.expr p);
  forth = λ items end p. value_forth at p;
}

value_none : {a : ℕ} {ts end : List Sign} {items : List FieldTree} → NoValue ts → ParsesFields (Fixed a Val ∷ ts) items end → ⊥
value_none none (value_field {b = b} {c = c} {d = d} {x = x} U f p) =
    none (placed_name b x) _ _ _ (record { inner = _; body = _; colon = c; equals = d; is = refl; ty = U; expr = f })

module _ (ts : List Sign) where
  no_value : NoValue ts → (a : ℕ) → NoRead ParsesFields Anything (Fixed a Val ∷ ts)
  no_value none a items end p next = value_none none p

  pub unnamed_field : NoLower ts → (a : ℕ) → NoRead ParsesFields Anything (Fixed a Val ∷ ts)
  unnamed_field none = no_value (λ n T e rest x. none n _ x.is)

  module _ (name : NameAt) (rest : List Sign) (at : LowerAt name ts rest) where
    pub no_colon : NoSymbol Colon rest → (a : ℕ) → NoRead ParsesFields Anything (Fixed a Val ∷ ts)
    no_colon none = no_value (λ n T e end x. none x.inner (record { at = x.colon; is = tail_eq (sym at ∙ x.is) }))

    module _ (behind : List Sign) (c : SymbolAt Colon rest behind) where
      opened : ts ≡ Lower name.at name.word ∷ Fixed c.at Colon ∷ behind
      opened = at ∙ ap (λ (l : List Sign). Lower name.at name.word ∷ l) c.is

      pub untyped_field : NoType 100 Whole behind → (a : ℕ) → NoRead ParsesFields Anything (Fixed a Val ∷ ts)
      untyped_field none = no_value (λ n T e end x. none T _ (type_at (tail_eq (tail_eq (sym opened ∙ x.is))) x.ty))

      module _ (T : TypeTree) (later : List Sign) (ty : IsType behind T later) where
        left : {n : NameAt} {U : TypeTree} {e : Tree} {end : List Sign} (x : ValueAt ts n U e end) → later ≡ Fixed x.equals Equals ∷ x.body
        left x = (same_type ty (type_at (tail_eq (tail_eq (sym opened ∙ x.is))) x.ty)).rest

        pub no_body : NoSymbol Equals later → (a : ℕ) → NoRead ParsesFields Anything (Fixed a Val ∷ ts)
        no_body none = no_value (λ n U e end x. none x.body (record { at = x.equals; is = left x }))

        module _ (inner : List Sign) (e : SymbolAt Equals later inner) where
          pub no_expr : Nothing IsExpr inner → (a : ℕ) → NoRead ParsesFields Anything (Fixed a Val ∷ ts)
          no_expr none = no_value (λ n U f end x. none f end (expr_at (tail_eq (sym e.is ∙ left x)) x.expr))

          pub value : (f : Tree) (end : List Sign) → IsExpr inner f end → (a : ℕ) → ItemAt ParsesFields (Fixed a Val ∷ ts) (ValField name T f) end
          value f end p a = value_item a ts end name T f (record { inner = behind; body = inner; colon = c.at; equals = e.at; is = opened; ty = type_to (sym e.is) ty; expr = p })

-- abbreviations among the fields

type_forth : {a : ℕ} {ts rest end : List Sign} {x : AbbrevTree} {items : List FieldTree} → AbbrevAt ts x rest → ParsesFields (Fixed a TypeWord ∷ ts) items end → Others ParsesFields (AbbrevField x) rest items end
type_forth at (type_field {c = c} {fields = others} T p) =
    let d = same_abbrev at (record { inner = _; equals = c; is = refl; ty = T }) in
    record { others = others; is = ap (λ (x : AbbrevTree). AbbrevField x ∷ others) (sym d.0); reads = fields_at d.1 p }

type_none : {a : ℕ} {ts end : List Sign} {items : List FieldTree} → NoAbbrev ts → ParsesFields (Fixed a TypeWord ∷ ts) items end → ⊥
type_none none (type_field {c = c} T p) = none _ _ (record { inner = _; equals = c; is = refl; ty = T })

fields_end_only : {e : ℕ} {ts end : List Sign} {items : List FieldTree} → ParsesFields (Fixed e End ∷ ts) items end → (items ≡ []) × (end ≡ ts)
fields_end_only no_fields = (refl, refl)

module _ (ts us : List Sign) where
  pub type_item : SymbolAt TypeWord ts us → (x : AbbrevTree) (rest : List Sign) → AbbrevAt us x rest → ItemAt ParsesFields ts (AbbrevField x) rest
  type_item s x rest at = item_at s.is (record {
    back = λ items end p. fields_at (type_word at) (type_field at.ty p);
    forth = λ items end p. type_forth at p;
  })

  pub no_type_item : SymbolAt TypeWord ts us → NoAbbrev us → NoSymbol End ts → NoRead ParsesFields Anything ts
  no_type_item s none unended items end p next = type_none none (fields_at (sym s.is) p)

  pub fields_end : SymbolAt End ts us → OnlyRead ParsesFields Anything ts [] us
  fields_end s = record { reads = fields_at s.is no_fields; only = λ items other p next. fields_end_only (fields_at (sym s.is) p) }

pub no_field_word : (ts : List Sign) → NoSymbol Val ts → NoSymbol TypeWord ts → NoSymbol End ts → NoRead ParsesFields Anything ts
no_field_word ts v t e items end (no_fields {a = a}) next = e _ (record { at = a; is = refl })
no_field_word ts v t e items end (type_field {a = a} T p) next = t _ (record { at = a; is = refl })
no_field_word ts v t e items end (value_field {a = a} T f p) next = v _ (record { at = a; is = refl })

-- a whole module

record ModuleParts (at : ℕ) (ts : List Sign) (d : DefTree) (end : List Sign) : Type 0 where
  head : NameAt × SigTree
  rest : List Sign
  version : Option (List Atom)
  behind : List Sign
  fields : List FieldTree
  titled : HeadAt ts head rest
  versioned : VersionAt rest version behind
  inside : StructOf ParsesFields behind fields end
  is : d ≡ ModuleDef at head.0 head.1 version fields

module_parts : {at : ℕ} {ts end : List Sign} {d : DefTree} → ParsesDef (Fixed at Module ∷ ts) d end → ModuleParts at ts d end
module_parts (module_ {b = b} {c = c} {d = d} {f = f} {x = x} {σ = σ} {version = version} {fields = fields} {ts = inner} {r = r} {s = s} signed v p) = record {
  head = (placed_name b x, σ);
  rest = r;
  version = version;
  behind = Fixed f Struct ∷ s;
  fields = fields;
  titled = record { inner = inner; colon = c; is = refl; sig = signed };
  versioned = record { equals = d; parses = v };
  inside = record { inner = s; struct = f; is = refl; reads = p };
  is = refl;
}

def_at : {r s t : List Sign} {d : DefTree} → r ≡ s → ParsesDef s d t → ParsesDef r d t
def_at {r} {s} {t} {d} e p = subst (λ (u : List Sign). ParsesDef u d t) (sym e) p

version_at : {r s t : List Sign} {a : Option (List Atom)} → r ≡ s → VersionAt s a t → VersionAt r a t
version_at {r} {s} {t} {a} e p = subst (λ (u : List Sign). VersionAt u a t) (sym e) p

struct_at : {r s t : List Sign} {a : List FieldTree} → r ≡ s → StructOf ParsesFields s a t → StructOf ParsesFields r a t
struct_at {r} {s} {t} {a} e p = subst (λ (u : List Sign). StructOf ParsesFields u a t) (sym e) p

parses_to : {r s t : List Sign} {a : Option (List Atom)} → s ≡ t → ParsesVersion r a t → ParsesVersion r a s
parses_to {r} {s} {t} {a} e p = subst (λ (u : List Sign). ParsesVersion r a u) (sym e) p

module _ (at : ℕ) (ts : List Sign) where
  pub no_head : NoRead HeadAt Anything ts → NoRead ParsesDef NoComma (Fixed at Module ∷ ts)
  no_head none d end p next = let m = module_parts p in none m.head m.rest m.titled tt

  module _ (head : NameAt × SigTree) (rest : List Sign) (h : OnlyRead HeadAt Anything ts head rest) where
    pub no_version : NoRead VersionAt Anything rest → NoRead ParsesDef NoComma (Fixed at Module ∷ ts)
    no_version none d end p next =
        let m = module_parts p in
        let i = h.only m.head m.rest m.titled tt in
        none m.version m.behind (version_at (sym i.1) m.versioned) tt

    module _ (version : Option (List Atom)) (behind : List Sign) (v : OnlyRead VersionAt Anything rest version behind) where
      pub no_fields_there : NoRead (StructOf ParsesFields) Anything behind → NoRead ParsesDef NoComma (Fixed at Module ∷ ts)
      no_fields_there none d end p next =
          let m = module_parts p in
          let i = h.only m.head m.rest m.titled tt in
          let j = v.only m.version m.behind (version_at (sym i.1) m.versioned) tt in
          none m.fields end (struct_at (sym j.1) m.inside) tt

      pub module_read : (fields : List FieldTree) (end : List Sign) → OnlyRead (StructOf ParsesFields) Anything behind fields end → OnlyRead ParsesDef NoComma (Fixed at Module ∷ ts) (ModuleDef at head.0 head.1 version fields) end
      module_read fields end f = record {
        reads = def_at (ap (λ (l : List Sign). Fixed at Module ∷ l) h.reads.is) (module_ h.reads.sig (parses_to (sym (ap (λ (l : List Sign). Fixed v.reads.equals Equals ∷ l) f.reads.is)) v.reads.parses) f.reads.reads);
        only = λ d other p next.
            let m = module_parts p in
            let i = h.only m.head m.rest m.titled tt in
            let j = v.only m.version m.behind (version_at (sym i.1) m.versioned) tt in
            let k = f.only m.fields other (struct_at (sym j.1) m.inside) tt in
            (let x = m.is in let a = i.0 in let b = j.0 in let c = k.0 in cc, k.1);
      }
