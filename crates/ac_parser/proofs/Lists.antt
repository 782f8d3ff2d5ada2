-- Lists of items that end with an `end`, read from the front.
use Rattle.std.proofs.Common.{◌≡◌, List, [], ◌∷◌, ◌++◌, refl, sym, ◌∙◌, ap, subst, append_assoc, append-nil}
use Rattle.ac_syntax.specs.Signs.{Sign}
use Rattle.ac_syntax.specs.PartParsing.{SymbolAt, NoSymbol}
use Rattle.ac_syntax.specs.declared.sign.Symbol.TheVariants.{Struct}
use Rattle.ac_syntax.proofs.UniqueTypes.{tail_eq}
use Rattle.ac_parser.specs.inner.ProgramParsing.{OnlyRead, NoRead, Anything, StructOf, ItemAt}

-- the items are those done and those that stand at the rest
pub record LeftItems {A : Type 0} (Reads : List Sign → List A → List Sign → Type 0) (done : List A) (rest : List Sign) (items : List A) (end : List Sign) : Type 0 where
  pub left : List A
  pub is : items ≡ done ++ left
  pub reads : Reads rest left end

-- behind the items done the list goes on at the rest
pub record SoFar {A : Type 0} (Reads : List Sign → List A → List Sign → Type 0) (ts : List Sign) (done : List A) (rest : List Sign) : Type 0 where
  pub back : (items : List A) (end : List Sign) → Reads rest items end → Reads ts (done ++ items) end
  pub forth : (items : List A) (end : List Sign) → Reads ts items end → LeftItems Reads done rest items end

-- behind the `struct` and the items done the list goes on at the rest
pub record StructSoFar {A : Type 0} (Reads : List Sign → List A → List Sign → Type 0) (ts : List Sign) (done : List A) (rest : List Sign) : Type 0 where
  pub inner : List Sign
  pub opened : SymbolAt Struct ts inner
  pub so_far : SoFar Reads inner done rest

items_at : {A : Type 0} (Reads : List Sign → List A → List Sign → Type 0) {r s t : List Sign} {items : List A} → r ≡ s → Reads s items t → Reads r items t
items_at Reads {t = t} {items = items} e p = subst (λ (u : List Sign). Reads u items t) (sym e) p

module _ {A : Type 0} (Reads : List Sign → List A → List Sign → Type 0) (ts : List Sign) where
  pub no_struct : NoSymbol Struct ts → NoRead (StructOf Reads) Anything ts
  no_struct none items end p next = none p.inner (record { at = p.struct; is = p.is })

  pub begun : (inner : List Sign) → SymbolAt Struct ts inner → StructSoFar Reads ts [] inner
  begun inner s = record {
    inner = inner;
    opened = s;
    so_far = record { back = λ items end p. p; forth = λ items end p. record { left = items; is = refl; reads = p } };
  }

  module _ (done : List A) (rest : List Sign) (so : StructSoFar Reads ts done rest) where
    pub next_item : (item : A) (later : List Sign) → ItemAt Reads rest item later → StructSoFar Reads ts (done ++ item ∷ []) later
    next_item item later o = record {
      inner = so.inner;
      opened = so.opened;
      so_far = record {
        back = λ items end p. subst (λ (l : List A). Reads so.inner l end) (sym (append_assoc done (item ∷ []) items)) (so.so_far.back (item ∷ items) end (o.back items end p));
        forth = λ items end p.
            let l = so.so_far.forth items end p in
            let f = o.forth l.left end l.reads in
            record { left = f.others; is = l.is ∙ ap (λ (m : List A). done ++ m) f.is ∙ sym (append_assoc done (item ∷ []) f.others); reads = f.reads };
      };
    }

    inside : (items : List A) (end : List Sign) → StructOf Reads ts items end → LeftItems Reads done rest items end
    inside items end p = so.so_far.forth items end (items_at Reads (tail_eq (sym so.opened.is ∙ p.is)) p.reads)

    pub none_left : NoRead Reads Anything rest → NoRead (StructOf Reads) Anything ts
    none_left none items end p next = let l = inside items end p in none l.left end l.reads tt

    pub ended : (end : List Sign) → OnlyRead Reads Anything rest [] end → OnlyRead (StructOf Reads) Anything ts done end
    ended end o = record {
      reads = record {
        inner = so.inner;
        struct = so.opened.at;
        is = so.opened.is;
        reads = subst (λ (l : List A). Reads so.inner l end) (append-nil done) (so.so_far.back [] end o.reads);
      };
      only = λ items other p next.
          let l = inside items other p in
          let e = o.only l.left other l.reads tt in
          (l.is ∙ ap (λ (m : List A). done ++ m) e.0 ∙ append-nil done, e.1);
    }

pub item_at : {A : Type 0} {Reads : List Sign → List A → List Sign → Type 0} {ts us rest : List Sign} {item : A} → ts ≡ us → ItemAt Reads us item rest → ItemAt Reads ts item rest
item_at {A} {Reads} {ts} {us} {rest} {item} e o = subst (λ (l : List Sign). ItemAt Reads l item rest) (sym e) o

pub none_at : {A : Type 0} (Reads : List Sign → A → List Sign → Type 0) (Next : List Sign → Type 0) {ts us : List Sign} → ts ≡ us → NoRead Reads Next us → NoRead Reads Next ts
none_at Reads Next e none = subst (λ (l : List Sign). NoRead Reads Next l) (sym e) none

pub read_at : {A : Type 0} {Reads : List Sign → A → List Sign → Type 0} {Next : List Sign → Type 0} {ts us rest : List Sign} {a : A} → ts ≡ us → OnlyRead Reads Next us a rest → OnlyRead Reads Next ts a rest
read_at {A} {Reads} {Next} {ts} {us} {rest} {a} e o = subst (λ (l : List Sign). OnlyRead Reads Next l a rest) (sym e) o
