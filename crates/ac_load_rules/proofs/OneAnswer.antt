-- A text beside a shelf has one answer: its entries and its term, or the first part that is refused and its cause.
use Rattle.std.proofs.Common.{◌≡◌, ◌∙◌, ℕ, suc, List, [], ◌∷◌, ◌++◌, length, refl, sym, ap, ap₂, subst}
use Rattle.ac_types.specs.Types.{Bytes, Typ}
use Rattle.ac_types.proofs.FirstLaws.{none≢some, some_eq}
use Rattle.ac_terms.specs.Terms.{Expr}
use Rattle.ac_terms.specs.Defs.{Environment, Seen, Own', Shelf}
use Rattle.ac_syntax.specs.Signs.{Sign}
use Rattle.ac_syntax.specs.Trees.{ProgramTree}
use Rattle.ac_syntax.specs.Programs.{IsProgram, IsModule}
use Rattle.ac_syntax.specs.Texts.{HasTree}
use Rattle.ac_syntax.proofs.UniqueTexts.{one_program_text, one_module_text, tree_and_refusal, one_refusal}
use Rattle.ac_resolve_scopes.specs.Surfaces.{surface_main}
use Rattle.ac_load_rules.specs.Causes.{Cause, loaded, main_type, refusal_cause}
use Rattle.ac_load_rules.specs.Accepting.{Shelved, IsPart, GivesEntries, nothing, a_module, Accepted, IsRefused, no_tree, with_tree, Refuses, of_shelf, of_program, SameRefusal, equal, unparsed}

-- a text has one tree at most
abbrev One : (List Sign → ProgramTree → Type 0) → Type 0
One G = (text : Bytes) (p q : ProgramTree) → HasTree G text p → HasTree G text q → p ≡ q

-- the first of a list, and the others
first_of : {A : Type 0} {x y : A} {xs ys : List A} → x ∷ xs ≡ y ∷ ys → x ≡ y
first_of {A} {x} is = ap (λ (zs : List A). elim zs [ [] ↦ x | z ∷ more ↦ z ]) is

others_of : {A : Type 0} {x y : A} {xs ys : List A} → x ∷ xs ≡ y ∷ ys → xs ≡ ys
others_of {A} is = ap (λ (zs : List A). elim zs [ [] ↦ [] | z ∷ more ↦ more ]) is

module _ (digest : Bytes → Bytes) where
  pub one_front : {E F G : Environment} {shelf : List Shelved} → GivesEntries digest E shelf F → GivesEntries digest E shelf G → F ≡ G
  one_front nothing nothing = refl
  one_front {E} {F} {G} (a_module {s = s} {rest = rest} {tree = p} x more) (a_module {tree = q} y others) =
      one_front more (subst (λ (t : ProgramTree). GivesEntries digest (loaded digest E (Shelf s.uri) t) rest G) (one_module_text s.text q p y.has x.has) others)

  pub one_result : {text : Bytes} {shelf : List Shelved} {F G : Environment} {e f : Expr} {T U : Typ} → Accepted digest text shelf F e T → Accepted digest text shelf G f U → (F ≡ G) × (e ≡ f) × (T ≡ U)
  one_result {text} a b =
      let front = one_front a.shelved b.shelved in
      let tree = one_program_text text a.tree b.tree a.part.has b.part.has in (
        a.entries ∙ ap₂ (λ E p. loaded digest E Own' p) front tree ∙ sym b.entries,
        a.main ∙ ap₂ (λ E p. surface_main digest E p) front tree ∙ sym b.main,
        some_eq (sym a.typed ∙ ap₂ (λ E p. main_type digest E Own' p) front tree ∙ b.typed),
      )

  -- a part is accepted or refused, and for one cause
  part_not_both : {G : List Sign → ProgramTree → Type 0} {E : Environment} {seen : Seen} {text : Bytes} {tree : ProgramTree} {c : Cause} → One G → IsRefused digest G E seen text c → IsPart digest G E seen text tree → ⊥
  part_not_both {G} {text = text} {tree = tree} one (no_tree {e = e} r) a = tree_and_refusal G text tree e a.has r
  part_not_both {E = E} {seen = seen} {text = text} {tree = tree} one (with_tree {tree = p} has found) a = none≢some (sym a.sound ∙ ap (refusal_cause digest E seen) (one text tree p a.has has) ∙ found)

  part_one_cause : {G : List Sign → ProgramTree → Type 0} {E : Environment} {seen : Seen} {text : Bytes} {c d : Cause} → One G → IsRefused digest G E seen text c → IsRefused digest G E seen text d → SameRefusal c d
  part_one_cause {G} {text = text} one (no_tree {e = e} r) (no_tree {e = f} q) = unparsed (one_refusal G text e f r q)
  part_one_cause {G} {text = text} one (no_tree {e = e} r) (with_tree {tree = p} has found) = absurd (tree_and_refusal G text p e has r)
  part_one_cause {G} {text = text} one (with_tree {tree = p} has found) (no_tree {e = e} r) = absurd (tree_and_refusal G text p e has r)
  part_one_cause {E = E} {seen = seen} {text = text} {c = c} one (with_tree {tree = p} has found) (with_tree {tree = q} there is) =
      subst (SameRefusal c) (some_eq (sym found ∙ ap (refusal_cause digest E seen) (one text p q has there) ∙ is)) equal

  -- what a front of a shelf gives, and the part behind it
  pub record Split (D : Environment) (before : List Shelved) (s : Shelved) : Type 0 where
    pub front : Environment
    pub gives : GivesEntries digest D before front
    pub tree : ProgramTree
    pub part : IsPart digest IsModule front (Shelf s.uri) s.text tree

  split : (before : List Shelved) {D F : Environment} {s : Shelved} (rest : List Shelved) → GivesEntries digest D (before ++ s ∷ rest) F → Split D before s
  split [] {D} rest (a_module {tree = p} x more) = record { front = D; gives = nothing; tree = p; part = x }
  split (b ∷ before) {D} rest (a_module {tree = p} x more) = let r = split before {D = loaded digest D (Shelf b.uri) p} rest more in record { front = r.front; gives = a_module x r.gives; tree = r.tree; part = r.part }

  pub not_both : {text : Bytes} {shelf : List Shelved} {k : ℕ} {c : Cause} {F : Environment} {e : Expr} {T : Typ} → Refuses digest text shelf k c → Accepted digest text shelf F e T → ⊥
  not_both {text} (of_program {c = c} gives r) a = part_not_both one_program_text (subst (λ (E : Environment). IsRefused digest IsProgram E Own' text c) (one_front gives a.shelved) r) a.part
  not_both (of_shelf before rest {s = s} {c = c} is gives r) a =
      let there = split before {s = s} rest (subst (λ (l : List Shelved). GivesEntries digest [] l a.front) is a.shelved) in
      part_not_both one_module_text (subst (λ (E : Environment). IsRefused digest IsModule E (Shelf s.uri) s.text c) (one_front gives there.gives) r) there.part

  -- the first part that is refused is one
  pub record SamePart (k n : ℕ) (c d : Cause) : Type 0 where
    pub part : k ≡ n
    pub cause : SameRefusal c d

  abbrev RefusedModule : Environment → Shelved → Cause → Type 0
  RefusedModule E s c = IsRefused digest IsModule E (Shelf s.uri) s.text c

  same_front : (before others : List Shelved) {D E F : Environment} {c d : Cause} {s t : Shelved} (rest more : List Shelved) → before ++ s ∷ rest ≡ others ++ t ∷ more → GivesEntries digest D before E → GivesEntries digest D others F → RefusedModule E s c → RefusedModule F t d → SamePart (suc (length before)) (suc (length others)) c d
  same_front [] [] {D} {c = c} {t = t} rest more is nothing nothing r q = record { part = refl; cause = part_one_cause one_module_text (subst (λ (x : Shelved). RefusedModule D x c) (first_of is) r) q }
  same_front [] (o ∷ others) {D} {c = c} rest more is nothing (a_module x deep) r q = absurd (part_not_both one_module_text (subst (λ (x : Shelved). RefusedModule D x c) (first_of is) r) x)
  same_front (b ∷ before) [] {D} {d = d} rest more is (a_module x deep) nothing r q = absurd (part_not_both one_module_text (subst (λ (x : Shelved). RefusedModule D x d) (sym (first_of is)) q) x)
  same_front (b ∷ before) (o ∷ others) {D} {E} {F} {c} {d} {s} {t} rest more is (a_module {tree = p} x deep) (a_module {tree = q} y below) r u =
      let there = subst (λ (x : Shelved). IsPart digest IsModule D (Shelf x.uri) x.text q) (sym (first_of is)) y in
      let gives = subst (λ (x : Shelved). GivesEntries digest (loaded digest D (Shelf x.uri) q) others F) (sym (first_of is)) below in
      let same = same_front before others rest more (others_of is) deep (subst (λ (z : ProgramTree). GivesEntries digest (loaded digest D (Shelf b.uri) z) others F) (one_module_text b.text q p there.has x.has) gives) r u in
      record { part = ap suc same.part; cause = same.cause }

  pub one_refused : {text : Bytes} {shelf : List Shelved} {k n : ℕ} {c d : Cause} → Refuses digest text shelf k c → Refuses digest text shelf n d → SamePart k n c d
  one_refused {text} {c = c} (of_program gives r) (of_program there q) =
      record { part = refl; cause = part_one_cause one_program_text (subst (λ (E : Environment). IsRefused digest IsProgram E Own' text c) (one_front gives there) r) q }
  one_refused (of_program {E = E} gives r) (of_shelf before rest {s = s} {c = c} is there q) =
      let x = split before {s = s} rest (subst (λ (l : List Shelved). GivesEntries digest [] l E) is gives) in
      absurd (part_not_both one_module_text (subst (λ (E : Environment). RefusedModule E s c) (one_front there x.gives) q) x.part)
  one_refused (of_shelf before rest {s = s} {c = c} is there q) (of_program {E = E} gives r) =
      let x = split before {s = s} rest (subst (λ (l : List Shelved). GivesEntries digest [] l E) is gives) in
      absurd (part_not_both one_module_text (subst (λ (E : Environment). RefusedModule E s c) (one_front there x.gives) q) x.part)
  one_refused (of_shelf before rest is gives r) (of_shelf others more same there q) = same_front before others rest more (sym is ∙ same) gives there r q
