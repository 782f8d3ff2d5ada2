-- The table that the scheme makes of a program has the code of its definitions and of its term.
use Rattle.std.proofs.Common.{◌≡◌, ℕ, zero, suc, ◌+◌, ◌<◌, ◌≤◌, List, [], ◌∷◌, ◌++◌, length, Option, Some, None, refl, sym, ap, ◌∙◌, subst, arith, ◌⊎◌, inl, inr, ⊎_elim, length-append, le_refl}
use Rattle.std.specs.Prelude.{slice_get, option_and_then, option_map}
use Rattle.std.proofs.lemmas.Bool.{cases_lt, cases_eq}
use Rattle.ac_types.proofs.FirstLaws.{none≢some}
use Rattle.ac_terms.specs.Terms.{Home, Main, In, Expr}
use Rattle.ac_terms.specs.Defs.{Environment, Entry, Field, Module, module_at, module_of}
use Rattle.ac_code.specs.Code.{Block, Code, field_code}
use Rattle.ac_code.specs.Table.{placed}
use Rattle.ac_generate.specs.Generated.{generated, block_number, fields_generated, field_numbers, entry_generated, entries_generated, program_code}
use Rattle.ac_meaning.specs.References.{own_field}
use Rattle.ac_machine_proof.specs.Source.{IsOfSource}
use Rattle.ac_machine_proof.specs.Placed.{HasCode, HasField, IsPlaced}
use Rattle.ac_machine_meaning.proofs.Extended.{Ext}
use Rattle.ac_machine_proof.proofs.Growing.{field_stays, EachMade, each_stays, each_at, each_from, generated_ext, generated_has, generated_made, SourceField, term_at, FieldsMade, fields_made, numbers_new, numbers_own}

abbrev pub Sources : Environment → Type 0
Sources E = (j f : ℕ) → SourceField (own_field E (In j) f)

abbrev pub in_row : Option (List ℕ) → ℕ → Option ℕ
in_row o f = option_and_then (λ (ids : List ℕ). slice_get ids f) o

row_at : (i : ℕ) (ns : List ℕ) (fs : List (List ℕ)) (f : ℕ) → in_row (slice_get (placed i ns fs) i) f ≡ slice_get ns f
row_at zero ns [] f = refl
row_at zero ns (x ∷ fs) f = refl
row_at (suc i) ns [] f = row_at i ns [] f
row_at (suc i) ns (x ∷ fs) f = row_at i ns fs f

pub row_other : (i j : ℕ) (ns : List ℕ) (fs : List (List ℕ)) (f : ℕ) → (j ≡ i → ⊥) → in_row (slice_get (placed i ns fs) j) f ≡ in_row (slice_get fs j) f
row_other zero zero ns fs f n = absurd (n refl)
row_other zero (suc j) ns [] f n = refl
row_other zero (suc j) ns (x ∷ fs) f n = refl
row_other (suc i) zero ns [] f n = refl
row_other (suc i) zero ns (x ∷ fs) f n = refl
row_other (suc i) (suc j) ns [] f n = row_other i j ns [] f (λ e. n (ap suc e))
row_other (suc i) (suc j) ns (x ∷ fs) f n = row_other i j ns fs f (λ e. n (ap suc e))

no_code : (o : Option ℕ) → ((b : ℕ) → o ≡ Some b → ⊥) → o ≡ None
no_code None h = refl
no_code (Some b) h = absurd (h b refl)

module _ (E : Environment) where
  -- what holds once the code of the first i entries is made
  pub record Until (i : ℕ) (K : Code) : Type 0 where
    pub made : EachMade K K.blocks
    pub fields : (j f : ℕ) → j < i → HasField K j (own_field E (In j) f) (field_code K j f)
    pub later : (j f b : ℕ) → i ≤ j → field_code K j f ≡ Some b → ⊥
    pub below : (j f b : ℕ) → field_code K j f ≡ Some b → b < length K.blocks
    pub own : (j f g h b : ℕ) → field_code K j f ≡ Some b → field_code K g h ≡ Some b → (j ≡ g) × (f ≡ h)

  none_yet : Until 0 (record { blocks = []; fields = [] })
  none_yet = record {
    made = tt;
    fields = λ j f lt. absurd (omega (arith, lt));
    later = λ j f b le e. none≢some e;
    below = λ j f b e. absurd (none≢some e);
    own = λ j f g h b e d. absurd (none≢some e);
  }

  abbrev pub from_module : Option Module → List Field
  from_module o = elim o [ None ↦ [] | Some m ↦ m.fields ]

  module _ (sources : Sources E) (i : ℕ) (K : Code) (u : Until i K) where
    -- an entry without fields
    nothing_more : module_at E i ≡ None → Until (suc i) K
    nothing_more e = record {
      made = u.made;
      fields = λ j f lt. ⊎_elim (λ a. u.fields j f a) (λ a. let is : i ≡ j = omega (arith, a, lt) in subst (λ j. HasField K j (own_field E (In j) f) (field_code K j f)) is (none f)) (cases_lt j i);
      later = λ j f b le e. u.later j f b (omega (arith, le)) e;
      below = u.below;
      own = u.own;
    }
      where
        none : (f : ℕ) → HasField K i (own_field E (In i) f) (field_code K i f)
        none f = subst (λ o. HasField K i o (field_code K i f)) (sym (ap (λ o. term_at (from_module o) f) e)) (no_code (field_code K i f) (λ b h. u.later i f b (le_refl i) h))

    -- a module
    module _ (m : Module) (is_module : module_at E i ≡ Some m) where
      abbrev L : Code
      L = fields_generated (In i) m.fields K

      abbrev ns : List ℕ
      ns = field_numbers (In i) m.fields K

      abbrev K' : Code
      K' = record { blocks = L.blocks; fields = placed i ns K.fields }

      fields_are : (f : ℕ) → own_field E (In i) f ≡ term_at m.fields f
      fields_are f = ap (λ o. term_at (from_module o) f) is_module

      new : FieldsMade i m.fields K
      new = fields_made i m.fields K (λ f. subst SourceField (fields_are f) (sources i f)) u.made

      code_here : (f : ℕ) → field_code K' i f ≡ slice_get ns f
      code_here f = row_at i ns K.fields f

      code_there : (j f : ℕ) → (j ≡ i → ⊥) → field_code K' j f ≡ field_code K j f
      code_there j f n = row_other i j ns K.fields f n

      same_blocks : Ext L K'
      same_blocks = ([], new_blocks L.blocks)
        where
          new_blocks : (bs : List Block) → bs ≡ bs ++ []
          new_blocks [] = refl
          new_blocks (b ∷ bs) = ap (λ l. b ∷ l) (new_blocks bs)

      grown : Ext K K'
      grown = new.ext

      -- an old field, or a new one
      pub record Where (j f b : ℕ) : Type 0 where
        pub it : ((j < i) × (field_code K j f ≡ Some b)) ⊎ ((j ≡ i) × (slice_get ns f ≡ Some b))

      where_is : (j f b : ℕ) → field_code K' j f ≡ Some b → Where j f b
      where_is j f b e = record {
        it =
            ⊎_elim (λ is. inr (is, sym (code_here f) ∙ subst (λ j. field_code K' j f ≡ Some b) is e))
            (λ n. let old = sym (code_there j f n) ∙ e in ⊎_elim (λ lt. inl (lt, old)) (λ ge. absurd (u.later j f b ge old)) (cases_lt j i)) (cases_eq j i);
      }

      below' : (j f b : ℕ) → field_code K' j f ≡ Some b → b < length K'.blocks
      below' j f b e =
          let a = ap length new.ext.1 in
          let d = length-append K.blocks new.ext.0 in
          ⊎_elim (λ h. let c = u.below j f b h.1 in omega (arith, a, c, d)) (λ h. (numbers_new (In i) m.fields K f b h.1).1) (where_is j f b e).it

      own' : (j f g h b : ℕ) → field_code K' j f ≡ Some b → field_code K' g h ≡ Some b → (j ≡ g) × (f ≡ h)
      own' j f g h b e d =
          ⊎_elim
          (λ x. ⊎_elim (λ y. u.own j f g h b x.1 y.1) (λ y. let lo = u.below j f b x.1 in let hi = (numbers_new (In i) m.fields K h b y.1).0 in absurd (omega (arith, lo, hi))) (where_is g h b d).it)
          (λ x. ⊎_elim (λ y. let lo = u.below g h b y.1 in let hi = (numbers_new (In i) m.fields K f b x.1).0 in absurd (omega (arith, lo, hi))) (λ y. (x.0 ∙ sym y.0, numbers_own (In i) m.fields K f h b x.1 y.1)) (where_is g h b d).it)
          (where_is j f b e).it

      fields' : (j f : ℕ) → j < suc i → HasField K' j (own_field E (In j) f) (field_code K' j f)
      fields' j f lt =
          ⊎_elim
          (λ is. subst (λ j. HasField K' j (own_field E (In j) f) (field_code K' j f)) (sym is) (subst (λ c. HasField K' i (own_field E (In i) f) c) (sym (code_here f)) (subst (λ o. HasField K' i o (slice_get ns f)) (sym (fields_are f)) (field_stays L K' same_blocks i (term_at m.fields f) (slice_get ns f) (new.has f)))))
          (λ n. subst (λ c. HasField K' j (own_field E (In j) f) c) (sym (code_there j f n)) (field_stays K K' grown j (own_field E (In j) f) (field_code K j f) (u.fields j f (old n))))
          (cases_eq j i)
        where
          old : (j ≡ i → ⊥) → j < i
          old n = ⊎_elim (λ a. a) (λ ge. absurd (n (omega (arith, ge, lt)))) (cases_lt j i)

      later' : (j f b : ℕ) → suc i ≤ j → field_code K' j f ≡ Some b → ⊥
      later' j f b le e = ⊎_elim (λ h. omega (arith, le, h.0)) (λ h. omega (arith, le, h.0)) (where_is j f b e).it

      more : Until (suc i) K'
      more = record { made = each_same; fields = fields'; later = later'; below = below'; own = own' }
        where
          each_same : EachMade K' K'.blocks
          each_same = each_stays L K' same_blocks L.blocks new.made

    by_module : (o : Option Module) → module_at E i ≡ o → Until (suc i) (elim o [ None ↦ K | Some m ↦ record { blocks = (fields_generated (In i) m.fields K).blocks; fields = placed i (field_numbers (In i) m.fields K) K.fields } ])
    by_module None e = nothing_more e
    by_module (Some m) e = more m e

    entry_until : Until (suc i) (entry_generated E i K)
    entry_until = by_module (module_at E i) refl

  pub entries_until : Sources E → (es : List Entry) (i n : ℕ) (K : Code) → n ≡ i + length es → Until i K → Until n (entries_generated E i es K)
  entries_until s [] i n K e u = let is : i ≡ n = omega (arith, e) in subst (λ n. Until n K) is u
  entries_until s (x ∷ es) i n K e u = entries_until s es (suc i) n (entry_generated E i K) (omega (arith, e)) (entry_until s i K u)

  pub all_until : Sources E → Until (length E) (entries_generated E 0 E (record { blocks = []; fields = [] }))
  all_until s = entries_until s E 0 (length E) (record { blocks = []; fields = [] }) (omega arith) none_yet

  -- there is no entry behind the last
  got_past : {X : Type 0} (xs : List X) (j : ℕ) → length xs ≤ j → slice_get xs j ≡ None
  got_past [] j le = refl
  got_past (x ∷ xs) zero le = absurd (omega (arith, le))
  got_past (x ∷ xs) (suc j) le = got_past xs j (omega (arith, le))

  pub no_field : (j f : ℕ) → length E ≤ j → own_field E (In j) f ≡ None
  no_field j f le = ap (λ (o : Option Entry). term_at (from_module (option_and_then module_of (option_map (λ (x : Entry). x.def) o))) f) (got_past E j le)

  -- what holds once the code of all entries is made
  pub all_placed : (K : Code) → Until (length E) K → IsPlaced E K
  all_placed K u = record {
    lambdas = λ b. each_at K K.blocks b u.made;
    fields = λ j f. ⊎_elim (λ lt. u.fields j f lt) (λ ge. subst (λ o. HasField K j o (field_code K j f)) (sym (no_field j f ge)) (no_code (field_code K j f) (λ b h. u.later j f b ge h))) (cases_lt j (length E));
    own = u.own;
  }

-- with a term's code
pub generated_placed : (E : Environment) (K : Code) (c : Home) (e : Expr) → IsPlaced E K → IsOfSource e → IsPlaced E (generated c e K)
generated_placed E K c e p s = record {
  lambdas = λ b. each_at (generated c e K) (generated c e K).blocks b (generated_made c e K s (each_from K K.blocks p.lambdas));
  fields = λ j f. field_stays K (generated c e K) (generated_ext c e K) j (own_field E (In j) f) (field_code K j f) (p.fields j f);
  own = p.own;
}

module _ (E : Environment) (e : Expr) (sources : Sources E) (source : IsOfSource e) where
  abbrev before : Code
  before = entries_generated E 0 E (record { blocks = []; fields = [] })

  pub program_placed : IsPlaced E (program_code E e)
  program_placed = generated_placed E before Main e (all_placed E before (all_until E sources)) source

  pub program_has : HasCode (program_code E e) Main e (block_number e before)
  program_has = generated_has Main e before source
