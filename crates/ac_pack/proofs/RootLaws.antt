-- The roots that a walk finds are those of the value, and what they need stands below the end.
use Rattle.std.proofs.Common.{◌≡◌, refl, sym, ap, ◌∙◌, ℕ, zero, suc, ◌<◌, ◌≤◌, Bool, true, false, arith, List, [], ◌∷◌, ◌++◌, length}
use Rattle.std.specs.Prelude.{◌||◌, nat_eq}
use Rattle.std.specs.List.{list_any}
use Rattle.std.proofs.lemmas.List.Folds.{list_any-append}
use Rattle.std.proofs.lemmas.List.Elements.{filter_map-append}
use Rattle.ac_types.specs.Types.{Bytes, Typ, mentions}
use Rattle.ac_terms.specs.Terms.{Main, In, PValue}
use Rattle.ac_terms.specs.Defs.{Environment, find_name}
use Rattle.ac_terms.specs.Parts.{Portion, OfType, OfRef, OfHome, Captured, part_homes, part_refs, part_mentions, value_parts}
use Rattle.ac_rules.specs.Needed.{spoken_of, uses, roots_of, needed_below, needed_by}
use Rattle.ac_pack_terms.specs.Spoken.{first_named, spoken_by, spoken_by_all}
use Rattle.ac_pack_definitions.specs.Forms.{AllBelow}

or_assoc : (a b c : Bool) → ((a || b) || c) ≡ (a || (b || c))
or_assoc true b c = refl
or_assoc false b c = refl

or_swap : (a b : Bool) → (a || b) ≡ (b || a)
or_swap true true = refl
or_swap true false = refl
or_swap false true = refl
or_swap false false = refl

more_refs : (a h r m : Bool) → (a || ((h || r) || m)) ≡ ((h || (a || r)) || m)
more_refs true true r m = refl
more_refs true false r m = refl
more_refs false h r m = refl

more_mentions : (a s m : Bool) → (a || (s || m)) ≡ (s || (a || m))
more_mentions true true m = refl
more_mentions true false m = refl
more_mentions false s m = refl

module _ (E : Environment) (k : ℕ) where
  abbrev among : List ℕ → Bool
  among js = list_any (nat_eq k) js

  -- whether parts speak of entry k
  abbrev spoken : List Portion → Bool
  spoken ps = (among (part_homes ps) || among (part_refs ps)) || among (first_named E (part_mentions ps))

  by_part : (p : Portion) (ps : List Portion) → (among (spoken_by E p) || spoken ps) ≡ spoken (p ∷ ps)
  by_part (OfType T) ps =
      more_mentions (among (first_named E (mentions T))) (among (part_homes ps) || among (part_refs ps)) (among (first_named E (part_mentions ps)))
      ∙ ap (λ b. (among (part_homes ps) || among (part_refs ps)) || b)
      (sym (ap among (filter_map-append (λ (p : Bytes × Bytes). find_name E p.0) (mentions T) (part_mentions ps)) ∙ list_any-append (nat_eq k) (first_named E (mentions T)) (first_named E (part_mentions ps))))
  by_part (OfRef j x) ps =
      ap (λ b. b || spoken ps) (or_swap (nat_eq k j) false) ∙ more_refs (nat_eq k j) (among (part_homes ps)) (among (part_refs ps)) (among (first_named E (part_mentions ps)))
  by_part (OfHome Main) ps = refl
  by_part (OfHome (In i)) ps =
      ap (λ b. b || spoken ps) (or_swap (nat_eq k i) false) ∙ sym (or_assoc (nat_eq k i) (among (part_homes ps) || among (part_refs ps)) (among (first_named E (part_mentions ps))))
      ∙ ap (λ b. b || among (first_named E (part_mentions ps))) (sym (or_assoc (nat_eq k i) (among (part_homes ps)) (among (part_refs ps))))
  by_part Captured ps = refl

  part_by_part : (ps : List Portion) → among (spoken_by_all E ps) ≡ spoken ps
  part_by_part [] = refl
  part_by_part (p ∷ ps) = list_any-append (nat_eq k) (spoken_by E p) (spoken_by_all E ps) ∙ ap (λ b. among (spoken_by E p) || b) (part_by_part ps) ∙ by_part p ps

  in_lists : (ps : List Portion) → among (spoken_of E ps) ≡ spoken ps
  in_lists ps =
      list_any-append (nat_eq k) (part_homes ps ++ part_refs ps) (first_named E (part_mentions ps))
      ∙ ap (λ b. b || among (first_named E (part_mentions ps))) (list_any-append (nat_eq k) (part_homes ps) (part_refs ps))

  same_root : (T : Typ) (v : PValue) → among (spoken_by_all E (OfType T ∷ value_parts v)) ≡ among (roots_of E T v)
  same_root T v =
      let ps : List Portion = value_parts v in
      let ns : List ℕ = first_named E (mentions T) in
      list_any-append (nat_eq k) ns (spoken_by_all E ps) ∙ or_swap (among ns) (among (spoken_by_all E ps))
      ∙ ap (λ b. b || among ns) (part_by_part ps ∙ sym (in_lists ps))
      ∙ sym (list_any-append (nat_eq k) (spoken_of E ps) ns)

module _ (E : Environment) (mark : ℕ) where
  abbrev next : ℕ → List ℕ → Bool → List ℕ
  next k set b = elim b [ true ↦ needed_below E mark k (set ++ uses E mark k) ++ k ∷ [] | false ↦ needed_below E mark k set ]

  -- what a set needs is a matter of its members
  same_needed : (k : ℕ) (xs ys : List ℕ) → ((i : ℕ) → list_any (nat_eq i) xs ≡ list_any (nat_eq i) ys) → needed_below E mark k xs ≡ needed_below E mark k ys
  same_needed zero xs ys alike = refl
  same_needed (suc k) xs ys alike = ap (next k xs) (alike k) ∙ by (same_needed k) (list_any (nat_eq k) ys)
    where
      by : ((us vs : List ℕ) → ((i : ℕ) → list_any (nat_eq i) us ≡ list_any (nat_eq i) vs) → needed_below E mark k us ≡ needed_below E mark k vs) → (b : Bool) → next k xs b ≡ next k ys b
      by rest true =
          ap (λ is. is ++ k ∷ [])
          (rest (xs ++ uses E mark k) (ys ++ uses E mark k) (λ i.
          list_any-append (nat_eq i) xs (uses E mark k) ∙ ap (λ b. b || list_any (nat_eq i) (uses E mark k)) (alike i) ∙ sym (list_any-append (nat_eq i) ys (uses E mark k))))
      by rest false = rest xs ys alike

  pub needed_alike : (T : Typ) (v : PValue) → needed_by E mark (spoken_by_all E (OfType T ∷ value_parts v)) ≡ needed_by E mark (roots_of E T v)
  needed_alike T v = same_needed (length E) (spoken_by_all E (OfType T ∷ value_parts v)) (roots_of E T v) (λ i. same_root E i T v)

  all_below : (m n : ℕ) (xs : List ℕ) → m ≤ n → AllBelow m xs → AllBelow n xs
  all_below m n [] le h = tt
  all_below m n (x ∷ xs) le h = (let lt = h.0 in omega (arith, lt, le), all_below m n xs le h.1)

  one_behind : (n k : ℕ) (xs : List ℕ) → AllBelow n xs → k < n → AllBelow n (xs ++ k ∷ [])
  one_behind n k [] h lt = (lt, tt)
  one_behind n k (x ∷ xs) h lt = (h.0, one_behind n k xs h.1 lt)

  below : (k : ℕ) (set : List ℕ) → AllBelow k (needed_below E mark k set)
  below zero set = tt
  below (suc k) set = by (below k) (list_any (nat_eq k) set)
    where
      by : ((xs : List ℕ) → AllBelow k (needed_below E mark k xs)) → (b : Bool) → AllBelow (suc k) (next k set b)
      by rest true = one_behind (suc k) k (needed_below E mark k (set ++ uses E mark k)) (all_below k (suc k) (needed_below E mark k (set ++ uses E mark k)) (omega arith) (rest (set ++ uses E mark k))) (omega arith)
      by rest false = all_below k (suc k) (needed_below E mark k set) (omega arith) (rest set)

  -- what is needed stands below the end
  pub needed_inside : (roots : List ℕ) → AllBelow (length E) (needed_by E mark roots)
  needed_inside roots = below (length E) roots
