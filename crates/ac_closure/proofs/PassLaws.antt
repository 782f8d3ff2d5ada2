-- The pass over flags chooses what the pass over lists does.
use Rattle.std.proofs.Common.{◌≡◌, refl, sym, ap, ◌∙◌, subst, ℕ, zero, suc, ◌<◌, ◌≤◌, Bool, true, false, arith, List, [], ◌∷◌, ◌++◌, length, reverse, append_assoc, get_or, Option, Some, None, get_or-set_same, get_or-set_other}
use Rattle.std.specs.Prelude.{◌≢◌, ◌||◌, nat_eq, slice_get, filter_map, replicate}
use Rattle.std.specs.List.{list_any, cons_option}
use Rattle.std.proofs.lemmas.List.{reverse-append, length-replicate, get_or-replicate}
use Rattle.std.proofs.Math.ListN.{length-set}
use Rattle.std.proofs.lemmas.List.Folds.{list_any-append}
use Rattle.std.proofs.lemmas.List.Elements.{filter_map-append}
use mathlib.Core.Bool.{true≢false}
use Rattle.ac_terms.proofs.TestLaws.{eq_true, eq_self}
use Rattle.ac_types.specs.Types.{Bytes, mentions}
use Rattle.ac_terms.specs.Terms.{Home, Main, In}
use Rattle.ac_terms.specs.Defs.{Environment, Entry, find_name}
use Rattle.ac_terms.specs.Parts.{Portion, OfType, OfRef, OfHome, Captured, part_homes, part_refs, part_mentions, def_parts}
use Rattle.ac_rules.specs.Needed.{packet_form, spoken_of, uses, needed_below, needed_by}
use Rattle.ac_closure.specs.inner.Chosen.{with_one_entry, with_entries, with_found, with_home, with_mentions, with_part, with_parts}
use Rattle.ac_closure.specs.inner.Pass.{with_form, chosen_below}

-- a set keeps its length
length_found : (set : List Bool) (o : Option ℕ) → length (with_found set o) ≡ length set
length_found set None = refl
length_found set (Some j) = length-set set j true

length_home : (set : List Bool) (h : Home) → length (with_home set h) ≡ length set
length_home set Main = refl
length_home set (In k) = length-set set k true

pub length_entries : (set : List Bool) (js : List ℕ) → length (with_entries set js) ≡ length set
length_entries set [] = refl
length_entries set (j ∷ js) = length_entries (with_one_entry set j) js ∙ length-set set j true

-- where a name is looked up by `find`
module _ (find : Bytes → Option ℕ) where
  length_mentions : (set : List Bool) (ms : List (Bytes × Bytes)) → length (with_mentions find set ms) ≡ length set
  length_mentions set [] = refl
  length_mentions set (m ∷ ms) = length_mentions (with_found set (find m.0)) ms ∙ length_found set (find m.0)

  length_part : (set : List Bool) (p : Portion) → length (with_part find set p) ≡ length set
  length_part set (OfType T) = length_mentions set (mentions T)
  length_part set (OfRef j x) = length-set set j true
  length_part set (OfHome h) = length_home set h
  length_part set Captured = refl

  pub length_parts : (set : List Bool) (ps : List Portion) → length (with_parts find set ps) ≡ length set
  length_parts set [] = refl
  length_parts set (p ∷ ps) = length_parts (with_part find set p) ps ∙ length_part set p

-- the flags of a set that grows
none_more : (b : Bool) → b ≡ (b || false)
none_more true = refl
none_more false = refl

all_more : (b : Bool) → true ≡ (b || true)
all_more true = refl
all_more false = refl

or_assoc : (a b c : Bool) → ((a || b) || c) ≡ (a || (b || c))
or_assoc true b c = refl
or_assoc false b c = refl

more_homes : (a e h r m : Bool) → ((a || e) || ((h || r) || m)) ≡ (a || (((e || h) || r) || m))
more_homes true e h r m = refl
more_homes false true h r m = refl
more_homes false false h r m = refl

more_refs : (a e h r m : Bool) → ((a || e) || ((h || r) || m)) ≡ (a || ((h || (e || r)) || m))
more_refs true e h r m = refl
more_refs false true true r m = refl
more_refs false true false r m = refl
more_refs false false h r m = refl

more_mentions : (a t h r m : Bool) → ((a || t) || ((h || r) || m)) ≡ (a || ((h || r) || (t || m)))
more_mentions true t h r m = refl
more_mentions false true true r m = refl
more_mentions false true false true m = refl
more_mentions false true false false m = refl
more_mentions false false h r m = refl

module _ (k : ℕ) where
  abbrev at : List Bool → Bool
  at set = get_or set k false

  abbrev among : List ℕ → Bool
  among js = list_any (nat_eq k) js

  at_entry : (set : List Bool) (j : ℕ) → k < length set → at (with_one_entry set j) ≡ (at set || nat_eq k j)
  at_entry set j lt = by (nat_eq k j) refl
    where
      by : (b : Bool) → nat_eq k j ≡ b → at (with_one_entry set j) ≡ (at set || nat_eq k j)
      by true e =
          let same : k ≡ j = eq_true k j e in
          ap (λ i. get_or (with_one_entry set j) i false) same ∙ get_or-set_same set j true false (subst (λ i. i < length set) same lt) ∙ all_more (at set) ∙ ap (λ b. at set || b) (sym e)
      by false e =
          let apart : k ≢ j = λ p. true≢false (sym (eq_self j) ∙ ap (λ i. nat_eq i j) (sym p) ∙ e) in
          get_or-set_other set j k true false apart ∙ none_more (at set) ∙ ap (λ b. at set || b) (sym e)

  pub at_entries : (set : List Bool) (js : List ℕ) → k < length set → at (with_entries set js) ≡ (at set || among js)
  at_entries set [] lt = none_more (at set)
  at_entries set (j ∷ js) lt =
      at_entries (with_one_entry set j) js (subst (λ n. k < n) (sym (length-set set j true)) lt) ∙ ap (λ b. b || among js) (at_entry set j lt) ∙ or_assoc (at set) (nat_eq k j) (among js)

  module _ (find : Bytes → Option ℕ) where
    abbrev found : List (Bytes × Bytes) → List ℕ
    found ms = filter_map (λ (p : Bytes × Bytes). find p.0) ms

    at_found : (set : List Bool) (o : Option ℕ) (js : List ℕ) → k < length set → (at (with_found set o) || among js) ≡ (at set || among (cons_option o js))
    at_found set None js lt = refl
    at_found set (Some j) js lt = ap (λ b. b || among js) (at_entry set j lt) ∙ or_assoc (at set) (nat_eq k j) (among js)

    at_mentions : (set : List Bool) (ms : List (Bytes × Bytes)) → k < length set → at (with_mentions find set ms) ≡ (at set || among (found ms))
    at_mentions set [] lt = none_more (at set)
    at_mentions set (m ∷ ms) lt = at_mentions (with_found set (find m.0)) ms (subst (λ n. k < n) (sym (length_found set (find m.0))) lt) ∙ at_found set (find m.0) (found ms) lt

    -- whether parts speak of entry k
    abbrev spoken : List Portion → Bool
    spoken ps = (among (part_homes ps) || among (part_refs ps)) || among (found (part_mentions ps))

    at_part : (set : List Bool) (p : Portion) (ps : List Portion) → k < length set → (at (with_part find set p) || spoken ps) ≡ (at set || spoken (p ∷ ps))
    at_part set (OfType T) ps lt =
        ap (λ b. b || spoken ps) (at_mentions set (mentions T) lt) ∙ more_mentions (at set) (among (found (mentions T))) (among (part_homes ps)) (among (part_refs ps)) (among (found (part_mentions ps)))
        ∙ ap (λ b. at set || ((among (part_homes ps) || among (part_refs ps)) || b))
        (sym (ap among (filter_map-append (λ (p : Bytes × Bytes). find p.0) (mentions T) (part_mentions ps)) ∙ list_any-append (nat_eq k) (found (mentions T)) (found (part_mentions ps))))
    at_part set (OfRef j x) ps lt = ap (λ b. b || spoken ps) (at_entry set j lt) ∙ more_refs (at set) (nat_eq k j) (among (part_homes ps)) (among (part_refs ps)) (among (found (part_mentions ps)))
    at_part set (OfHome Main) ps lt = refl
    at_part set (OfHome (In i)) ps lt = ap (λ b. b || spoken ps) (at_entry set i lt) ∙ more_homes (at set) (nat_eq k i) (among (part_homes ps)) (among (part_refs ps)) (among (found (part_mentions ps)))
    at_part set Captured ps lt = refl

    pub at_parts : (set : List Bool) (ps : List Portion) → k < length set → at (with_parts find set ps) ≡ (at set || spoken ps)
    at_parts set [] lt = none_more (at set)
    at_parts set (p ∷ ps) lt = at_parts (with_part find set p) ps (subst (λ n. k < n) (sym (length_part find set p)) lt) ∙ at_part set p ps lt

  among_spoken : (E : Environment) (ps : List Portion) → among (spoken_of E ps) ≡ spoken (find_name E) ps
  among_spoken E ps =
      list_any-append (nat_eq k) (part_homes ps ++ part_refs ps) (found (find_name E) (part_mentions ps))
      ∙ ap (λ b. b || among (found (find_name E) (part_mentions ps))) (list_any-append (nat_eq k) (part_homes ps) (part_refs ps))

-- a name may be looked up in another way
module _ (f g : Bytes → Option ℕ) (alike : (name : Bytes) → f name ≡ g name) where
  mentions_alike : (set : List Bool) (ms : List (Bytes × Bytes)) → with_mentions f set ms ≡ with_mentions g set ms
  mentions_alike set [] = refl
  mentions_alike set (m ∷ ms) = ap (λ o. with_mentions f (with_found set o) ms) (alike m.0) ∙ mentions_alike (with_found set (g m.0)) ms

  part_alike : (set : List Bool) (p : Portion) → with_part f set p ≡ with_part g set p
  part_alike set (OfType T) = mentions_alike set (mentions T)
  part_alike set (OfRef j x) = refl
  part_alike set (OfHome h) = refl
  part_alike set Captured = refl

  parts_alike : (set : List Bool) (ps : List Portion) → with_parts f set ps ≡ with_parts g set ps
  parts_alike set [] = refl
  parts_alike set (p ∷ ps) = ap (λ s. with_parts f s ps) (part_alike set p) ∙ parts_alike (with_part g set p) ps

module _ (find : Bytes → Option ℕ) (E : Environment) (mark : ℕ) where
  -- what is chosen and what is needed, by whether entry k is in the set
  abbrev chose : ℕ → List Bool → Bool → List ℕ
  chose k set b = elim b [ true ↦ chosen_below find E mark k (with_form find E mark set k) ++ k ∷ [] | false ↦ chosen_below find E mark k set ]

  abbrev needs : ℕ → List ℕ → Bool → List ℕ
  needs k js b = elim b [ true ↦ needed_below E mark k (js ++ uses E mark k) ++ k ∷ [] | false ↦ needed_below E mark k js ]

  pub length_form : (set : List Bool) (k : ℕ) → length (with_form find E mark set k) ≡ length set
  length_form set k = by (slice_get E k)
    where
      by : (o : Option Entry) → length {A = Bool} (elim o [ None ↦ set | Some e ↦ with_parts find set (def_parts (packet_form mark k e)) ]) ≡ length set
      by None = refl
      by (Some e) = length_parts find set (def_parts (packet_form mark k e))

  module _ (alike : (name : Bytes) → find name ≡ find_name E name) where
    at_form : (set : List Bool) (k i : ℕ) → i < length set → get_or (with_form find E mark set k) i false ≡ (get_or set i false || list_any (nat_eq i) (uses E mark k))
    at_form set k i lt = by (slice_get E k)
      where
        by : (o : Option Entry) →
            get_or (elim o [ None ↦ set | Some e ↦ with_parts find set (def_parts (packet_form mark k e)) ]) i false
            ≡ (get_or set i false || list_any (nat_eq i) (elim o [ None ↦ [] | Some e ↦ spoken_of E (def_parts (packet_form mark k e)) ]))
        by None = none_more (get_or set i false)
        by (Some e) =
            let ps = def_parts (packet_form mark k e) in
            ap (λ s. get_or s i false) (parts_alike find (find_name E) alike set ps) ∙ at_parts i (find_name E) set ps lt ∙ ap (λ b. get_or set i false || b) (sym (among_spoken i E ps))

    -- where the flags below k are those of a list, both passes choose the same
    pub same_below : (k : ℕ) (set : List Bool) (js : List ℕ) → k ≤ length set → ((i : ℕ) → i < k → get_or set i false ≡ list_any (nat_eq i) js) → chosen_below find E mark k set ≡ needed_below E mark k js
    same_below zero set js le agree = refl
    same_below (suc k) set js le agree = ap (chose k set) (agree k (omega arith)) ∙ by (same_below k) (list_any (nat_eq k) js)
      where
        agree_more : (i : ℕ) → i < k → get_or (with_form find E mark set k) i false ≡ list_any (nat_eq i) (js ++ uses E mark k)
        agree_more i lt =
            at_form set k i (omega arith) ∙ ap (λ b. b || list_any (nat_eq i) (uses E mark k)) (agree i (omega arith)) ∙ sym (list_any-append (nat_eq i) js (uses E mark k))

        by : ((set' : List Bool) (js' : List ℕ) → k ≤ length set' → ((i : ℕ) → i < k → get_or set' i false ≡ list_any (nat_eq i) js') → chosen_below find E mark k set' ≡ needed_below E mark k js') → (b : Bool) → chose k set b ≡ needs k js b
        by rest true = ap (λ is. is ++ k ∷ []) (rest (with_form find E mark set k) (js ++ uses E mark k) (omega (arith, length_form set k)) agree_more)
        by rest false = rest set js (omega arith) (λ i lt. agree i (omega arith))

    -- the needed entries of some roots, from their flags
    pub same_needed : (roots : List ℕ) → chosen_below find E mark (length E) (with_entries (replicate (length E) false) roots) ≡ needed_by E mark roots
    same_needed roots =
        let n : ℕ = length E in
        let blank : List Bool = replicate n false in
        same_below n (with_entries blank roots) roots (omega (arith, length_entries blank roots, length-replicate n false))
        (λ i lt. at_entries i blank roots (omega (arith, length-replicate n false)) ∙ ap (λ b. b || list_any (nat_eq i) roots) (get_or-replicate n i false false lt))

  -- one turn of the loop
  turn_in : (k j : ℕ) (set : List Bool) (e : Entry) → k ≡ suc j → get_or set j false ≡ true → slice_get E j ≡ Some e → chosen_below find E mark k set ≡ chosen_below find E mark j (with_parts find set (def_parts (packet_form mark j e))) ++ j ∷ []
  turn_in k j set e p chosen at =
      ap (λ n. chosen_below find E mark n set) p
      ∙ ap (chose j set) chosen
      ∙ ap (λ (o : Option Entry). chosen_below find E mark j (elim o [ None ↦ set | Some x ↦ with_parts find set (def_parts (packet_form mark j x)) ]) ++ j ∷ []) at

  pub kept_in : (k j : ℕ) (set : List Bool) (e : Entry) (is : List ℕ) → k ≡ suc j → get_or set j false ≡ true → slice_get E j ≡ Some e → chosen_below find E mark j (with_parts find set (def_parts (packet_form mark j e))) ++ reverse (is ++ j ∷ []) ≡ chosen_below find E mark k set ++ reverse is
  kept_in k j set e is p chosen at =
      ap (λ js. chosen_below find E mark j (with_parts find set (def_parts (packet_form mark j e))) ++ js) (reverse-append is (j ∷ []))
      ∙ sym (append_assoc (chosen_below find E mark j (with_parts find set (def_parts (packet_form mark j e)))) (j ∷ []) (reverse is))
      ∙ ap (λ js. js ++ reverse is) (sym (turn_in k j set e p chosen at))
