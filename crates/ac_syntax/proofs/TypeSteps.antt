-- The steps of the parsers of types, over lists of signs.
use Rattle.std.proofs.Common.{◌≡◌, ◌<◌, ◌≤◌, ◌+◌, ◌-◌, ℕ, max, List, [], ◌∷◌, ◌++◌, Some, None, refl, sym, ◌∙◌, ap, subst, arith}
use Rattle.ac_types.specs.Types.{Bytes}
use Rattle.ac_syntax.specs.Signs.{Sign, Lower, Upper, Fixed, here}
use Rattle.ac_syntax.specs.Trees.{NameAt, TypeTree, TyInt, TyBool, TyStr, TyUnit, TyExn, TyLocal, TyOf, TyTuple, TyList, TyOpt, TyFun, TypeTrees, no_type_trees, type_tree, type_trees, type_height, highest_type_tree}
use Rattle.ac_syntax.specs.TypeForms.{TypeLevel, Whole, Product, Suffixed, Suffixes, Single, ParsesType, ParsesFactors, no_arrow, arrow, one_factor, factors, suffixed, no_suffix, list_of, option_of, int, bool, string, unit, exn, local, of_module, parens, last_factor, more_factors, type_front, TypeStops, IsTypeTree}
use Rattle.ac_types.proofs.FirstLaws.{some_eq}
use Rattle.ac_syntax.specs.PartParsing.{LowerAt, NoLower, SymbolAt, NoSymbol, NoType, LeafAt, Enclosed, NoLeaf, base_type, suffix_symbol, suffixed_by, NoSuffix, TupleOf, NoFactors}
use Rattle.ac_syntax.specs.declared.sign.Symbol.{Symbol}
use Rattle.ac_syntax.specs.declared.sign.Symbol.TheVariants.{Open, Close, Dot, Star, Arrow, IntType, BoolType, StringType, UnitType, ExnType, ListType, OptionType}
use Rattle.ac_syntax.specs.declared.types.Suffix.{Suffix}
use Rattle.ac_syntax.specs.declared.types.Suffix.TheVariants as suffix
use Rattle.ac_syntax.proofs.Exceptions.{nothing_there}
use Rattle.ac_syntax.proofs.UniqueTypes.{tail_eq, front_positive, arrow_goes_on, star_goes_on, unique_type, at_same, factors_at_same, suffixes_at_same}

-- heights

pub height_positive : (t : TypeTree) → 0 < type_height t
height_positive (TyTuple at ts) = omega arith
height_positive (TyList at t) = omega arith
height_positive (TyOpt at t) = omega arith
height_positive (TyFun at t u) = omega arith
height_positive (TyInt at) = omega arith
height_positive (TyBool at) = omega arith
height_positive (TyStr at) = omega arith
height_positive (TyUnit at) = omega arith
height_positive (TyExn at) = omega arith
height_positive (TyLocal at x) = omega arith
height_positive (TyOf at m x) = omega arith

-- no type has no height
pub flat_none : (l : TypeLevel) (D : ℕ) (ts : List Sign) → D ≡ 0 → NoType D l ts
flat_none l D ts flat t r o = absurd (omega (arith, height_positive t, o.low))

-- what goes on

behind_product : (ts : List Sign) → 2 < type_front ts → NoSymbol Arrow ts → 3 < type_front ts
behind_product [] h none = omega arith
behind_product (Fixed a Arrow ∷ ts) h none = absurd (none ts (record { at = a; is = refl }))
behind_product (Fixed a Star ∷ ts) h none = absurd (omega arith)
behind_product (Fixed a ListType ∷ ts) h none = absurd (omega arith)
behind_product (Fixed a OptionType ∷ ts) h none = absurd (omega arith)
behind_product (t ∷ ts) h none = omega arith

behind_suffixed : (ts : List Sign) → 1 < type_front ts → NoSymbol Star ts → 2 < type_front ts
behind_suffixed [] h none = omega arith
behind_suffixed (Fixed a Star ∷ ts) h none = absurd (none ts (record { at = a; is = refl }))
behind_suffixed (Fixed a ListType ∷ ts) h none = absurd (omega arith)
behind_suffixed (Fixed a OptionType ∷ ts) h none = absurd (omega arith)
behind_suffixed (t ∷ ts) h none = omega arith

behind_single : (ts : List Sign) → NoSuffix ts → 1 < type_front ts
behind_single [] none = omega arith
behind_single (Fixed a ListType ∷ ts) none = absurd (none suffix.List ts (record { at = a; is = refl }))
behind_single (Fixed a OptionType ∷ ts) none = absurd (none suffix.Opt ts (record { at = a; is = refl }))
behind_single (t ∷ ts) none = omega arith

pub no_suffix_at : (ts : List Sign) → NoSymbol ListType ts → NoSymbol OptionType ts → NoSuffix ts
no_suffix_at ts no_list no_option suffix.List rest at = no_list rest at
no_suffix_at ts no_list no_option suffix.Opt rest at = no_option rest at

-- functions

record FirstOf (l : TypeLevel) (ts : List Sign) (t : TypeTree) : Type 0 where
  first : TypeTree
  rest : List Sign
  parses : ParsesType l ts first rest
  stops : TypeStops l rest
  low : type_height first ≤ type_height t

first_of_whole : {ts r : List Sign} {t : TypeTree} → ParsesType Whole ts t r → TypeStops Whole r → FirstOf Product ts t
first_of_whole (no_arrow p) h = record { first = _; rest = _; parses = p; stops = omega arith; low = omega arith }
first_of_whole (arrow p q) h = record { first = _; rest = _; parses = p; stops = omega arith; low = omega arith }

pub whole_alone : (D : ℕ) (ts r : List Sign) (t : TypeTree) → IsTypeTree D Product ts t r → NoSymbol Arrow r → IsTypeTree D Whole ts t r
whole_alone D ts r t o none = record { parses = no_arrow o.parses; stops = behind_product r o.stops none; low = o.low }

pub whole_none : (D : ℕ) (ts : List Sign) → NoType D Product ts → NoType D Whole ts
whole_none D ts none t r o =
    let f = first_of_whole o.parses o.stops in
    let low : type_height t ≤ D = o.low in
    let first : type_height f.first ≤ type_height t = f.low in
    none f.first f.rest (record { parses = f.parses; stops = f.stops; low = omega arith })

record Result (ts next : List Sign) (from t : TypeTree) (r : List Sign) : Type 0 where
  to : TypeTree
  parses : ParsesType Whole next to r
  is : t ≡ TyFun (here ts) from to

result_of : {ts s next r : List Sign} {from t : TypeTree} {a : ℕ} → ParsesType Product ts from s → TypeStops Product s → s ≡ Fixed a Arrow ∷ next
    → ParsesType Whole ts t r → TypeStops Whole r → Result ts next from t r
result_of p h is (no_arrow q) x = arrow_goes_on _ _ ((unique_type q p (omega arith) h).rest ∙ is) x
result_of p h is (arrow q w) x =
    let d = unique_type q p (omega arith) h in
    record { to = _; parses = at_same (sym (tail_eq (d.rest ∙ is))) w; is = let e = d.tree in cc }

module _ (D : ℕ) (ts s next : List Sign) (from : TypeTree) (o : IsTypeTree D Product ts from s) (at : SymbolAt Arrow s next) where
  pub whole_arrow : (to : TypeTree) (r : List Sign) → IsTypeTree (D - 1) Whole next to r → type_height from < D → IsTypeTree D Whole ts (TyFun (here ts) from to) r
  whole_arrow to r w h = record {
    parses = arrow (subst (λ (l : List Sign). ParsesType Product ts from l) at.is o.parses) w.parses;
    stops = w.stops;
    low = let low : type_height to ≤ D - 1 = w.low in omega arith;
  }

  pub arrow_none : NoType (D - 1) Whole next → NoType D Whole ts
  arrow_none none t r w =
      let f = result_of o.parses o.stops at.is w.parses w.stops in
      let low : type_height t ≤ D = w.low in
      let same : type_height t ≡ type_height (TyFun (here ts) from f.to) = ap type_height f.is in
      none f.to r (record { parses = f.parses; stops = w.stops; low = omega arith })

  pub arrow_high : D ≤ type_height from → NoType D Whole ts
  arrow_high high t r w =
      let f = result_of o.parses o.stops at.is w.parses w.stops in
      let low : type_height t ≤ D = w.low in
      let same : type_height t ≡ type_height (TyFun (here ts) from f.to) = ap type_height f.is in
      absurd (omega arith)

-- tuples

first_of_product : {ts r : List Sign} {t : TypeTree} → ParsesType Product ts t r → TypeStops Product r → FirstOf Suffixed ts t
first_of_product (one_factor p) h = record { first = _; rest = _; parses = p; stops = omega arith; low = omega arith }
first_of_product (factors p q) h = record { first = _; rest = _; parses = p; stops = omega arith; low = omega arith }

pub product_alone : (D : ℕ) (ts r : List Sign) (t : TypeTree) → IsTypeTree D Suffixed ts t r → NoSymbol Star r → IsTypeTree D Product ts t r
product_alone D ts r t o none = record { parses = one_factor o.parses; stops = behind_suffixed r o.stops none; low = o.low }

pub product_none : (D : ℕ) (ts : List Sign) → NoType D Suffixed ts → NoType D Product ts
product_none D ts none t r o =
    let f = first_of_product o.parses o.stops in
    let low : type_height t ≤ D = o.low in
    let first : type_height f.first ≤ type_height t = f.low in
    none f.first f.rest (record { parses = f.parses; stops = f.stops; low = omega arith })

record Others (ts next : List Sign) (first t : TypeTree) (r : List Sign) : Type 0 where
  others : TypeTrees
  parses : ParsesFactors next others r
  is : t ≡ TyTuple (here ts) (type_tree first others)

others_of : {ts s next r : List Sign} {first t : TypeTree} {a : ℕ} → ParsesType Suffixed ts first s → TypeStops Suffixed s → s ≡ Fixed a Star ∷ next
    → ParsesType Product ts t r → TypeStops Product r → Others ts next first t r
others_of p h is (one_factor q) x = star_goes_on _ _ ((unique_type q p (omega arith) h).rest ∙ is) x
others_of p h is (factors q w) x =
    let d = unique_type q p (omega arith) h in
    record { others = _; parses = factors_at_same (sym (tail_eq (d.rest ∙ is))) w; is = let e = d.tree in cc }

module _ (D : ℕ) (ts s next : List Sign) (first : TypeTree) (o : IsTypeTree D Suffixed ts first s) (at : SymbolAt Star s next) where
  pub product_tuple : (t : TypeTree) (r : List Sign) → TupleOf D (here ts) first next t r → IsTypeTree D Product ts t r
  product_tuple t r w = record {
    parses = subst (λ (u : TypeTree). ParsesType Product ts u r) (sym w.is) (factors (subst (λ (l : List Sign). ParsesType Suffixed ts first l) at.is o.parses) w.parses);
    stops = w.stops;
    low = w.low;
  }

  pub tuple_none : NoFactors (D - 1) next → NoType D Product ts
  tuple_none none t r w =
      let f = others_of o.parses o.stops at.is w.parses w.stops in
      let low : type_height t ≤ D = w.low in
      let same : type_height t ≡ type_height (TyTuple (here ts) (type_tree first f.others)) = ap type_height f.is in
      none f.others r f.parses w.stops (omega arith)

  pub tuple_high : D ≤ type_height first → NoType D Product ts
  tuple_high high t r w =
      let f = others_of o.parses o.stops at.is w.parses w.stops in
      let low : type_height t ≤ D = w.low in
      let same : type_height t ≡ type_height (TyTuple (here ts) (type_tree first f.others)) = ap type_height f.is in
      absurd (omega arith)

-- some types and those behind them
abbrev pub behind : List TypeTree → TypeTrees → TypeTrees
behind [] us = us
behind (t ∷ ts) us = type_tree t (behind ts us)

behind_one_more : (ts : List TypeTree) (t : TypeTree) (us : TypeTrees) → behind (ts ++ t ∷ []) us ≡ behind ts (type_tree t us)
behind_one_more [] t us = refl
behind_one_more (u ∷ ts) t us = ap (λ (vs : TypeTrees). type_tree u vs) (behind_one_more ts t us)

all_behind : (ts : List TypeTree) (t : TypeTree) → type_trees (ts ++ t ∷ []) ≡ behind ts (type_tree t no_type_trees)
all_behind [] t = refl
all_behind (u ∷ ts) t = ap (λ (vs : TypeTrees). type_tree u vs) (all_behind ts t)

-- the factors that stand here begin with those done, and the others stand at the rest
pub record Left (D : ℕ) (done : List TypeTree) (rest : List Sign) (us : TypeTrees) (s : List Sign) : Type 0 where
  pub left : TypeTrees
  pub is : us ≡ behind done left
  pub parses : ParsesFactors rest left s
  pub low : highest_type_tree left ≤ D

pub record FactorsSoFar (D : ℕ) (first : TypeTree) (ts : List Sign) (parts : List TypeTree) (rest : List Sign) : Type 0 where
  pub done : List TypeTree
  pub is : parts ≡ first ∷ done
  pub back : (us : TypeTrees) (s : List Sign) → ParsesFactors rest us s → ParsesFactors ts (behind done us) s
  pub forth : (us : TypeTrees) (s : List Sign) → ParsesFactors ts us s → 2 < type_front s → highest_type_tree us ≤ D → Left D done rest us s

pub no_factors_yet : (D : ℕ) (first : TypeTree) (ts : List Sign) → FactorsSoFar D first ts (first ∷ []) ts
no_factors_yet D first ts = record {
  done = [];
  is = refl;
  back = λ us s p. p;
  forth = λ us s p x low. record { left = us; is = refl; parses = p; low = low };
}

record Factor (D : ℕ) (ts : List Sign) : Type 0 where
  first : TypeTree
  rest : List Sign
  tree : IsTypeTree D Suffixed ts first rest

factor_of : (D : ℕ) {ts s : List Sign} {us : TypeTrees} → ParsesFactors ts us s → 2 < type_front s → highest_type_tree us ≤ D → Factor D ts
factor_of D (last_factor p) x low = record { first = _; rest = _; tree = record { parses = p; stops = omega arith; low = omega arith } }
factor_of D (more_factors p q) x low = record { first = _; rest = _; tree = record { parses = p; stops = omega arith; low = omega arith } }

record After (D : ℕ) (t : TypeTree) (next : List Sign) (us : TypeTrees) (s : List Sign) : Type 0 where
  left : TypeTrees
  is : us ≡ type_tree t left
  parses : ParsesFactors next left s
  low : highest_type_tree left ≤ D

after_factor : (D : ℕ) {ts later next s : List Sign} {t : TypeTree} {us : TypeTrees} {a : ℕ} → ParsesType Suffixed ts t later → TypeStops Suffixed later → later ≡ Fixed a Star ∷ next
    → ParsesFactors ts us s → 2 < type_front s → highest_type_tree us ≤ D → After D t next us s
after_factor D p h is (last_factor q) x low = star_goes_on _ _ ((unique_type q p (omega arith) h).rest ∙ is) x
after_factor D p h is (more_factors q w) x low =
    let d = unique_type q p (omega arith) h in
    record { left = _; is = let e = d.tree in cc; parses = factors_at_same (sym (tail_eq (d.rest ∙ is))) w; low = omega arith }

module _ (D : ℕ) (first : TypeTree) (ts : List Sign) (parts : List TypeTree) (rest : List Sign) (so : FactorsSoFar D first ts parts rest) where
  pub factors_none : NoType D Suffixed rest → NoFactors D ts
  factors_none none us s p x low =
      let l = so.forth us s p x low in
      let f = factor_of D l.parses x l.low in
      none f.first f.rest f.tree

  module _ (t : TypeTree) (later : List Sign) (o : IsTypeTree D Suffixed rest t later) where
    pub next_factor : (next : List Sign) → SymbolAt Star later next → FactorsSoFar D first ts (parts ++ t ∷ []) next
    next_factor next at = record {
      done = so.done ++ t ∷ [];
      is = ap (λ (l : List TypeTree). l ++ t ∷ []) so.is;
      back = λ us s p.
          subst (λ (v : TypeTrees). ParsesFactors ts v s) (sym (behind_one_more so.done t us))
          (so.back (type_tree t us) s (more_factors (subst (λ (l : List Sign). ParsesType Suffixed rest t l) at.is o.parses) p));
      forth = λ us s p x low.
          let l = so.forth us s p x low in
          let f = after_factor D o.parses o.stops at.is l.parses x l.low in
          record { left = f.left; is = l.is ∙ ap (behind so.done) f.is ∙ sym (behind_one_more so.done t f.left); parses = f.parses; low = f.low };
    }

    pub all_factors : (E at : ℕ) → NoSymbol Star later → highest_type_tree (type_trees (parts ++ t ∷ [])) + 1 ≤ E → TupleOf E at first ts (TyTuple at (type_trees (parts ++ t ∷ []))) later
    all_factors E at none low = record {
      others = behind so.done (type_tree t no_type_trees);
      parses = so.back _ later (last_factor o.parses);
      is = ap (λ (l : List TypeTree). TyTuple at (type_trees (l ++ t ∷ []))) so.is ∙ ap (λ (us : TypeTrees). TyTuple at (type_tree first us)) (all_behind so.done t);
      stops = behind_suffixed later o.stops none;
      low = low;
    }

-- a first factor and those read behind it, the last of them in front of the rest
pub record FactorsRead (D : ℕ) (first : TypeTree) (ts : List Sign) (parts : List TypeTree) (rest : List Sign) : Type 0 where
  pub before : List TypeTree
  pub start : List Sign
  pub so_far : FactorsSoFar D first ts before start
  pub last : TypeTree
  pub tree : IsTypeTree D Suffixed start last rest
  pub is : parts ≡ before ++ last ∷ []

pub second_none : (D : ℕ) (first : TypeTree) (ts : List Sign) → NoType D Suffixed ts → NoFactors D ts
second_none D first ts none = factors_none D first ts (first ∷ []) ts (no_factors_yet D first ts) none

module _ (D : ℕ) (first : TypeTree) (ts : List Sign) (parts : List TypeTree) (rest : List Sign) (r : FactorsRead D first ts parts rest) where
  so_far_at : (next : List Sign) → SymbolAt Star rest next → FactorsSoFar D first ts parts next
  so_far_at next at = subst (λ (l : List TypeTree). FactorsSoFar D first ts l next) (sym r.is) (next_factor D first ts r.before r.start r.so_far r.last rest r.tree next at)

  pub next_read : (next later : List Sign) (t : TypeTree) → SymbolAt Star rest next → IsTypeTree D Suffixed next t later → FactorsRead D first ts (parts ++ t ∷ []) later
  next_read next later t at o = record { before = parts; start = next; so_far = so_far_at next at; last = t; tree = o; is = refl }

  pub next_none : (next : List Sign) → SymbolAt Star rest next → NoType D Suffixed next → NoFactors D ts
  next_none next at none = factors_none D first ts parts next (so_far_at next at) none

  pub all_read : (E at : ℕ) → NoSymbol Star rest → highest_type_tree (type_trees parts) + 1 ≤ E → TupleOf E at first ts (TyTuple at (type_trees parts)) rest
  all_read E at none low =
      subst (λ (l : List TypeTree). TupleOf E at first ts (TyTuple at (type_trees l)) rest) (sym r.is)
      (all_factors D first ts r.before r.start r.so_far r.last rest r.tree E at none (subst (λ (l : List TypeTree). highest_type_tree (type_trees l) + 1 ≤ E) r.is low))

highest_one_more : (ts : List TypeTree) (t : TypeTree) → highest_type_tree (type_trees (ts ++ t ∷ [])) ≡ max (highest_type_tree (type_trees ts)) (type_height t)
highest_one_more [] t = omega arith
highest_one_more (u ∷ ts) t = let h = highest_one_more ts t in omega arith

pub highest_next : (parts : List TypeTree) (t : TypeTree) (all : List TypeTree) (n m k : ℕ) → all ≡ parts ++ t ∷ [] → n ≡ highest_type_tree (type_trees parts) → m ≡ type_height t → k ≡ max n m → k ≡ highest_type_tree (type_trees all)
highest_next parts t all n m k is n_is m_is k_is = omega (arith, ap (λ (l : List TypeTree). highest_type_tree (type_trees l)) is, highest_one_more parts t)

-- suffixes

suffix_height : {at : ℕ} {ts r : List Sign} {t u : TypeTree} → ParsesType (Suffixes at t) ts u r → type_height t ≤ type_height u
suffix_height no_suffix = omega arith
suffix_height (list_of p) = let h = suffix_height p in omega arith
suffix_height (option_of p) = let h = suffix_height p in omega arith

pub record SuffixesSoFar (D : ℕ) (ts : List Sign) (t : TypeTree) (rest : List Sign) : Type 0 where
  pub back : (u : TypeTree) (s : List Sign) → ParsesType (Suffixes (here ts) t) rest u s → ParsesType Suffixed ts u s
  pub forth : (u : TypeTree) (s : List Sign) → IsTypeTree D Suffixed ts u s → ParsesType (Suffixes (here ts) t) rest u s

record FirstSingle (ts : List Sign) (u : TypeTree) (s : List Sign) : Type 0 where
  first : TypeTree
  rest : List Sign
  parses : ParsesType Single ts first rest
  then : ParsesType (Suffixes (here ts) first) rest u s

first_single : {ts s : List Sign} {u : TypeTree} → ParsesType Suffixed ts u s → FirstSingle ts u s
first_single (suffixed p q) = record { first = _; rest = _; parses = p; then = q }

pub single_first : (D : ℕ) (ts rest : List Sign) (t : TypeTree) → IsTypeTree D Single ts t rest → SuffixesSoFar D ts t rest
single_first D ts rest t o = record {
  back = λ u s q. suffixed o.parses q;
  forth = λ u s w.
      let f = first_single w.parses in
      let d = unique_type o.parses f.parses (front_positive _) (front_positive _) in
      suffixes_at_same d.tree d.rest f.then;
}

pub suffixed_none : (D : ℕ) (ts : List Sign) → NoType D Single ts → NoType D Suffixed ts
suffixed_none D ts none u s w =
    let f = first_single w.parses in
    let h : type_height f.first ≤ type_height u = suffix_height f.then in
    let low : type_height u ≤ D = w.low in
    none f.first f.rest (record { parses = f.parses; stops = front_positive _; low = omega arith })

after_suffix : {at a : ℕ} {ts s : List Sign} {t u : TypeTree} (x : Suffix) → ParsesType (Suffixes at t) (Fixed a (suffix_symbol x) ∷ ts) u s → 1 < type_front s → ParsesType (Suffixes at (suffixed_by x at t)) ts u s
after_suffix suffix.List no_suffix h = absurd (omega arith)
after_suffix suffix.List (list_of p) h = p
after_suffix suffix.Opt no_suffix h = absurd (omega arith)
after_suffix suffix.Opt (option_of p) h = p

before_suffix : {at a : ℕ} {ts s : List Sign} {t u : TypeTree} (x : Suffix) → ParsesType (Suffixes at (suffixed_by x at t)) ts u s → ParsesType (Suffixes at t) (Fixed a (suffix_symbol x) ∷ ts) u s
before_suffix suffix.List p = list_of p
before_suffix suffix.Opt p = option_of p

pub higher : (x : Suffix) (at : ℕ) (t : TypeTree) → type_height (suffixed_by x at t) ≡ type_height t + 1
higher suffix.List at t = refl
higher suffix.Opt at t = refl

module _ (D : ℕ) (ts : List Sign) (t : TypeTree) (rest : List Sign) (so : SuffixesSoFar D ts t rest) where
  pub suffixed_alone : NoSuffix rest → type_height t ≤ D → IsTypeTree D Suffixed ts t rest
  suffixed_alone none low = record { parses = so.back t rest no_suffix; stops = behind_single rest none; low = low }

  module _ (x : Suffix) (next : List Sign) (at : SymbolAt (suffix_symbol x) rest next) where
    then_of : (u : TypeTree) (s : List Sign) → IsTypeTree D Suffixed ts u s → ParsesType (Suffixes (here ts) (suffixed_by x (here ts) t)) next u s
    then_of u s w = after_suffix x (subst (λ (l : List Sign). ParsesType (Suffixes (here ts) t) l u s) at.is (so.forth u s w)) w.stops

    pub next_suffixed : SuffixesSoFar D ts (suffixed_by x (here ts) t) next
    next_suffixed = record {
      back = λ u s p. so.back u s (subst (λ (l : List Sign). ParsesType (Suffixes (here ts) t) l u s) (sym at.is) (before_suffix x p));
      forth = then_of;
    }

    pub suffix_high : D ≤ type_height t → NoType D Suffixed ts
    suffix_high high u s w =
        let h : type_height (suffixed_by x (here ts) t) ≤ type_height u = suffix_height (then_of u s w) in
        let one : type_height (suffixed_by x (here ts) t) ≡ type_height t + 1 = higher x (here ts) t in
        let low : type_height u ≤ D = w.low in
        absurd (omega arith)

-- single types

pub parens_tree : (D : ℕ) (ts inner s r : List Sign) (t : TypeTree) → SymbolAt Open ts inner → IsTypeTree D Whole inner t s → SymbolAt Close s r → IsTypeTree D Single ts t r
parens_tree D ts inner s r t opened o closed = record {
  parses =
      subst (λ (l : List Sign). ParsesType Single l t r) (sym opened.is)
      (parens (subst (λ (l : List Sign). ParsesType Whole inner t l) closed.is o.parses));
  stops = front_positive r;
  low = o.low;
}

inner_of : {ts inner r : List Sign} {t : TypeTree} (e : Enclosed ts t r) → SymbolAt Open ts inner → ParsesType Whole inner t (Fixed e.close Close ∷ r)
inner_of e opened = at_same (tail_eq (sym opened.is ∙ e.opened.is)) e.parses

pub unopened_none : (D : ℕ) (ts : List Sign) → NoLeaf ts → NoSymbol Open ts → NoType D Single ts
unopened_none D ts leaf none t r o = let e = leaf t r o.parses in none e.inner e.opened

pub unclosed_none : (D : ℕ) (ts inner s : List Sign) (u : TypeTree) → NoLeaf ts → SymbolAt Open ts inner → IsTypeTree D Whole inner u s → NoSymbol Close s → NoType D Single ts
unclosed_none D ts inner s u leaf opened w none t r o =
    let e = leaf t r o.parses in
    let d = unique_type w.parses (inner_of e opened) w.stops (omega arith) in
    none r (record { at = e.close; is = d.rest })

fixed_leaf_none : {a : ℕ} {t : Symbol} {ts r : List Sign} {u : TypeTree} → base_type t a ≡ None → ParsesType Single (Fixed a t ∷ ts) u r → Enclosed (Fixed a t ∷ ts) u r
fixed_leaf_none e int = nothing_there (sym e)
fixed_leaf_none e bool = nothing_there (sym e)
fixed_leaf_none e string = nothing_there (sym e)
fixed_leaf_none e unit = nothing_there (sym e)
fixed_leaf_none e exn = nothing_there (sym e)
fixed_leaf_none {a = a} e (parens p) = record { inner = _; opened = record { at = a; is = refl }; close = _; parses = p }

at_signs : {ts us : List Sign} → ts ≡ us → NoLeaf us → NoLeaf ts
at_signs is none = subst (λ (l : List Sign). NoLeaf l) (sym is) none

leaf_at_signs : {ts us r : List Sign} {t u : TypeTree} → ts ≡ us → t ≡ u → LeafAt us u r → LeafAt ts t r
leaf_at_signs {ts} {us} {r} {t} {u} is same at = subst (λ (l : List Sign). LeafAt l t r) (sym is) (subst (λ (v : TypeTree). LeafAt us v r) (sym same) at)

pub no_base_leaf : (a : ℕ) (t : Symbol) (ts rest : List Sign) → ts ≡ Fixed a t ∷ rest → base_type t a ≡ None → NoLeaf ts
no_base_leaf a t ts rest is none = at_signs is (λ u r p. fixed_leaf_none none p)

base_leaf_at : (a : ℕ) (t : Symbol) (u : TypeTree) (rest : List Sign) → base_type t a ≡ Some u → LeafAt (Fixed a t ∷ rest) u rest
base_leaf_at a IntType u rest e = leaf_at_signs refl (some_eq (sym e)) (record { parses = int; leaf = refl })
base_leaf_at a BoolType u rest e = leaf_at_signs refl (some_eq (sym e)) (record { parses = bool; leaf = refl })
base_leaf_at a StringType u rest e = leaf_at_signs refl (some_eq (sym e)) (record { parses = string; leaf = refl })
base_leaf_at a UnitType u rest e = leaf_at_signs refl (some_eq (sym e)) (record { parses = unit; leaf = refl })
base_leaf_at a ExnType u rest e = leaf_at_signs refl (some_eq (sym e)) (record { parses = exn; leaf = refl })
base_leaf_at a t u rest e = nothing_there e

pub base_leaf : (a : ℕ) (t : Symbol) (ts rest : List Sign) (u v : TypeTree) → ts ≡ Fixed a t ∷ rest → base_type t a ≡ Some u → v ≡ u → LeafAt ts v rest
base_leaf a t ts rest u v is e same = leaf_at_signs is same (base_leaf_at a t u rest e)

pub local_leaf : (a : ℕ) (w : Bytes) (ts rest : List Sign) (v : TypeTree) → ts ≡ Lower a w ∷ rest → v ≡ TyLocal a w → LeafAt ts v rest
local_leaf a w ts rest v is same = leaf_at_signs is same (record { parses = local; leaf = refl })

-- a type of another module
upper_leaf : {a : ℕ} {w : Bytes} {ts r : List Sign} {u : TypeTree} {P : Type 0} → ((b c : ℕ) (x : Bytes) → ts ≡ Fixed b Dot ∷ Lower c x ∷ r → P) → ParsesType Single (Upper a w ∷ ts) u r → P
upper_leaf f of_module = f _ _ _ refl

pub undotted_none : (a : ℕ) (w : Bytes) (ts : List Sign) → NoSymbol Dot ts → NoLeaf (Upper a w ∷ ts)
undotted_none a w ts none t r p = upper_leaf (λ b c x is. absurd (none _ (record { at = b; is = is }))) p

pub unnamed_none : (a : ℕ) (w : Bytes) (ts behind : List Sign) → SymbolAt Dot ts behind → NoLower behind → NoLeaf (Upper a w ∷ ts)
unnamed_none a w ts behind at none t r p = upper_leaf (λ b c x is. absurd (none (record { at = c; word = x }) r (tail_eq (sym at.is ∙ is)))) p

pub qualified_leaf : (a : ℕ) (w : Bytes) (ts behind rest : List Sign) (x : NameAt) (v : TypeTree) → SymbolAt Dot ts behind → LowerAt x behind rest → v ≡ TyOf a (record { at = a; word = w }) x → LeafAt (Upper a w ∷ ts) v rest
qualified_leaf a w ts behind rest x v at is same =
    leaf_at_signs (ap (λ (l : List Sign). Upper a w ∷ l) (at.is ∙ ap (λ (l : List Sign). Fixed at.at Dot ∷ l) is)) same (record { parses = of_module; leaf = refl })
