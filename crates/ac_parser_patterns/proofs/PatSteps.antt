-- The steps of the parsers of patterns, over lists of signs.
use Rattle.std.proofs.Common.{◌≡◌, ◌<◌, ◌≤◌, ◌+◌, ◌-◌, ℕ, max, true, false, List, [], ◌∷◌, ◌++◌, Some, None, refl, sym, ◌∙◌, ap, subst, arith}
use Rattle.std.specs.Prelude.{pos, neg_ℤ}
use Rattle.ac_types.proofs.FirstLaws.{some_eq}
use Rattle.ac_types.specs.Types.{Bytes}
use Rattle.ac_types.specs.ReadNumbers.{texted_number}
use Rattle.ac_types.specs.declared.exceptions.TextExn.{TextExn}
use Rattle.ac_types.specs.declared.exceptions.TextExn.TheVariants as texted
use Rattle.ac_syntax.specs.Signs.{Sign, Int, Str, Lower, Upper, Fixed, Other, here}
use Rattle.ac_syntax.specs.Trees.{NameAt, TypeTree, PatTree, PatWild, PatVar, PatInt, PatBool, PatStr, PatUnit, PatTuple, PatNil, PatCons, PatAbsent, PatPresent, PatExn, PatExnOf, PatTrees, pat_tree, pat_trees, pat_height, highest_pat}
use Rattle.ac_syntax.specs.Patterns.{exception_sign, exception_with_string, PatLevel, Pattern, Prefixed, Single, ParsesPat, ParsesPats, no_cons, cons, some, exn_with_string, single, wild, var, number, negative, string, true_, false_, unit, nil, none, exn, parens, tuple, last_pat, more_pats, pat_front, PatStops, IsPatTree, IsPattern}
use Rattle.ac_syntax.specs.PartParsing.{SymbolAt, NoSymbol}
use Rattle.ac_syntax.specs.declared.sign.Symbol.{Symbol}
use Rattle.ac_syntax.specs.declared.sign.Symbol.TheVariants.{Open, Close, OpenSquare, CloseSquare, Comma, Minus, Cons, Wild, True, False, SomeWord, NoneWord, Failure, InvalidArgument, NotFound, DivisionByZero, MatchFailure, EndOfFile, SysError, MarshalFailure, UnmarshalFailure, ResolveFailure}
use Rattle.ac_syntax.proofs.Exceptions.{apart, nothing_there, same_value}
use Rattle.ac_syntax.proofs.UniqueTypes.{tail_eq}
use Rattle.ac_syntax.proofs.UniquePatterns.{symbol_begins_single, begins_single, single_begins, unique_pat, same_pattern}
use Rattle.ac_parser_patterns.specs.Reading.{Nothing}
use Rattle.ac_parser_patterns.specs.declared.front.Prefix.{Prefix}
use Rattle.ac_parser_patterns.specs.declared.front.Prefix.TheVariants as prefix
use Rattle.ac_parser_patterns.specs.PatternPieces.{NoPat, prefixed_pat, base_pat, PatLeafAt, NoPatLeaf, IsPats, PatTupleOf}
use Rattle.ac_parser_patterns.specs.Pieces.{Before, last, more, IsTypedBinder, NumberAt, NoNumber, begins_lower, IsPrefix, PrefixAt, NoPrefix}
use Rattle.ac_parser_patterns.proofs.Readers.{One, ManyRead, before, before_none, symbol_none, one_before, before_apart, next_read, next_none, all_read, chain_none}

-- heights

pat_height_positive : (p : PatTree) → 0 < pat_height p
pat_height_positive (PatTuple at ps) = omega arith
pat_height_positive (PatCons at p q) = omega arith
pat_height_positive (PatPresent at p) = omega arith
pat_height_positive (PatExnOf at k p) = omega arith
pat_height_positive (PatWild at) = omega arith
pat_height_positive (PatVar at x T) = omega arith
pat_height_positive (PatInt at n) = omega arith
pat_height_positive (PatBool at b) = omega arith
pat_height_positive (PatStr at s) = omega arith
pat_height_positive (PatUnit at) = omega arith
pat_height_positive (PatNil at) = omega arith
pat_height_positive (PatAbsent at) = omega arith
pat_height_positive (PatExn at k) = omega arith

-- no pattern has no height
pub flat_pat : (l : PatLevel) (D : ℕ) (ts : List Sign) → D ≡ 0 → NoPat D l ts
flat_pat l D ts flat p r o = let low : pat_height p ≤ D = o.low in absurd (omega (arith, pat_height_positive p))

pub one_pat : (D : ℕ) (l : PatLevel) → One (IsPatTree D l)
one_pat D l ts r s p q x y = let d = unique_pat x.parses y.parses x.stops y.stops in (d.tree, d.rest)

pub one_pattern : One IsPattern
one_pattern ts r s x y p q = let d = same_pattern p q in (d.tree, d.rest)

front_positive : (ts : List Sign) → 0 < pat_front ts
front_positive [] = omega arith
front_positive (Int a n ∷ ts) = omega arith
front_positive (Str a x ∷ ts) = omega arith
front_positive (Lower a x ∷ ts) = omega arith
front_positive (Upper a x ∷ ts) = omega arith
front_positive (Other a ∷ ts) = omega arith
front_positive (Fixed a Cons ∷ ts) = omega arith
front_positive (Fixed a s ∷ ts) = omega arith

-- lists

behind_prefixed : (ts : List Sign) → NoSymbol Cons ts → 1 < pat_front ts
behind_prefixed [] free = omega arith
behind_prefixed (Int a n ∷ ts) free = omega arith
behind_prefixed (Str a x ∷ ts) free = omega arith
behind_prefixed (Lower a x ∷ ts) free = omega arith
behind_prefixed (Upper a x ∷ ts) free = omega arith
behind_prefixed (Other a ∷ ts) free = omega arith
behind_prefixed (Fixed a Cons ∷ ts) free = absurd (free ts (record { at = a; is = refl }))
behind_prefixed (Fixed a s ∷ ts) free = omega arith

cons_goes_on : {P : Type 0} {a : ℕ} (r s : List Sign) → r ≡ Fixed a Cons ∷ s → 1 < pat_front r → P
cons_goes_on r s is h = absurd (omega (arith, ap pat_front is))

record FirstPat (ts : List Sign) (p : PatTree) : Type 0 where
  first : PatTree
  rest : List Sign
  parses : ParsesPat Prefixed ts first rest
  low : pat_height first ≤ pat_height p

first_pat : {ts r : List Sign} {p : PatTree} → ParsesPat Pattern ts p r → FirstPat ts p
first_pat (no_cons p) = record { first = _; rest = _; parses = p; low = omega arith }
first_pat (cons p q) = record { first = _; rest = _; parses = p; low = omega arith }

pub pat_alone : (D : ℕ) (ts r : List Sign) (p : PatTree) → IsPatTree D Prefixed ts p r → NoSymbol Cons r → IsPatTree D Pattern ts p r
pat_alone D ts r p o no_cons' = record { parses = no_cons o.parses; stops = behind_prefixed r no_cons'; low = o.low }

pub pat_none : (D : ℕ) (ts : List Sign) → NoPat D Prefixed ts → NoPat D Pattern ts
pat_none D ts none' p r o =
    let f = first_pat o.parses in
    let low : pat_height p ≤ D = o.low in
    let first : pat_height f.first ≤ pat_height p = f.low in
    none' f.first f.rest (record { parses = f.parses; stops = front_positive f.rest; low = omega arith })

record Tail (ts next : List Sign) (head p : PatTree) (r : List Sign) : Type 0 where
  tail : PatTree
  parses : ParsesPat Pattern next tail r
  is : p ≡ PatCons (here ts) head tail

pat_at : {l : PatLevel} {r s t : List Sign} {p : PatTree} → r ≡ s → ParsesPat l s p t → ParsesPat l r p t
pat_at {l} {r} {s} {t} {p} e q = subst (λ (u : List Sign). ParsesPat l u p t) (sym e) q

tail_of : {ts s next r : List Sign} {head p : PatTree} {a : ℕ} → ParsesPat Prefixed ts head s → s ≡ Fixed a Cons ∷ next → ParsesPat Pattern ts p r → PatStops Pattern r → Tail ts next head p r
tail_of {s = s} p is (no_cons q) x = cons_goes_on _ _ ((unique_pat q p (omega arith) (front_positive s)).rest ∙ is) x
tail_of {s = s} p is (cons q w) x =
    let d = unique_pat q p (omega arith) (front_positive s) in
    record { tail = _; parses = pat_at (sym (tail_eq (d.rest ∙ is))) w; is = let e = d.tree in cc }

module _ (D : ℕ) (ts s next : List Sign) (head : PatTree) (o : IsPatTree D Prefixed ts head s) (at : SymbolAt Cons s next) where
  pub pat_cons : (tail : PatTree) (r : List Sign) → IsPatTree (D - 1) Pattern next tail r → pat_height head < D → IsPatTree D Pattern ts (PatCons (here ts) head tail) r
  pat_cons tail r w h = record {
    parses = cons (subst (λ (l : List Sign). ParsesPat Prefixed ts head l) at.is o.parses) w.parses;
    stops = w.stops;
    low = let low : pat_height tail ≤ D - 1 = w.low in omega arith;
  }

  pub cons_none : NoPat (D - 1) Pattern next → NoPat D Pattern ts
  cons_none none' p r w =
      let f = tail_of o.parses at.is w.parses w.stops in
      let low : pat_height p ≤ D = w.low in
      let same : pat_height p ≡ pat_height (PatCons (here ts) head f.tail) = ap pat_height f.is in
      none' f.tail r (record { parses = f.parses; stops = w.stops; low = omega arith })

  pub cons_high : D ≤ pat_height head → NoPat D Pattern ts
  cons_high high p r w =
      let f = tail_of o.parses at.is w.parses w.stops in
      let low : pat_height p ≤ D = w.low in
      let same : pat_height p ≡ pat_height (PatCons (here ts) head f.tail) = ap pat_height f.is in
      absurd (omega arith)

-- words that take a pattern

with_string_begins_none : {P : Type 0} {k : ℕ} (t : Symbol) → exception_with_string t ≡ Some k → symbol_begins_single t ≡ true → P
with_string_begins_none Failure e b = apart b
with_string_begins_none InvalidArgument e b = apart b
with_string_begins_none SysError e b = apart b
with_string_begins_none MarshalFailure e b = apart b
with_string_begins_none UnmarshalFailure e b = apart b
with_string_begins_none ResolveFailure e b = apart b
with_string_begins_none t e b = nothing_there e

single_not : {P : Type 0} {ts r : List Sign} {p : PatTree} → ParsesPat Single ts p r → begins_single ts ≡ false → P
single_not p e = apart (sym e ∙ single_begins p)

-- the exception that takes a string and has this number
pub found : {k : ℕ} (t : Symbol) → exception_with_string t ≡ Some k → (x : TextExn) × (exception_with_string t ≡ Some (texted_number x))
found Failure e = (texted.Failure, refl)
found InvalidArgument e = (texted.InvalidArgument, refl)
found SysError e = (texted.SysError, refl)
found MarshalFailure e = (texted.MarshalFailure, refl)
found UnmarshalFailure e = (texted.UnmarshalFailure, refl)
found ResolveFailure e = (texted.ResolveFailure, refl)
found t e = nothing_there e

record PrefixedPat (x : Prefix) (at : ℕ) (ts : List Sign) (p : PatTree) (r : List Sign) : Type 0 where
  item : PatTree
  parses : ParsesPat Single ts item r
  is : p ≡ prefixed_pat x at item

present_forth : {at : ℕ} {ts r : List Sign} {p : PatTree} → ParsesPat Prefixed (Fixed at SomeWord ∷ ts) p r → PrefixedPat prefix.Present at ts p r
present_forth (some q) = record { item = _; parses = q; is = refl }
present_forth (exn_with_string e q) = nothing_there e
present_forth (single q) = single_not q refl

prefix_forth : (x : Prefix) {at : ℕ} {t : Symbol} {ts r : List Sign} {p : PatTree} → IsPrefix x t → ParsesPat Prefixed (Fixed at t ∷ ts) p r → PrefixedPat x at ts p r
prefix_forth prefix.Present {at} {t} {ts} {r} {p} e q = present_forth (subst (λ (u : Symbol). ParsesPat Prefixed (Fixed at u ∷ ts) p r) e q)
prefix_forth (prefix.Exn k) e (some q) = nothing_there e
prefix_forth (prefix.Exn k) {at} e (exn_with_string {p = item} f q) = record { item = item; parses = q; is = ap (λ (n : ℕ). PatExnOf at n item) (same_value f e) }
prefix_forth (prefix.Exn k) {at} {t} e (single q) = with_string_begins_none t e (single_begins q)

prefix_back : (x : Prefix) {at : ℕ} {t : Symbol} {ts r : List Sign} {p : PatTree} → IsPrefix x t → ParsesPat Single ts p r → ParsesPat Prefixed (Fixed at t ∷ ts) (prefixed_pat x at p) r
prefix_back prefix.Present {at} {t} {ts} {r} {p} e q = subst (λ (u : Symbol). ParsesPat Prefixed (Fixed at u ∷ ts) (PatPresent at p) r) (sym e) (some q)
prefix_back (prefix.Exn k) e q = exn_with_string e q

prefix_height : (x : Prefix) (at : ℕ) (p : PatTree) → pat_height (prefixed_pat x at p) ≡ pat_height p + 1
prefix_height prefix.Present at p = refl
prefix_height (prefix.Exn k) at p = refl

module _ (D : ℕ) (x : Prefix) (at : ℕ) (ts behind : List Sign) (w : PrefixAt x at ts behind) (h : 0 < D) where
  pub prefixed_tree : (p : PatTree) (r : List Sign) → IsPatTree (D - 1) Single behind p r → IsPatTree D Prefixed ts (prefixed_pat x at p) r
  prefixed_tree p r o = record {
    parses = pat_at w.is (prefix_back x w.prefix o.parses);
    stops = front_positive r;
    low = let low : pat_height p ≤ D - 1 = o.low in let one = prefix_height x at p in omega arith;
  }

  pub prefixed_none : NoPat (D - 1) Single behind → NoPat D Prefixed ts
  prefixed_none none' p r o =
      let f = prefix_forth x w.prefix (pat_at (sym w.is) o.parses) in
      let one = prefix_height x at f.item in
      let same : pat_height p ≡ pat_height (prefixed_pat x at f.item) = ap pat_height f.is in
      let low : pat_height p ≤ D = o.low in
      none' f.item r (record { parses = f.parses; stops = front_positive r; low = omega arith })

unprefixed : {ts r : List Sign} {p : PatTree} → NoPrefix ts → ParsesPat Prefixed ts p r → ParsesPat Single ts p r
unprefixed none' (some {a = a} q) = absurd (none' prefix.Present a _ (record { symbol = SomeWord; is = refl; prefix = refl }))
unprefixed none' (exn_with_string {a = a} {t = t} e q) = let f = found t e in absurd (none' (prefix.Exn f.0) a _ (record { symbol = t; is = refl; prefix = f.1 }))
unprefixed none' (single q) = q

pub single_tree : (D : ℕ) (ts r : List Sign) (p : PatTree) → IsPatTree D Single ts p r → IsPatTree D Prefixed ts p r
single_tree D ts r p o = record { parses = single o.parses; stops = o.stops; low = o.low }

pub single_none : (D : ℕ) (ts : List Sign) → NoPrefix ts → NoPat D Single ts → NoPat D Prefixed ts
single_none D ts no_prefix none' p r o = none' p r (record { parses = unprefixed no_prefix o.parses; stops = o.stops; low = o.low })

-- tuples

record PatsRead (D : ℕ) (ts : List Sign) (ps : PatTrees) (s : List Sign) : Type 0 where
  list : List PatTree
  is : ps ≡ pat_trees list
  read : IsPats D ts list s

pats_forth : {D : ℕ} {ts s : List Sign} {ps : PatTrees} → ParsesPats ts ps s → highest_pat ps ≤ D → PatsRead D ts ps s
pats_forth (last_pat {a = a} {p = p} q) low = record {
  list = p ∷ [];
  is = refl;
  read = last (record { middle = _; first = record { parses = q; stops = omega arith; low = omega arith }; at = record { at = a; is = refl } });
}
pats_forth {D} (more_pats {a = a} {p = p} {ps = ps} q w) low =
    let low' : highest_pat ps ≤ D = omega arith in
    let f = pats_forth w low' in
    record {
      list = p ∷ f.list;
      is = ap (λ (l : PatTrees). pat_tree p l) f.is;
      read = more (record { middle = _; first = record { parses = q; stops = omega arith; low = omega arith }; at = record { at = a; is = refl } }) f.read;
    }

before_at : {D : ℕ} {t : Symbol} {ts r : List Sign} {p : PatTree} → (b : Before t (IsPatTree D Pattern) ts p r) → ParsesPat Pattern ts p (Fixed b.at.at t ∷ r)
before_at {ts = ts} {p = p} b = subst (λ (l : List Sign). ParsesPat Pattern ts p l) b.at.is b.first.parses

pats_back : {D : ℕ} {ts s : List Sign} {list : List PatTree} → IsPats D ts list s → ParsesPats ts (pat_trees list) s
pats_back (last b) = last_pat (before_at b)
pats_back (more b c) = more_pats (before_at b) (pats_back c)

pats_low : (D : ℕ) {ts s : List Sign} {list : List PatTree} → IsPats D ts list s → highest_pat (pat_trees list) ≤ D
pats_low D (last {x = p} b) = let low : pat_height p ≤ D = b.first.low in omega arith
pats_low D (more {x = p} b c) = let low : pat_height p ≤ D = b.first.low in let h = pats_low D c in omega arith

comma_is_no_close : Comma ≡ Close → ⊥
comma_is_no_close e = cc

-- the parts of a tuple so far
abbrev pub Parts : ℕ → PatTree → List Sign → List PatTree → List Sign → Type 0
Parts D = ManyRead (Before Comma (IsPatTree D Pattern)) (Before Close (IsPatTree D Pattern)) (IsPatTree D Pattern)

pub second_none : (D : ℕ) (ts : List Sign) → NoPat D Pattern ts → Nothing (IsPats D) ts
second_none D ts none' all s (last b) = none' _ _ b.first
second_none D ts none' all s (more b c) = none' _ _ b.first

module _ (D : ℕ) (first : PatTree) (ts : List Sign) (parts : List PatTree) (rest : List Sign) (m : Parts D first ts parts rest) where
  module _ (behind : List Sign) (comma : SymbolAt Comma rest behind) where
    not_last : (p : PatTree) (s : List Sign) → Before Close (IsPatTree D Pattern) m.from p s → ⊥
    not_last p s b = before_apart (one_pat D Pattern) comma_is_no_close (before m.read comma) b

    pub part_none : NoPat D Pattern behind → Nothing (IsPats D) ts
    part_none none' = next_none (one_before Comma (one_pat D Pattern)) m not_last (before m.read comma) (before_none none') (before_none none')

    pub part_read : (p : PatTree) (later : List Sign) (all : List PatTree) → IsPatTree D Pattern behind p later → all ≡ parts ++ p ∷ [] → Parts D first ts all later
    part_read p later all q is = next_read (one_before Comma (one_pat D Pattern)) m not_last (before m.read comma) q is

  pub unended_none : NoSymbol Comma rest → NoSymbol Close rest → Nothing (IsPats D) ts
  unended_none no_comma no_close = chain_none m.so (symbol_none (one_pat D Pattern) m.read no_comma) (symbol_none (one_pat D Pattern) m.read no_close)

  pub tuple_of : (at : ℕ) (p : PatTree) (s : List Sign) → SymbolAt Close rest s → p ≡ PatTuple at (pat_trees parts) → PatTupleOf D at first ts p s
  tuple_of at p s close is = let a = all_read m (before m.read close) in record { others = a.others; is = is ∙ ap (λ (l : List PatTree). PatTuple at (pat_trees l)) a.is; read = a.read }

highest_one_more : (ps : List PatTree) (p : PatTree) → highest_pat (pat_trees (ps ++ p ∷ [])) ≡ max (highest_pat (pat_trees ps)) (pat_height p)
highest_one_more [] p = omega arith
highest_one_more (q ∷ ps) p = let h = highest_one_more ps p in omega arith

pub highest_next : (ps : List PatTree) (p : PatTree) (all : List PatTree) (n m k : ℕ) → all ≡ ps ++ p ∷ [] → n ≡ highest_pat (pat_trees ps) → m ≡ pat_height p → k ≡ max n m → k ≡ highest_pat (pat_trees all)
highest_next ps p all n m k is n_is m_is k_is = omega (arith, ap (λ (l : List PatTree). highest_pat (pat_trees l)) is, highest_one_more ps p)

-- what stands in parentheses that hold no unit and no variable
data Inside (at : ℕ) (ts : List Sign) (p : PatTree) (s : List Sign) : Type 0 where
  closed : (b : ℕ) → ParsesPat Pattern ts p (Fixed b Close ∷ s) → Inside at ts p s
  several : (first : PatTree) (ps : PatTrees) (b : ℕ) (r : List Sign) → ParsesPat Pattern ts first (Fixed b Comma ∷ r) → ParsesPats r ps s → p ≡ PatTuple at (pat_tree first ps) → Inside at ts p s

inside : {at : ℕ} {ts s : List Sign} {p : PatTree} → NoSymbol Close ts → begins_lower ts ≡ false → ParsesPat Single (Fixed at Open ∷ ts) p s → Inside at ts p s
inside no_close no_name (unit {b = b}) = absurd (no_close _ (record { at = b; is = refl }))
inside no_close no_name (var T) = apart (sym no_name)
inside no_close no_name (exn e) = nothing_there e
inside no_close no_name (parens {b = b} q) = closed b q
inside no_close no_name (tuple {b = b} {p = p} {ps = ps} {r = r} q w) = several p ps b r q w refl

pub unit_pat : (D at : ℕ) (ts r : List Sign) (p : PatTree) → 0 < D → SymbolAt Close ts r → p ≡ PatUnit at → IsPatTree D Single (Fixed at Open ∷ ts) p r
unit_pat D at ts r p h c is = record {
  parses = pat_at (ap (λ (l : List Sign). Fixed at Open ∷ l) c.is) (subst (λ (q : PatTree). ParsesPat Single (Fixed at Open ∷ Fixed c.at Close ∷ r) q r) (sym is) unit);
  stops = front_positive r;
  low = omega (arith, ap pat_height is);
}

pub var_pat : (D at : ℕ) (ts r : List Sign) (x : NameAt × TypeTree) (p : PatTree) → 0 < D → IsTypedBinder Close ts x r → p ≡ PatVar at x.0 x.1 → IsPatTree D Single (Fixed at Open ∷ ts) p r
var_pat D at ts r x p h t is = record {
  parses =
      let inner = t.second.then in
      let ty = subst (λ (l : List Sign). Rattle.ac_syntax.specs.TypeForms.IsType t.second.middle x.1 l) inner.at.is inner.first in
      pat_at (ap (λ (l : List Sign). Fixed at Open ∷ l) (t.first ∙ ap (λ (l : List Sign). Lower x.0.at x.0.word ∷ l) t.second.at.is))
      (subst (λ (q : PatTree). ParsesPat Single (Fixed at Open ∷ Lower x.0.at x.0.word ∷ Fixed t.second.at.at Rattle.ac_syntax.specs.declared.sign.Symbol.TheVariants.Colon ∷ t.second.middle) q r) (sym is) (var ty));
  stops = front_positive r;
  low = omega (arith, ap pat_height is);
}

name_begins_none : {P : Type 0} {l : PatLevel} {a : ℕ} {x : List ℕ} {ts r : List Sign} {p : PatTree} → ParsesPat l (Lower a x ∷ ts) p r → P
name_begins_none (no_cons p) = name_begins_none p
name_begins_none (cons p q) = name_begins_none p
name_begins_none (single p) = single_not p refl

var_forth : {at : ℕ} {ts s : List Sign} {p : PatTree} → Nothing (IsTypedBinder Close) ts → begins_lower ts ≡ true → ParsesPat Single (Fixed at Open ∷ ts) p s → ⊥
var_forth none' lower unit = apart lower
var_forth none' lower (exn e) = nothing_there e
var_forth none' lower (var {b = b} {c = c} {d = d} {x = x} {T = T} t) =
    none' (record { at = b; word = x }, T) _ (record { middle = _; first = refl; second = record { middle = _; at = record { at = c; is = refl }; then = record { middle = _; first = t; at = record { at = d; is = refl } } } })
var_forth none' lower (parens {ts = Lower a x ∷ ts} p) = name_begins_none p
var_forth none' lower (parens {ts = []} p) = apart lower
var_forth none' lower (parens {ts = Int a n ∷ ts} p) = apart lower
var_forth none' lower (parens {ts = Str a x ∷ ts} p) = apart lower
var_forth none' lower (parens {ts = Upper a x ∷ ts} p) = apart lower
var_forth none' lower (parens {ts = Fixed a x ∷ ts} p) = apart lower
var_forth none' lower (parens {ts = Other a ∷ ts} p) = apart lower
var_forth none' lower (tuple {ts = Lower a x ∷ ts} p q) = name_begins_none p
var_forth none' lower (tuple {ts = []} p q) = apart lower
var_forth none' lower (tuple {ts = Int a n ∷ ts} p q) = apart lower
var_forth none' lower (tuple {ts = Str a x ∷ ts} p q) = apart lower
var_forth none' lower (tuple {ts = Upper a x ∷ ts} p q) = apart lower
var_forth none' lower (tuple {ts = Fixed a x ∷ ts} p q) = apart lower
var_forth none' lower (tuple {ts = Other a ∷ ts} p q) = apart lower

pub var_none : (D at : ℕ) (ts : List Sign) → Nothing (IsTypedBinder Close) ts → begins_lower ts ≡ true → NoPat D Single (Fixed at Open ∷ ts)
var_none D at ts none' lower p r o = var_forth none' lower o.parses

module _ (D at : ℕ) (ts : List Sign) (no_close : NoSymbol Close ts) (no_name : begins_lower ts ≡ false) where
  inner_none : {p : PatTree} {s : List Sign} → NoPat D Pattern ts → pat_height p ≤ D → Inside at ts p s → ⊥
  inner_none none' low (closed b q) = none' _ _ (record { parses = q; stops = omega arith; low = low })
  inner_none none' low (several first ps b r q w is) =
      none' _ _ (record { parses = q; stops = omega arith; low = omega (arith, ap pat_height is) })

  pub opened_none : NoPat D Pattern ts → NoPat D Single (Fixed at Open ∷ ts)
  opened_none none' p s o = inner_none none' o.low (inside no_close no_name o.parses)

  module _ (first : PatTree) (r : List Sign) (o : IsPatTree D Pattern ts first r) where
    neither : {p : PatTree} {s : List Sign} → NoSymbol Close r → NoSymbol Comma r → Inside at ts p s → ⊥
    neither no_end no_comma (closed b q) = no_end _ (record { at = b; is = (unique_pat o.parses q o.stops (omega arith)).rest })
    neither no_end no_comma (several f ps b rest q w is) = no_comma _ (record { at = b; is = (unique_pat o.parses q o.stops (omega arith)).rest })

    pub unclosed_none : NoSymbol Close r → NoSymbol Comma r → NoPat D Single (Fixed at Open ∷ ts)
    unclosed_none no_end no_comma p s w = neither no_end no_comma (inside no_close no_name w.parses)

    module _ (behind : List Sign) (no_end : NoSymbol Close r) (comma : SymbolAt Comma r behind) where
      record Several (p : PatTree) (s : List Sign) : Type 0 where
        ps : PatTrees
        parses : ParsesPats behind ps s
        is : p ≡ PatTuple at (pat_tree first ps)

      several_of : {p : PatTree} {s : List Sign} → Inside at ts p s → Several p s
      several_of (closed b q) = absurd (no_end _ (record { at = b; is = (unique_pat o.parses q o.stops (omega arith)).rest }))
      several_of {p} {s} (several f ps b rest q w is) =
          let d = unique_pat o.parses q o.stops (omega arith) in
          record {
            ps = ps;
            parses = subst (λ (l : List Sign). ParsesPats l ps s) (tail_eq (sym d.rest ∙ comma.is)) w;
            is = is ∙ ap (λ (x : PatTree). PatTuple at (pat_tree x ps)) (sym d.tree);
          }

      pub tuple_high : D ≤ pat_height first → NoPat D Single (Fixed at Open ∷ ts)
      tuple_high high p s w =
          let f = several_of (inside no_close no_name w.parses) in
          let low : pat_height p ≤ D = w.low in
          absurd (omega (arith, ap pat_height f.is))

      pub tuple_none : Nothing (IsPats (D - 1)) behind → NoPat D Single (Fixed at Open ∷ ts)
      tuple_none none' p s w =
          let f = several_of (inside no_close no_name w.parses) in
          let low : pat_height p ≤ D = w.low in
          let low' : highest_pat f.ps ≤ D - 1 = omega (arith, ap pat_height f.is) in
          let g = pats_forth f.parses low' in
          none' g.list s g.read

      pub tuple_tree : (p : PatTree) (s : List Sign) → pat_height first < D → PatTupleOf (D - 1) at first behind p s → IsPatTree D Single (Fixed at Open ∷ ts) p s
      tuple_tree p s h t = record {
        parses =
            subst (λ (q : PatTree). ParsesPat Single (Fixed at Open ∷ ts) q s) (sym t.is)
            (tuple (subst (λ (l : List Sign). ParsesPat Pattern ts first l) comma.is o.parses) (pats_back t.read));
        stops = front_positive s;
        low = let low = pats_low (D - 1) t.read in omega (arith, ap pat_height t.is);
      }

    pub parens_tree : (s : List Sign) → SymbolAt Close r s → IsPatTree D Single (Fixed at Open ∷ ts) first s
    parens_tree s c = record {
      parses = parens (subst (λ (l : List Sign). ParsesPat Pattern ts first l) c.is o.parses);
      stops = front_positive s;
      low = o.low;
    }

-- leaves

pub leaf_tree : (D : ℕ) (ts r : List Sign) (p : PatTree) → 0 < D → PatLeafAt ts p r → IsPatTree D Single ts p r
leaf_tree D ts r p h at = record { parses = at.parses; stops = front_positive r; low = omega (arith, at.leaf) }

pub leaf_none : (D : ℕ) (ts : List Sign) → NoPatLeaf ts → NoPat D Single ts
leaf_none D ts none' p r o = none' p r o.parses

pat_leaf : {ts us r : List Sign} {p q : PatTree} → ts ≡ us → p ≡ q → PatLeafAt us q r → PatLeafAt ts p r
pat_leaf {ts} {us} {r} {p} {q} is same at = subst (λ (l : List Sign). PatLeafAt l p r) (sym is) (subst (λ (x : PatTree). PatLeafAt us x r) (sym same) at)

pub negative_leaf : (n a : ℕ) (ts r : List Sign) (p : PatTree) → NumberAt n ts r → p ≡ PatInt a (neg_ℤ (pos n)) → PatLeafAt (Fixed a Minus ∷ ts) p r
negative_leaf n a ts r p at same = pat_leaf (ap (λ (l : List Sign). Fixed a Minus ∷ l) at.is) same (record { parses = negative; leaf = refl })

negative_forth : {a : ℕ} {ts r : List Sign} {p : PatTree} → NoNumber ts → ParsesPat Single (Fixed a Minus ∷ ts) p r → ⊥
negative_forth none' (negative {b = b} {n = n}) = none' n _ (record { at = b; is = refl })
negative_forth none' (exn e) = nothing_there e

pub negative_none : (a : ℕ) (ts : List Sign) → NoNumber ts → NoPatLeaf (Fixed a Minus ∷ ts)
negative_none a ts none' p r q = negative_forth none' q

pub nil_leaf : (a : ℕ) (ts r : List Sign) (p : PatTree) → SymbolAt CloseSquare ts r → p ≡ PatNil a → PatLeafAt (Fixed a OpenSquare ∷ ts) p r
nil_leaf a ts r p at same = pat_leaf (ap (λ (l : List Sign). Fixed a OpenSquare ∷ l) at.is) same (record { parses = nil; leaf = refl })

nil_forth : {a : ℕ} {ts r : List Sign} {p : PatTree} → NoSymbol CloseSquare ts → ParsesPat Single (Fixed a OpenSquare ∷ ts) p r → ⊥
nil_forth none' (nil {b = b}) = none' _ (record { at = b; is = refl })
nil_forth none' (exn e) = nothing_there e

pub nil_none : (a : ℕ) (ts : List Sign) → NoSymbol CloseSquare ts → NoPatLeaf (Fixed a OpenSquare ∷ ts)
nil_none a ts none' p r q = nil_forth none' q

pub int_leaf : (n a : ℕ) (ts r : List Sign) (p : PatTree) → ts ≡ Int a n ∷ r → p ≡ PatInt a (pos n) → PatLeafAt ts p r
int_leaf n a ts r p is same = pat_leaf is same (record { parses = number; leaf = refl })

pub str_leaf : (text : Bytes) (a : ℕ) (ts r : List Sign) (p : PatTree) → ts ≡ Str a text ∷ r → p ≡ PatStr a text → PatLeafAt ts p r
str_leaf text a ts r p is same = pat_leaf is same (record { parses = string; leaf = refl })

base_at : (a : ℕ) (t : Symbol) (r : List Sign) (p : PatTree) → base_pat t a ≡ Some p → PatLeafAt (Fixed a t ∷ r) p r
base_at a Wild r p e = pat_leaf refl (some_eq (sym e)) (record { parses = wild; leaf = refl })
base_at a True r p e = pat_leaf refl (some_eq (sym e)) (record { parses = true_; leaf = refl })
base_at a False r p e = pat_leaf refl (some_eq (sym e)) (record { parses = false_; leaf = refl })
base_at a NoneWord r p e = pat_leaf refl (some_eq (sym e)) (record { parses = none; leaf = refl })
base_at a NotFound r p e = pat_leaf refl (some_eq (sym e)) (record { parses = exn refl; leaf = refl })
base_at a DivisionByZero r p e = pat_leaf refl (some_eq (sym e)) (record { parses = exn refl; leaf = refl })
base_at a MatchFailure r p e = pat_leaf refl (some_eq (sym e)) (record { parses = exn refl; leaf = refl })
base_at a EndOfFile r p e = pat_leaf refl (some_eq (sym e)) (record { parses = exn refl; leaf = refl })
base_at a t r p e = nothing_there e

pub base_leaf : (a : ℕ) (t : Symbol) (ts r : List Sign) (p q : PatTree) → ts ≡ Fixed a t ∷ r → base_pat t a ≡ Some p → q ≡ p → PatLeafAt ts q r
base_leaf a t ts r p q is e same = pat_leaf is same (base_at a t r p e)

exception_base : (a k : ℕ) (t : Symbol) → exception_sign t ≡ Some k → base_pat t a ≡ None → ⊥
exception_base a k NotFound e f = nothing_there (sym f)
exception_base a k DivisionByZero e f = nothing_there (sym f)
exception_base a k MatchFailure e f = nothing_there (sym f)
exception_base a k EndOfFile e f = nothing_there (sym f)
exception_base a k t e f = nothing_there e

base_forth : {a : ℕ} {t : Symbol} {ts us r : List Sign} {p : PatTree} → us ≡ Fixed a t ∷ ts → base_pat t a ≡ None → NoSymbol Open us → NoSymbol Minus us → NoSymbol OpenSquare us → ParsesPat Single (Fixed a t ∷ ts) p r → ⊥
base_forth is e no_open no_minus no_square wild = nothing_there (sym e)
base_forth is e no_open no_minus no_square true_ = nothing_there (sym e)
base_forth is e no_open no_minus no_square false_ = nothing_there (sym e)
base_forth is e no_open no_minus no_square none = nothing_there (sym e)
base_forth {a} is e no_open no_minus no_square (exn {t = t} f) = exception_base a _ t f e
base_forth {a} is e no_open no_minus no_square negative = no_minus _ (record { at = a; is = is })
base_forth {a} is e no_open no_minus no_square nil = no_square _ (record { at = a; is = is })
base_forth {a} is e no_open no_minus no_square unit = no_open _ (record { at = a; is = is })
base_forth {a} is e no_open no_minus no_square (var T) = no_open _ (record { at = a; is = is })
base_forth {a} is e no_open no_minus no_square (parens q) = no_open _ (record { at = a; is = is })
base_forth {a} is e no_open no_minus no_square (tuple q w) = no_open _ (record { at = a; is = is })

pub no_base_leaf : (a : ℕ) (t : Symbol) (ts r : List Sign) → ts ≡ Fixed a t ∷ r → base_pat t a ≡ None → NoSymbol Open ts → NoSymbol Minus ts → NoSymbol OpenSquare ts → NoPatLeaf ts
no_base_leaf a t ts r is e no_open no_minus no_square p s q = base_forth is e no_open no_minus no_square (pat_at (sym is) q)
