-- The steps of the parsers of atoms and sequences, over lists of signs.
use Rattle.std.proofs.Common.{◌≡◌, ◌<◌, ◌≤◌, ◌-◌, ℕ, max, List, [], ◌∷◌, ◌++◌, Some, None, refl, sym, ◌∙◌, ap, subst, arith}
use Rattle.std.specs.Prelude.{pos}
use Rattle.ac_types.proofs.FirstLaws.{some_eq}
use Rattle.ac_types.specs.Types.{Bytes}
use Rattle.ac_syntax.specs.Signs.{Sign, Int, Str, Lower, Upper, Fixed, Other, here}
use Rattle.ac_syntax.specs.Trees.{NameAt, TypeTree, PatTree, Tree, ExInt, ExStr, ExUnit, ExTuple, ExNil, ExAbsent, ExVar, ExOf, ExSeq, ExMatch, ExTry, Trees, tree, trees, ArmTrees, arm_tree, arm_trees, tree_height, highest, highest_arm}
use Rattle.ac_syntax.specs.TypeForms.{IsType}
use Rattle.ac_syntax.specs.Patterns.{exception_sign, IsPattern}
use Rattle.ac_syntax.specs.Expressions.{Expr, Part, Atom, Ending, Closed, Swallow, Parses, alone, sequence, number, string, true_, false_, unit, exn, var, of_module, parens, tuple, nil, none, match_with, try_with, ParsesParts, last_part, more_parts, ParsesItems, last_item, more_items, ParsesArms, last_arm, more_arms, front, looseness, Stops, IsTree}
use Rattle.ac_syntax.specs.PartParsing.{SymbolAt, NoSymbol}
use Rattle.ac_syntax.specs.declared.sign.Symbol.{Symbol}
use Rattle.ac_syntax.specs.declared.sign.Symbol.TheVariants.{Open, Close, OpenSquare, CloseSquare, Comma, Semicolon, Dot, Arrow, Bar, End, True, False, Match, Try, NoneWord, NotFound, DivisionByZero, MatchFailure, EndOfFile, Star, Slash, Mod, Plus, Minus, Caret, Cons, Equals, Less, And, Or}
use Rattle.ac_syntax.proofs.Exceptions.{nothing_there}
use Rattle.ac_syntax.proofs.UniqueTypes.{tail_eq}
use Rattle.ac_syntax.proofs.Fronts.{begins_not, front_positive, part_stops, semicolon_goes_on}
use Rattle.ac_syntax.proofs.UniqueExpressions.{unique, at_same}
use Rattle.ac_parser_expressions.specs.inner.Levels.{NoTree, base_expr, FormLeafAt, NoFormLeaf, IsLastPart, IsParts, sequence_tree, IsItems, tuple_tree, IsArm, IsArms, IsChoice}
use Rattle.ac_parser_patterns.proofs.PatSteps.{one_pattern}
use Rattle.ac_parser_patterns.specs.Reading.{Nothing}
use Rattle.ac_parser_patterns.specs.Pieces.{Before, Behind, last, more, Made, IsAscribed}
use Rattle.ac_parser_expressions.proofs.Levels.{one_tree, closed_atom}
use Rattle.ac_parser_patterns.proofs.Readers.{One, ManyRead, SoFar, start, next, ended, before, before_none, symbol_none, one_before, one_then, before_apart, next_read, next_none, all_read, chain_none}
use Rattle.ac_parser_expressions.proofs.Words.{expr_at}

-- the items of a tuple

record ItemsRead (D : ℕ) (ts : List Sign) (es : Trees) (s : List Sign) : Type 0 where
  list : List Tree
  is : es ≡ trees list
  read : IsItems D ts list s

items_forth : {D : ℕ} {ts s : List Sign} {es : Trees} → ParsesItems ts es s → highest es ≤ D → ItemsRead D ts es s
items_forth (last_item {a = a} {e = e} p) low = record {
  list = e ∷ [];
  is = refl;
  read = last (record { middle = _; first = record { ending = _; parses = p; stops = omega arith; low = omega arith }; at = record { at = a; is = refl } });
}
items_forth {D} (more_items {a = a} {e = e} {es = es} p q) low =
    let low' : highest es ≤ D = omega arith in
    let f = items_forth q low' in
    record {
      list = e ∷ f.list;
      is = ap (λ (l : Trees). tree e l) f.is;
      read = more (record { middle = _; first = record { ending = _; parses = p; stops = omega arith; low = omega arith }; at = record { at = a; is = refl } }) f.read;
    }

items_back : {D : ℕ} {ts s : List Sign} {list : List Tree} → IsItems D ts list s → ParsesItems ts (trees list) s
items_back (last b) = last_item (expr_at b)
items_back (more b c) = more_items (expr_at b) (items_back c)

items_low : (D : ℕ) {ts s : List Sign} {list : List Tree} → IsItems D ts list s → highest (trees list) ≤ D
items_low D (last {x = e} b) = let low : tree_height e ≤ D = b.first.low in omega arith
items_low D (more {x = e} b c) = let low : tree_height e ≤ D = b.first.low in let h = items_low D c in omega arith

-- the parts of a sequence

closed_by : (k : Ending) (a : ℕ) (ts : List Sign) → looseness Part k < front (Fixed a Semicolon ∷ ts) → k ≡ Closed
closed_by Closed a ts h = refl
closed_by Swallow a ts h = absurd (omega arith)

-- a part with a `;` behind it is closed
closed_part : {D : ℕ} {ts r behind : List Sign} {e : Tree} → (o : IsTree D Part ts e r) → (at : SymbolAt Semicolon r behind) → Parses Part Closed ts e (Fixed at.at Semicolon ∷ behind)
closed_part {ts = ts} {behind = behind} {e = e} o at =
    let p = subst (λ (l : List Sign). Parses Part o.ending ts e l) at.is o.parses in
    let h = subst (λ (l : List Sign). Stops Part o.ending l) at.is o.stops in
    subst (λ (k : Ending). Parses Part k ts e (Fixed at.at Semicolon ∷ behind)) (closed_by o.ending at.at behind h) p

record PartsRead (D : ℕ) (ts : List Sign) (es : Trees) (s : List Sign) : Type 0 where
  list : List Tree
  is : es ≡ trees list
  read : IsParts D ts list s

parts_forth : {D : ℕ} {k : Ending} {ts s : List Sign} {es : Trees} → ParsesParts k ts es s → 8 < front s → highest es ≤ D → PartsRead D ts es s
parts_forth (last_part {e = e} p) h low = record {
  list = e ∷ [];
  is = refl;
  read = last (record { is = record { ending = _; parses = p; stops = part_stops p h; low = omega arith }; ends = h });
}
parts_forth {D} (more_parts {a = a} {e = e} {es = es} p q) h low =
    let low' : highest es ≤ D = omega arith in
    let f = parts_forth q h low' in
    record {
      list = e ∷ f.list;
      is = ap (λ (l : Trees). tree e l) f.is;
      read = more (record { middle = _; first = record { ending = Closed; parses = p; stops = omega arith; low = omega arith }; at = record { at = a; is = refl } }) f.read;
    }

record PartsMade (ts : List Sign) (list : List Tree) (s : List Sign) : Type 0 where
  ending : Ending
  parses : ParsesParts ending ts (trees list) s
  ends : 8 < front s

parts_back : {D : ℕ} {ts s : List Sign} {list : List Tree} → IsParts D ts list s → PartsMade ts list s
parts_back (last l) = record { ending = l.is.ending; parses = last_part l.is.parses; ends = l.ends }
parts_back (more b c) = let f = parts_back c in record { ending = f.ending; parses = more_parts (closed_part b.first b.at) f.parses; ends = f.ends }

parts_low : (D : ℕ) {ts s : List Sign} {list : List Tree} → IsParts D ts list s → highest (trees list) ≤ D
parts_low D (last {x = e} l) = let low : tree_height e ≤ D = l.is.low in omega arith
parts_low D (more {x = e} b c) = let low : tree_height e ≤ D = b.first.low in let h = parts_low D c in omega arith

-- the items of a tuple and the parts of a sequence so far

comma_is_no_close : Comma ≡ Close → ⊥
comma_is_no_close e = cc

abbrev pub ItemsSoFar : ℕ → Tree → List Sign → List Tree → List Sign → Type 0
ItemsSoFar D = ManyRead (Before Comma (IsTree D Expr)) (Before Close (IsTree D Expr)) (IsTree D Expr)

pub second_item_none : (D : ℕ) (ts : List Sign) → NoTree D Expr ts → Nothing (IsItems D) ts
second_item_none D ts none' all s (last b) = none' _ _ b.first
second_item_none D ts none' all s (more b c) = none' _ _ b.first

pub second_part_none : (D : ℕ) (ts : List Sign) → NoTree D Part ts → Nothing (IsParts D) ts
second_part_none D ts none' all s (last l) = none' _ _ l.is
second_part_none D ts none' all s (more b c) = none' _ _ b.first

module _ (D : ℕ) (first : Tree) (ts : List Sign) (parts : List Tree) (rest : List Sign) (m : ItemsSoFar D first ts parts rest) where
  module _ (behind : List Sign) (comma : SymbolAt Comma rest behind) where
    no_last_item : (e : Tree) (s : List Sign) → Before Close (IsTree D Expr) m.from e s → ⊥
    no_last_item e s b = before_apart (one_tree D Expr) comma_is_no_close (before m.read comma) b

    pub item_none : NoTree D Expr behind → Nothing (IsItems D) ts
    item_none none' = next_none (one_before Comma (one_tree D Expr)) m no_last_item (before m.read comma) (before_none none') (before_none none')

    pub item_read : (e : Tree) (later : List Sign) (all : List Tree) → IsTree D Expr behind e later → all ≡ parts ++ e ∷ [] → ItemsSoFar D first ts all later
    item_read e later all q is = next_read (one_before Comma (one_tree D Expr)) m no_last_item (before m.read comma) q is

  pub unended_items : NoSymbol Comma rest → NoSymbol Close rest → Nothing (IsItems D) ts
  unended_items no_comma no_close = chain_none m.so (symbol_none (one_tree D Expr) m.read no_comma) (symbol_none (one_tree D Expr) m.read no_close)

  pub all_items : (at : ℕ) (e : Tree) (s : List Sign) → SymbolAt Close rest s → e ≡ ExTuple at (trees parts) → Made (IsItems D) (tuple_tree at first) ts e s
  all_items at e s close is = let a = all_read m (before m.read close) in record { parts = a.others; is = is ∙ ap (λ (l : List Tree). ExTuple at (trees l)) a.is; read = a.read }

abbrev pub PartsSoFar : ℕ → Tree → List Sign → List Tree → List Sign → Type 0
PartsSoFar D = ManyRead (Before Semicolon (IsTree D Part)) (IsLastPart D) (IsTree D Part)

highest_more : (es : List Tree) (e : Tree) → highest (trees (es ++ e ∷ [])) ≡ max (highest (trees es)) (tree_height e)
highest_more [] e = omega arith
highest_more (f ∷ es) e = let h = highest_more es e in omega arith

pub highest_next : (es : List Tree) (e : Tree) (all : List Tree) (n m k : ℕ) → all ≡ es ++ e ∷ [] → n ≡ highest (trees es) → m ≡ tree_height e → k ≡ max n m → k ≡ highest (trees all)
highest_next es e all n m k is n_is m_is k_is = omega (arith, ap (λ (l : List Tree). highest (trees l)) is, highest_more es e)

-- where no `;` stands behind a part, an expression ends there

behind_part : (k : Ending) (ts : List Sign) → looseness Part k < front ts → 7 < front ts
behind_part Closed ts h = h
behind_part Swallow ts h = omega arith

past_symbol : (a : ℕ) (t : Symbol) (ts : List Sign) → 7 < front (Fixed a t ∷ ts) → NoSymbol Semicolon (Fixed a t ∷ ts) → 8 < front (Fixed a t ∷ ts)
past_symbol a Semicolon ts h none' = absurd (none' ts (record { at = a; is = refl }))
past_symbol a Star ts h none' = omega arith
past_symbol a Slash ts h none' = omega arith
past_symbol a Mod ts h none' = omega arith
past_symbol a Plus ts h none' = omega arith
past_symbol a Minus ts h none' = omega arith
past_symbol a Caret ts h none' = omega arith
past_symbol a Cons ts h none' = omega arith
past_symbol a Equals ts h none' = omega arith
past_symbol a Less ts h none' = omega arith
past_symbol a And ts h none' = omega arith
past_symbol a Or ts h none' = omega arith
past_symbol a t ts h none' = omega arith

past_part : (ts : List Sign) → 7 < front ts → NoSymbol Semicolon ts → 8 < front ts
past_part [] h none' = omega arith
past_part (Int a n ∷ ts) h none' = omega arith
past_part (Str a x ∷ ts) h none' = omega arith
past_part (Lower a x ∷ ts) h none' = omega arith
past_part (Upper a x ∷ ts) h none' = omega arith
past_part (Other a ∷ ts) h none' = omega arith
past_part (Fixed a t ∷ ts) h none' = past_symbol a t ts h none'

pub last_of : (D : ℕ) (ts s : List Sign) (e : Tree) → IsTree D Part ts e s → NoSymbol Semicolon s → IsLastPart D ts e s
last_of D ts s e o none' = record { is = o; ends = past_part s (behind_part o.ending s o.stops) none' }

pub alone_tree : (D : ℕ) (ts s : List Sign) (e : Tree) → IsTree D Part ts e s → NoSymbol Semicolon s → IsTree D Expr ts e s
alone_tree D ts s e o none' = record { ending = o.ending; parses = alone o.parses; stops = past_part s (behind_part o.ending s o.stops) none'; low = o.low }

-- a part in front of a `;` is no last part
pub no_last : (D : ℕ) (ts r behind : List Sign) (e : Tree) → IsTree D Part ts e r → SymbolAt Semicolon r behind → (f : Tree) (s : List Sign) → IsLastPart D ts f s → ⊥
no_last D ts r behind e o at f s l = let d = unique o.parses l.is.parses o.stops l.is.stops in semicolon_goes_on s behind (sym d.rest ∙ at.is) l.ends

pub last_none : (D : ℕ) (ts : List Sign) → NoTree D Part ts → Nothing (IsLastPart D) ts
last_none D ts none' e s l = none' e s l.is

module _ (D : ℕ) (first : Tree) (ts : List Sign) (parts : List Tree) (rest : List Sign) (m : PartsSoFar D first ts parts rest) where
  module _ (behind : List Sign) (semicolon : SymbolAt Semicolon rest behind) where
    pub next_part_none : NoTree D Part behind → Nothing (IsParts D) ts
    next_part_none none' = next_none (one_before Semicolon (one_tree D Part)) m (no_last D _ _ _ _ m.read semicolon) (before m.read semicolon) (before_none none') (last_none D behind none')

    pub next_part : (e : Tree) (later : List Sign) (all : List Tree) → IsTree D Part behind e later → all ≡ parts ++ e ∷ [] → PartsSoFar D first ts all later
    next_part e later all q is = next_read (one_before Semicolon (one_tree D Part)) m (no_last D _ _ _ _ m.read semicolon) (before m.read semicolon) q is

  pub all_parts : (at : ℕ) (e : Tree) → NoSymbol Semicolon rest → e ≡ ExSeq at (trees parts) → Made (IsParts D) (sequence_tree at first) ts e rest
  all_parts at e no_semicolon is = let a = all_read m (last_of D _ _ _ m.read no_semicolon) in record { parts = a.others; is = is ∙ ap (λ (l : List Tree). ExSeq at (trees l)) a.is; read = a.read }

record FirstPart (D : ℕ) (ts : List Sign) : Type 0 where
  e : Tree
  r : List Sign
  tree : IsTree D Part ts e r

first_of : {D : ℕ} {k : Ending} {ts s : List Sign} {e : Tree} → Parses Expr k ts e s → 8 < front s → tree_height e ≤ D → FirstPart D ts
first_of (alone p) h low = record { e = _; r = _; tree = record { ending = _; parses = p; stops = part_stops p h; low = low } }
first_of (sequence p q) h low = record { e = _; r = _; tree = record { ending = Closed; parses = p; stops = omega arith; low = omega arith } }

pub part_none : (D : ℕ) (ts : List Sign) → NoTree D Part ts → NoTree D Expr ts
part_none D ts none' e s o = let f = first_of o.parses o.stops o.low in none' f.e f.r f.tree

record BehindFirst (k : Ending) (at : ℕ) (a : Tree) (behind : List Sign) (e : Tree) (s : List Sign) : Type 0 where
  es : Trees
  is : e ≡ ExSeq at (tree a es)
  parses : ParsesParts k behind es s

parts_at : {k : Ending} {r s t : List Sign} {es : Trees} → r ≡ s → ParsesParts k s es t → ParsesParts k r es t
parts_at {k} {r} {s} {t} {es} e p = subst (λ (u : List Sign). ParsesParts k u es t) (sym e) p

behind_first : {D : ℕ} {k : Ending} {ts r behind s : List Sign} {a e : Tree} → IsTree D Part ts a r → SymbolAt Semicolon r behind → Parses Expr k ts e s → 8 < front s → BehindFirst k (here ts) a behind e s
behind_first o at (alone p) h = let d = unique o.parses p o.stops (part_stops p h) in semicolon_goes_on _ _ (sym d.rest ∙ at.is) h
behind_first {ts = ts} o at (sequence {es = es} p q) h =
    let d = unique o.parses p o.stops (omega arith) in
    record { es = es; is = ap (λ (x : Tree). ExSeq (here ts) (tree x es)) (sym d.tree); parses = parts_at (tail_eq (sym at.is ∙ d.rest)) q }

module _ (D : ℕ) (ts r behind : List Sign) (a : Tree) (o : IsTree D Part ts a r) (at : SymbolAt Semicolon r behind) where
  pub sequence_high : D ≤ tree_height a → NoTree D Expr ts
  sequence_high high e s w =
      let n = behind_first o at w.parses w.stops in
      let low : tree_height e ≤ D = w.low in
      absurd (omega (arith, ap tree_height n.is))

  pub sequence_none : Nothing (IsParts (D - 1)) behind → NoTree D Expr ts
  sequence_none none' e s w =
      let n = behind_first o at w.parses w.stops in
      let low : tree_height e ≤ D = w.low in
      let low' : highest n.es ≤ D - 1 = omega (arith, ap tree_height n.is) in
      let f = parts_forth n.parses w.stops low' in
      none' f.list s f.read

  pub sequence_made : (e : Tree) (s : List Sign) → tree_height a < D → Made (IsParts (D - 1)) (sequence_tree (here ts) a) behind e s → IsTree D Expr ts e s
  sequence_made e s h m =
      let f = parts_back m.read in
      record {
        ending = f.ending;
        parses = subst (λ (x : Tree). Parses Expr f.ending ts x s) (sym m.is) (sequence (closed_part o at) f.parses);
        stops = f.ends;
        low = let low = parts_low (D - 1) m.read in omega (arith, ap tree_height m.is);
      }

-- arms

record ArmsRead (D : ℕ) (ts : List Sign) (arms : ArmTrees) (s : List Sign) : Type 0 where
  list : List (PatTree × Tree)
  is : arms ≡ arm_trees list
  read : IsArms D ts list s

arms_forth : {D : ℕ} {ts s : List Sign} {arms : ArmTrees} → ParsesArms ts arms s → highest_arm arms ≤ D → ArmsRead D ts arms s
arms_forth (last_arm {a = a} {b = b} {p = p} {e = e} P q) low = record {
  list = (p, e) ∷ [];
  is = refl;
  read = last (record {
    middle = _;
    first = record { middle = _; first = record { middle = _; first = P; at = record { at = a; is = refl } }; second = record { ending = _; parses = q; stops = omega arith; low = omega arith } };
    at = record { at = b; is = refl };
  });
}
arms_forth {D} (more_arms {a = a} {b = b} {p = p} {e = e} {arms = arms} P q w) low =
    let low' : highest_arm arms ≤ D = omega arith in
    let f = arms_forth w low' in
    record {
      list = (p, e) ∷ f.list;
      is = ap (λ (l : ArmTrees). arm_tree p e l) f.is;
      read = more (record {
        middle = _;
        first = record { middle = _; first = record { middle = _; first = P; at = record { at = a; is = refl } }; second = record { ending = _; parses = q; stops = omega arith; low = omega arith } };
        at = record { at = b; is = refl };
      }) f.read;
    }

pattern_at : {t : Symbol} {ts s : List Sign} {p : PatTree} → (b : Before t IsPattern ts p s) → IsPattern ts p (Fixed b.at.at t ∷ s)
pattern_at {ts = ts} {p = p} b = subst (λ (l : List Sign). IsPattern ts p l) b.at.is b.first

body_at : {D : ℕ} {t : Symbol} {ts s : List Sign} {x : PatTree × Tree} → (b : Before t (IsArm D) ts x s) → Parses Expr b.first.second.ending b.first.middle x.1 (Fixed b.at.at t ∷ s)
body_at {x = x} b = subst (λ (l : List Sign). Parses Expr b.first.second.ending b.first.middle x.1 l) b.at.is b.first.second.parses

arms_back : {D : ℕ} {ts s : List Sign} {list : List (PatTree × Tree)} → IsArms D ts list s → ParsesArms ts (arm_trees list) s
arms_back (last b) = last_arm (pattern_at b.first.first) (body_at b)
arms_back (more b c) = more_arms (pattern_at b.first.first) (body_at b) (arms_back c)

arms_low : (D : ℕ) {ts s : List Sign} {list : List (PatTree × Tree)} → IsArms D ts list s → highest_arm (arm_trees list) ≤ D
arms_low D (last {x = x} b) = let low : tree_height x.1 ≤ D = b.first.second.low in omega arith
arms_low D (more {x = x} b c) = let low : tree_height x.1 ≤ D = b.first.second.low in let h = arms_low D c in omega arith

pub one_arm : (D : ℕ) → One (IsArm D)
one_arm D = one_then (one_before Arrow one_pattern) (one_tree D Expr)

bar_is_no_end : Bar ≡ End → ⊥
bar_is_no_end e = cc

-- arms so far, the last of them in front of the rest
pub record ArmsSoFar (D : ℕ) (ts : List Sign) (arms : List (PatTree × Tree)) (rest : List Sign) : Type 0 where
  pub done : List (PatTree × Tree)
  pub from : List Sign
  pub so : SoFar (Before Bar (IsArm D)) (Before End (IsArm D)) ts done from
  pub item : PatTree × Tree
  pub read : IsArm D from item rest
  pub is : arms ≡ done ++ item ∷ []

pub arms_none : (D : ℕ) (ts : List Sign) → Nothing (IsArm D) ts → Nothing (IsArms D) ts
arms_none D ts none' all s (last b) = none' _ _ b.first
arms_none D ts none' all s (more b c) = none' _ _ b.first

pub first_arm : (D : ℕ) (ts rest : List Sign) (x : PatTree × Tree) (arms : List (PatTree × Tree)) → IsArm D ts x rest → arms ≡ x ∷ [] → ArmsSoFar D ts arms rest
first_arm D ts rest x arms p is = record { done = []; from = ts; so = start (Before Bar (IsArm D)) (Before End (IsArm D)) ts; item = x; read = p; is = is }

module _ (D : ℕ) (ts : List Sign) (arms : List (PatTree × Tree)) (rest : List Sign) (m : ArmsSoFar D ts arms rest) where
  module _ (behind : List Sign) (bar : SymbolAt Bar rest behind) where
    no_last_arm : (x : PatTree × Tree) (s : List Sign) → Before End (IsArm D) m.from x s → ⊥
    no_last_arm x s b = before_apart (one_arm D) bar_is_no_end (before m.read bar) b

    pub next_arm_none : Nothing (IsArm D) behind → Nothing (IsArms D) ts
    next_arm_none none' = chain_none (next (one_before Bar (one_arm D)) no_last_arm m.so (before m.read bar)) (before_none none') (before_none none')

    pub next_arm : (x : PatTree × Tree) (later : List Sign) (all : List (PatTree × Tree)) → IsArm D behind x later → all ≡ arms ++ x ∷ [] → ArmsSoFar D ts all later
    next_arm x later all p is = record { done = m.done ++ m.item ∷ []; from = behind; so = next (one_before Bar (one_arm D)) no_last_arm m.so (before m.read bar); item = x; read = p; is = is ∙ ap (λ l. l ++ x ∷ []) m.is }

  pub unended_arms : NoSymbol Bar rest → NoSymbol End rest → Nothing (IsArms D) ts
  unended_arms no_bar no_end = chain_none m.so (symbol_none (one_arm D) m.read no_bar) (symbol_none (one_arm D) m.read no_end)

  pub all_arms : (s : List Sign) → SymbolAt End rest s → IsArms D ts arms s
  all_arms s end = subst (λ (l : List (PatTree × Tree)). IsArms D ts l s) (sym m.is) (ended m.so (before m.read end))

highest_arm_more : (xs : List (PatTree × Tree)) (x : PatTree × Tree) → highest_arm (arm_trees (xs ++ x ∷ [])) ≡ max (highest_arm (arm_trees xs)) (tree_height x.1)
highest_arm_more [] x = omega arith
highest_arm_more (y ∷ xs) x = let h = highest_arm_more xs x in omega arith

pub highest_next_arm : (xs : List (PatTree × Tree)) (x : PatTree × Tree) (all : List (PatTree × Tree)) (n m k : ℕ) → all ≡ xs ++ x ∷ [] → n ≡ highest_arm (arm_trees xs) → m ≡ tree_height x.1 → k ≡ max n m → k ≡ highest_arm (arm_trees all)
highest_next_arm xs x all n m k is n_is m_is k_is = omega (arith, ap (λ (l : List (PatTree × Tree)). highest_arm (arm_trees l)) is, highest_arm_more xs x)

-- `match` and `try`

record MatchRead (D at : ℕ) (ts : List Sign) (e : Tree) (s : List Sign) : Type 0 where
  of : Tree
  arms : List (PatTree × Tree)
  is : e ≡ ExMatch at of (arm_trees arms)
  read : IsChoice D ts (of, arms) s

match_forth : {D at : ℕ} {j : Ending} {ts s : List Sign} {e : Tree} → Parses Atom j (Fixed at Match ∷ ts) e s → tree_height e ≤ D → MatchRead (D - 1) at ts e s
match_forth {D} {at} (match_with {q = q} {e = of} {arms = arms} p w) low =
    let low' : highest_arm arms ≤ D - 1 = omega arith in
    let f = arms_forth w low' in
    record {
      of = of;
      arms = f.list;
      is = ap (λ (l : ArmTrees). ExMatch at of l) f.is;
      read = record { middle = _; first = record { middle = _; first = record { ending = _; parses = p; stops = omega arith; low = omega arith }; at = record { at = q; is = refl } }; second = f.read };
    }
match_forth (exn e) low = nothing_there e

record TryRead (D at : ℕ) (ts : List Sign) (e : Tree) (s : List Sign) : Type 0 where
  of : Tree
  arms : List (PatTree × Tree)
  is : e ≡ ExTry at of (arm_trees arms)
  read : IsChoice D ts (of, arms) s

try_forth : {D at : ℕ} {j : Ending} {ts s : List Sign} {e : Tree} → Parses Atom j (Fixed at Try ∷ ts) e s → tree_height e ≤ D → TryRead (D - 1) at ts e s
try_forth {D} {at} (try_with {q = q} {e = of} {arms = arms} p w) low =
    let low' : highest_arm arms ≤ D - 1 = omega arith in
    let f = arms_forth w low' in
    record {
      of = of;
      arms = f.list;
      is = ap (λ (l : ArmTrees). ExTry at of l) f.is;
      read = record { middle = _; first = record { middle = _; first = record { ending = _; parses = p; stops = omega arith; low = omega arith }; at = record { at = q; is = refl } }; second = f.read };
    }
try_forth (exn e) low = nothing_there e

module _ (D : ℕ) (ts behind : List Sign) (pos' : 0 < D) where
  pub match_none : SymbolAt Match ts behind → Nothing (IsChoice (D - 1)) behind → NoTree D Atom ts
  match_none w none' e s o = let f = match_forth (at_same (sym w.is) o.parses) o.low in none' (f.of, f.arms) s f.read

  pub try_none : SymbolAt Try ts behind → Nothing (IsChoice (D - 1)) behind → NoTree D Atom ts
  try_none w none' e s o = let f = try_forth (at_same (sym w.is) o.parses) o.low in none' (f.of, f.arms) s f.read

  module _ (at : ℕ) (of e : Tree) (arms : List (PatTree × Tree)) (s : List Sign) (place : at ≡ here ts) (c : IsChoice (D - 1) behind (of, arms) s) where
    choice_low : tree_height of ≤ D - 1
    choice_low = c.first.first.low

    pub match_tree : SymbolAt Match ts behind → e ≡ ExMatch at of (arm_trees arms) → IsTree D Atom ts e s
    match_tree w is = record {
      ending = Closed;
      parses = at_same w.is (subst (λ (x : Tree). Parses Atom Closed (Fixed w.at Match ∷ behind) x s) (sym (is ∙ ap (λ (n : ℕ). ExMatch n of (arm_trees arms)) (place ∙ ap here w.is))) (match_with (expr_at c.first) (arms_back c.second)));
      stops = front_positive s;
      low = let low = arms_low (D - 1) c.second in let low' = choice_low in omega (arith, ap tree_height is);
    }

    pub try_tree : SymbolAt Try ts behind → e ≡ ExTry at of (arm_trees arms) → IsTree D Atom ts e s
    try_tree w is = record {
      ending = Closed;
      parses = at_same w.is (subst (λ (x : Tree). Parses Atom Closed (Fixed w.at Try ∷ behind) x s) (sym (is ∙ ap (λ (n : ℕ). ExTry n of (arm_trees arms)) (place ∙ ap here w.is))) (try_with (expr_at c.first) (arms_back c.second)));
      stops = front_positive s;
      low = let low = arms_low (D - 1) c.second in let low' = choice_low in omega (arith, ap tree_height is);
    }

-- what stands in parentheses

atom_at : {at : ℕ} {ts us s : List Sign} {e f : Tree} → ts ≡ us → e ≡ f → Parses Atom Closed (Fixed at Open ∷ us) f s → Parses Atom Closed (Fixed at Open ∷ ts) e s
atom_at {at} {ts} {us} {s} {e} {f} place same p = at_same (ap (λ (l : List Sign). Fixed at Open ∷ l) place) (subst (λ (x : Tree). Parses Atom Closed (Fixed at Open ∷ us) x s) (sym same) p)

pub unit_tree : (D at : ℕ) (ts s : List Sign) (e : Tree) → 0 < D → SymbolAt Close ts s → e ≡ ExUnit at → IsTree D Atom (Fixed at Open ∷ ts) e s
unit_tree D at ts s e pos' w is = record { ending = Closed; parses = atom_at w.is is unit; stops = front_positive s; low = omega (arith, ap tree_height is) }

ascribed_at : {t : Symbol} {ts s : List Sign} {T : TypeTree} → (a : IsAscribed t ts T s) → IsType a.middle T (Fixed a.then.at.at t ∷ s)
ascribed_at {T = T} a = subst (λ (l : List Sign). IsType a.middle T l) a.then.at.is a.then.first

pub nil_tree : (D at : ℕ) (ts us vs s : List Sign) (T : TypeTree) (e : Tree) → 0 < D → SymbolAt OpenSquare ts us → SymbolAt CloseSquare us vs → IsAscribed Close vs T s → e ≡ ExNil at T → IsTree D Atom (Fixed at Open ∷ ts) e s
nil_tree D at ts us vs s T e pos' v w a is = record {
  ending = Closed;
  parses = atom_at (v.is ∙ ap (λ (l : List Sign). Fixed v.at OpenSquare ∷ l) (w.is ∙ ap (λ (l : List Sign). Fixed w.at CloseSquare ∷ l) a.at.is)) is (nil (ascribed_at a));
  stops = front_positive s;
  low = omega (arith, ap tree_height is);
}

nil_forth : {at q : ℕ} {j : Ending} {ts s : List Sign} {e : Tree} → Nothing (Behind CloseSquare (IsAscribed Close)) ts → Parses Atom j (Fixed at Open ∷ Fixed q OpenSquare ∷ ts) e s → ⊥
nil_forth none' (nil {c = c} {d = d} {f = f} {T = T} t) =
    none' T _ (record { middle = _; at = record { at = c; is = refl }; then = record { middle = _; at = record { at = d; is = refl }; then = record { middle = _; first = t; at = record { at = f; is = refl } } } })
nil_forth none' (exn e) = nothing_there e
nil_forth none' (parens p) = begins_not p (omega arith)
nil_forth none' (tuple p q) = begins_not p (omega arith)

pub nil_none : (D at : ℕ) (ts us : List Sign) → SymbolAt OpenSquare ts us → Nothing (Behind CloseSquare (IsAscribed Close)) us → NoTree D Atom (Fixed at Open ∷ ts)
nil_none D at ts us w none' e s o = nil_forth none' (at_same (sym (ap (λ (l : List Sign). Fixed at Open ∷ l) w.is)) o.parses)

pub absent_tree : (D at : ℕ) (ts us s : List Sign) (T : TypeTree) (e : Tree) → 0 < D → SymbolAt NoneWord ts us → IsAscribed Close us T s → e ≡ ExAbsent at T → IsTree D Atom (Fixed at Open ∷ ts) e s
absent_tree D at ts us s T e pos' v a is = record {
  ending = Closed;
  parses = atom_at (v.is ∙ ap (λ (l : List Sign). Fixed v.at NoneWord ∷ l) a.at.is) is (none (ascribed_at a));
  stops = front_positive s;
  low = omega (arith, ap tree_height is);
}

absent_forth : {at q : ℕ} {j : Ending} {ts s : List Sign} {e : Tree} → Nothing (IsAscribed Close) ts → Parses Atom j (Fixed at Open ∷ Fixed q NoneWord ∷ ts) e s → ⊥
absent_forth none' (none {d = d} {f = f} {T = T} t) =
    none' T _ (record { middle = _; at = record { at = d; is = refl }; then = record { middle = _; first = t; at = record { at = f; is = refl } } })
absent_forth none' (exn e) = nothing_there e
absent_forth none' (parens p) = begins_not p (omega arith)
absent_forth none' (tuple p q) = begins_not p (omega arith)

pub absent_none : (D at : ℕ) (ts us : List Sign) → SymbolAt NoneWord ts us → Nothing (IsAscribed Close) us → NoTree D Atom (Fixed at Open ∷ ts)
absent_none D at ts us w none' e s o = absent_forth none' (at_same (sym (ap (λ (l : List Sign). Fixed at Open ∷ l) w.is)) o.parses)

data Inside (at : ℕ) (ts : List Sign) (e : Tree) (s : List Sign) : Type 0 where
  closed : (k : Ending) (b : ℕ) → Parses Expr k ts e (Fixed b Close ∷ s) → Inside at ts e s
  several : (k : Ending) (first : Tree) (es : Trees) (b : ℕ) (r : List Sign) → Parses Expr k ts first (Fixed b Comma ∷ r) → ParsesItems r es s → e ≡ ExTuple at (tree first es) → Inside at ts e s

inside : {at : ℕ} {j : Ending} {ts s : List Sign} {e : Tree} → NoSymbol Close ts → NoSymbol OpenSquare ts → NoSymbol NoneWord ts → Parses Atom j (Fixed at Open ∷ ts) e s → Inside at ts e s
inside no_close no_square no_none (unit {q = q}) = absurd (no_close _ (record { at = q; is = refl }))
inside no_close no_square no_none (nil {q = q} T) = absurd (no_square _ (record { at = q; is = refl }))
inside no_close no_square no_none (none {q = q} T) = absurd (no_none _ (record { at = q; is = refl }))
inside no_close no_square no_none (exn e) = nothing_there e
inside no_close no_square no_none (parens {k = k} {q = q} p) = closed k q p
inside no_close no_square no_none (tuple {k = k} {q = q} {e = e} {es = es} {r = r} p w) = several k e es q r p w refl

module _ (D at : ℕ) (ts : List Sign) (no_close : NoSymbol Close ts) (no_square : NoSymbol OpenSquare ts) (no_none : NoSymbol NoneWord ts) where
  inner_none : {e : Tree} {s : List Sign} → NoTree D Expr ts → tree_height e ≤ D → Inside at ts e s → ⊥
  inner_none none' low (closed k b p) = none' _ _ (record { ending = k; parses = p; stops = omega arith; low = low })
  inner_none none' low (several k first es b r p w is) = none' _ _ (record { ending = k; parses = p; stops = omega arith; low = omega (arith, ap tree_height is) })

  pub opened_none : NoTree D Expr ts → NoTree D Atom (Fixed at Open ∷ ts)
  opened_none none' e s o = inner_none none' o.low (inside no_close no_square no_none o.parses)

  module _ (first : Tree) (r : List Sign) (o : IsTree D Expr ts first r) where
    neither : {e : Tree} {s : List Sign} → NoSymbol Close r → NoSymbol Comma r → Inside at ts e s → ⊥
    neither no_end no_comma (closed k b p) = no_end _ (record { at = b; is = (unique o.parses p o.stops (omega arith)).rest })
    neither no_end no_comma (several k f es b rest p w is) = no_comma _ (record { at = b; is = (unique o.parses p o.stops (omega arith)).rest })

    pub unclosed_none : NoSymbol Close r → NoSymbol Comma r → NoTree D Atom (Fixed at Open ∷ ts)
    unclosed_none no_end no_comma e s w = neither no_end no_comma (inside no_close no_square no_none w.parses)

    pub parens_tree : (s : List Sign) → SymbolAt Close r s → IsTree D Atom (Fixed at Open ∷ ts) first s
    parens_tree s c = record {
      ending = Closed;
      parses = parens (subst (λ (l : List Sign). Parses Expr o.ending ts first l) c.is o.parses);
      stops = front_positive s;
      low = o.low;
    }

    module _ (behind : List Sign) (no_end : NoSymbol Close r) (comma : SymbolAt Comma r behind) where
      record Several (e : Tree) (s : List Sign) : Type 0 where
        es : Trees
        parses : ParsesItems behind es s
        is : e ≡ ExTuple at (tree first es)

      several_of : {e : Tree} {s : List Sign} → Inside at ts e s → Several e s
      several_of (closed k b p) = absurd (no_end _ (record { at = b; is = (unique o.parses p o.stops (omega arith)).rest }))
      several_of {e} {s} (several k f es b rest p w is) =
          let d = unique o.parses p o.stops (omega arith) in
          record {
            es = es;
            parses = subst (λ (l : List Sign). ParsesItems l es s) (tail_eq (sym d.rest ∙ comma.is)) w;
            is = is ∙ ap (λ (x : Tree). ExTuple at (tree x es)) (sym d.tree);
          }

      pub tuple_high : D ≤ tree_height first → NoTree D Atom (Fixed at Open ∷ ts)
      tuple_high high e s w =
          let f = several_of (inside no_close no_square no_none w.parses) in
          let low : tree_height e ≤ D = w.low in
          absurd (omega (arith, ap tree_height f.is))

      pub tuple_none : Nothing (IsItems (D - 1)) behind → NoTree D Atom (Fixed at Open ∷ ts)
      tuple_none none' e s w =
          let f = several_of (inside no_close no_square no_none w.parses) in
          let low : tree_height e ≤ D = w.low in
          let low' : highest f.es ≤ D - 1 = omega (arith, ap tree_height f.is) in
          let g = items_forth f.parses low' in
          none' g.list s g.read

      pub tuple_made : (e : Tree) (s : List Sign) → tree_height first < D → Made (IsItems (D - 1)) (tuple_tree at first) behind e s → IsTree D Atom (Fixed at Open ∷ ts) e s
      tuple_made e s h m = record {
        ending = Closed;
        parses =
            subst (λ (x : Tree). Parses Atom Closed (Fixed at Open ∷ ts) x s) (sym m.is)
            (tuple (subst (λ (l : List Sign). Parses Expr o.ending ts first l) comma.is o.parses) (items_back m.read));
        stops = front_positive s;
        low = let low = items_low (D - 1) m.read in omega (arith, ap tree_height m.is);
      }

-- leaves

pub leaf_tree : (D : ℕ) (ts r : List Sign) (e : Tree) → 0 < D → FormLeafAt ts e r → IsTree D Atom ts e r
leaf_tree D ts r e h at = record { ending = Closed; parses = at.parses; stops = front_positive r; low = omega (arith, at.leaf) }

pub leaf_none : (D : ℕ) (ts : List Sign) → NoFormLeaf ts → NoTree D Atom ts
leaf_none D ts none' e s o = none' e s (closed_atom o.parses)

leaf_at : {ts us r : List Sign} {e f : Tree} → ts ≡ us → e ≡ f → FormLeafAt us f r → FormLeafAt ts e r
leaf_at {ts} {us} {r} {e} {f} is same at = subst (λ (l : List Sign). FormLeafAt l e r) (sym is) (subst (λ (x : Tree). FormLeafAt us x r) (sym same) at)

pub int_leaf : (n a : ℕ) (ts r : List Sign) (e : Tree) → ts ≡ Int a n ∷ r → e ≡ ExInt a (pos n) → FormLeafAt ts e r
int_leaf n a ts r e is same = leaf_at is same (record { parses = number; leaf = refl })

pub str_leaf : (text : Bytes) (a : ℕ) (ts r : List Sign) (e : Tree) → ts ≡ Str a text ∷ r → e ≡ ExStr a text → FormLeafAt ts e r
str_leaf text a ts r e is same = leaf_at is same (record { parses = string; leaf = refl })

pub var_leaf : (w : Bytes) (a : ℕ) (ts r : List Sign) (e : Tree) → ts ≡ Lower a w ∷ r → e ≡ ExVar a w → FormLeafAt ts e r
var_leaf w a ts r e is same = leaf_at is same (record { parses = var; leaf = refl })

pub field_leaf : (w : Bytes) (a : ℕ) (x : NameAt) (ts us r : List Sign) (e : Tree) → SymbolAt Dot ts us → us ≡ Lower x.at x.word ∷ r → e ≡ ExOf a (record { at = a; word = w }) x → FormLeafAt (Upper a w ∷ ts) e r
field_leaf w a x ts us r e dot name same = leaf_at (ap (λ (l : List Sign). Upper a w ∷ l) (dot.is ∙ ap (λ (l : List Sign). Fixed dot.at Dot ∷ l) name)) same (record { parses = of_module; leaf = refl })

field_forth : {a : ℕ} {w : Bytes} {ts s : List Sign} {e : Tree} → ((x : NameAt) (q : ℕ) (r : List Sign) → ts ≡ Fixed q Dot ∷ Lower x.at x.word ∷ r → ⊥) → Parses Atom Closed (Upper a w ∷ ts) e s → ⊥
field_forth none' (of_module {q = q} {c = c} {x = x}) = none' (record { at = c; word = x }) q _ refl

pub undotted_none : (w : Bytes) (a : ℕ) (ts : List Sign) → NoSymbol Dot ts → NoFormLeaf (Upper a w ∷ ts)
undotted_none w a ts none' e s p = field_forth (λ x q r is. none' _ (record { at = q; is = is })) p

pub unnamed_none : (w : Bytes) (a : ℕ) (ts us : List Sign) → SymbolAt Dot ts us → ((x : NameAt) (r : List Sign) → us ≡ Lower x.at x.word ∷ r → ⊥) → NoFormLeaf (Upper a w ∷ ts)
unnamed_none w a ts us dot none' e s p = field_forth (λ x q r is. none' x r (tail_eq (sym dot.is ∙ is))) p

pub upper_leaf : (w : Bytes) (a : ℕ) (ts us r : List Sign) (e : Tree) → ts ≡ Upper a w ∷ us → FormLeafAt (Upper a w ∷ us) e r → FormLeafAt ts e r
upper_leaf w a ts us r e is at = leaf_at is refl at

base_at : (a : ℕ) (t : Symbol) (r : List Sign) (e : Tree) → base_expr t a ≡ Some e → FormLeafAt (Fixed a t ∷ r) e r
base_at a True r e is = leaf_at refl (some_eq (sym is)) (record { parses = true_; leaf = refl })
base_at a False r e is = leaf_at refl (some_eq (sym is)) (record { parses = false_; leaf = refl })
base_at a NotFound r e is = leaf_at refl (some_eq (sym is)) (record { parses = exn refl; leaf = refl })
base_at a DivisionByZero r e is = leaf_at refl (some_eq (sym is)) (record { parses = exn refl; leaf = refl })
base_at a MatchFailure r e is = leaf_at refl (some_eq (sym is)) (record { parses = exn refl; leaf = refl })
base_at a EndOfFile r e is = leaf_at refl (some_eq (sym is)) (record { parses = exn refl; leaf = refl })
base_at a t r e is = nothing_there is

pub base_leaf : (a : ℕ) (t : Symbol) (ts r : List Sign) (e f : Tree) → ts ≡ Fixed a t ∷ r → base_expr t a ≡ Some e → f ≡ e → FormLeafAt ts f r
base_leaf a t ts r e f is made same = leaf_at is same (base_at a t r e made)

exception_base : (a k : ℕ) (t : Symbol) → exception_sign t ≡ Some k → base_expr t a ≡ None → ⊥
exception_base a k NotFound e f = nothing_there (sym f)
exception_base a k DivisionByZero e f = nothing_there (sym f)
exception_base a k MatchFailure e f = nothing_there (sym f)
exception_base a k EndOfFile e f = nothing_there (sym f)
exception_base a k t e f = nothing_there e

base_forth : {a : ℕ} {t : Symbol} {ts us s : List Sign} {e : Tree} → us ≡ Fixed a t ∷ ts → base_expr t a ≡ None → NoSymbol Open us → NoSymbol Match us → NoSymbol Try us → Parses Atom Closed (Fixed a t ∷ ts) e s → ⊥
base_forth is e no_open no_match no_try true_ = nothing_there (sym e)
base_forth is e no_open no_match no_try false_ = nothing_there (sym e)
base_forth {a} is e no_open no_match no_try (exn {t = t} f) = exception_base a _ t f e
base_forth {a} is e no_open no_match no_try unit = no_open _ (record { at = a; is = is })
base_forth {a} is e no_open no_match no_try (parens p) = no_open _ (record { at = a; is = is })
base_forth {a} is e no_open no_match no_try (tuple p q) = no_open _ (record { at = a; is = is })
base_forth {a} is e no_open no_match no_try (nil T) = no_open _ (record { at = a; is = is })
base_forth {a} is e no_open no_match no_try (none T) = no_open _ (record { at = a; is = is })
base_forth {a} is e no_open no_match no_try (match_with p q) = no_match _ (record { at = a; is = is })
base_forth {a} is e no_open no_match no_try (try_with p q) = no_try _ (record { at = a; is = is })

pub no_base_leaf : (a : ℕ) (t : Symbol) (ts r : List Sign) → ts ≡ Fixed a t ∷ r → base_expr t a ≡ None → NoSymbol Open ts → NoSymbol Match ts → NoSymbol Try ts → NoFormLeaf ts
no_base_leaf a t ts r is made no_open no_match no_try e s p = base_forth is made no_open no_match no_try (at_same (sym is) p)
