-- The steps of the parsers of operators and applications, over lists of signs.
use Rattle.std.proofs.Common.{◌≡◌, ◌<◌, ◌≤◌, ◌+◌, ◌-◌, ℕ, zero, suc, max, Bool, true, false, List, [], ◌∷◌, Option, Some, refl, sym, ◌∙◌, ap, subst, arith, if◌then◌else◌}
use Rattle.std.specs.Prelude.{pos, neg_ℤ}
use Rattle.ac_types.specs.Primitives as primitives
use Rattle.ac_syntax.specs.Signs.{Sign, Int, Str, Lower, Upper, Fixed, Other, here}
use Rattle.ac_syntax.specs.Trees.{Tree, ExInt, ExBool, ExStr, ExUnit, ExExn, ExExnOf, ExTuple, ExNil, ExAbsent, ExPresent, ExCons, ExVar, ExOf, ExFun, ExRec, ExApp, ExLet, ExLetRec, ExIf, ExSeq, ExMatch, ExTry, ExRaise, ExAnd, ExOr, ExOp, ExMarshal, ExUnmarshal, no_trees, tree, tree_height}
use Rattle.ac_syntax.specs.Expressions.{Operator, Prim, Consing, Both, Either, operator_of, ToLeft, ToRight, Once, side_of, operator_tree, is_bare, Level, Binary, After, Unary, App, Args, Atom, Ending, Closed, Parses, binary, unary, stop, left, right, once, minus, negative, not_, app, some, exn_with_string, applied, no_argument, argument, number, string, true_, false_, unit, exn, var, of_module, parens, tuple, nil, none, match_with, try_with, begins_atom, symbol_front, sign_front, front, IsTree}
use Rattle.ac_syntax.specs.PartParsing.{SymbolAt, NoSymbol}
use Rattle.ac_syntax.specs.declared.sign.Symbol.{Symbol}
use Rattle.ac_syntax.specs.declared.sign.Symbol.TheVariants.{Semicolon, Minus, Not, SomeWord, Star, Slash, Mod, Plus, Caret, Cons, Equals, Less, And, Or}
use Rattle.ac_syntax.proofs.Exceptions.{nothing_there, same_value}
use Rattle.ac_syntax.proofs.Fronts.{begins_not, with_string_rank, front_positive, front_operator, front_stops, operator_goes_on, argument_goes_on}
use Rattle.ac_syntax.proofs.UniqueExpressions.{unique, at_same}
use Rattle.ac_parser_expressions.specs.inner.Levels.{NoTree, Same, OperatorAt, NoOperator}
use Rattle.ac_parser_patterns.specs.declared.front.Prefix.{Prefix}
use Rattle.ac_parser_patterns.specs.declared.front.Prefix.TheVariants as prefix
use Rattle.ac_parser_patterns.specs.Pieces.{LoneNumber, NoLoneNumber, IsPrefix, PrefixAt, NoPrefix}
use Rattle.ac_parser_patterns.specs.Forms.{prefixed}
use Rattle.ac_parser_patterns.proofs.PatSteps.{found}
use Rattle.ac_parser_patterns.proofs.Readers.{One}

-- heights

height_positive : (e : Tree) → 0 < tree_height e
height_positive (ExInt at n) = omega arith
height_positive (ExBool at b) = omega arith
height_positive (ExStr at text) = omega arith
height_positive (ExUnit at) = omega arith
height_positive (ExExn at k) = omega arith
height_positive (ExExnOf at k e) = omega arith
height_positive (ExTuple at es) = omega arith
height_positive (ExNil at T) = omega arith
height_positive (ExAbsent at T) = omega arith
height_positive (ExPresent at e) = omega arith
height_positive (ExCons at a b) = omega arith
height_positive (ExVar at x) = omega arith
height_positive (ExOf at m x) = omega arith
height_positive (ExFun at x T e) = omega arith
height_positive (ExRec at f x T U e) = omega arith
height_positive (ExApp at f a) = omega arith
height_positive (ExLet at x T a b) = omega arith
height_positive (ExLetRec at f x T U a b) = omega arith
height_positive (ExIf at c a b) = omega arith
height_positive (ExSeq at es) = omega arith
height_positive (ExMatch at e arms) = omega arith
height_positive (ExTry at e arms) = omega arith
height_positive (ExRaise at e T) = omega arith
height_positive (ExAnd at a b) = omega arith
height_positive (ExOr at a b) = omega arith
height_positive (ExOp at k es) = omega arith
height_positive (ExMarshal at a b T) = omega arith
height_positive (ExUnmarshal at a T) = omega arith

-- no expression has no height
pub flat_none : (l : Level) (D : ℕ) (ts : List Sign) → D ≡ 0 → NoTree D l ts
flat_none l D ts flat e r o = let low : tree_height e ≤ D = o.low in absurd (omega (arith, height_positive e))

pub one_tree : (D : ℕ) (l : Level) → One (IsTree D l)
one_tree D l ts r s x y p q = let d = unique p.parses q.parses p.stops q.stops in (d.tree, d.rest)

-- these levels are closed

pub closed_atom : {j : Ending} {ts r : List Sign} {e : Tree} → Parses Atom j ts e r → Parses Atom Closed ts e r
closed_atom number = number
closed_atom string = string
closed_atom true_ = true_
closed_atom false_ = false_
closed_atom unit = unit
closed_atom (exn e) = exn e
closed_atom var = var
closed_atom of_module = of_module
closed_atom (parens p) = parens p
closed_atom (tuple p q) = tuple p q
closed_atom (nil T) = nil T
closed_atom (none T) = none T
closed_atom (match_with p q) = match_with p q
closed_atom (try_with p q) = try_with p q

closed_app : {j : Ending} {ts r : List Sign} {e : Tree} → Parses App j ts e r → Parses App Closed ts e r
closed_app (some p) = some p
closed_app (exn_with_string e p) = exn_with_string e p
closed_app (applied p q) = applied p q

closed_args : {j : Ending} {at : ℕ} {f : Tree} {ts r : List Sign} {e : Tree} → Parses (Args at f) j ts e r → Parses (Args at f) Closed ts e r
closed_args no_argument = no_argument
closed_args (argument p q) = argument p q

closed_unary : {j : Ending} {ts r : List Sign} {e : Tree} → Parses Unary j ts e r → Parses Unary Closed ts e r
closed_unary (minus b p) = minus b p
closed_unary negative = negative
closed_unary (not_ p) = not_ p
closed_unary (app p) = app p

pub closed_binary : {k : ℕ} {j : Ending} {ts r : List Sign} {e : Tree} → Parses (Binary k) j ts e r → Parses (Binary k) Closed ts e r
closed_binary (binary p q) = binary p q
closed_binary (unary p) = unary p

closed_after : {k at : ℕ} {a : Tree} {j : Ending} {ts r : List Sign} {e : Tree} → Parses (After k at a) j ts e r → Parses (After k at a) Closed ts e r
closed_after stop = stop
closed_after (left is side p q) = left is side p q
closed_after (right is side p) = right is side p
closed_after (once is side p) = once is side p

-- the same elsewhere

pub same_then : {D : ℕ} {l m n : Level} {ts us vs : List Sign} → Same D l ts m us → Same D m us n vs → Same D l ts n vs
same_then p q = record { back = λ e s o. p.back e s (q.back e s o); forth = λ e s o. q.forth e s (p.forth e s o) }

pub same_none : {D : ℕ} {l m : Level} {ts us : List Sign} → Same D l ts m us → NoTree D m us → NoTree D l ts
same_none p none' e s o = none' e s (p.forth e s o)

-- arguments

args_height : {at : ℕ} {j : Ending} {f e : Tree} {ts s : List Sign} → Parses (Args at f) j ts e s → tree_height f ≤ tree_height e
args_height no_argument = omega arith
args_height (argument p q) = let h = args_height q in omega arith

symbol_front_high : (t : Symbol) → 1 < symbol_front t
symbol_front_high Semicolon = omega arith
symbol_front_high Star = omega arith
symbol_front_high Slash = omega arith
symbol_front_high Mod = omega arith
symbol_front_high Plus = omega arith
symbol_front_high Minus = omega arith
symbol_front_high Caret = omega arith
symbol_front_high Cons = omega arith
symbol_front_high Equals = omega arith
symbol_front_high Less = omega arith
symbol_front_high And = omega arith
symbol_front_high Or = omega arith
symbol_front_high t = omega arith

sign_front_high : (ts : List Sign) → 1 < sign_front ts
sign_front_high [] = omega arith
sign_front_high (Int a n ∷ ts) = omega arith
sign_front_high (Str a x ∷ ts) = omega arith
sign_front_high (Lower a x ∷ ts) = omega arith
sign_front_high (Upper a x ∷ ts) = omega arith
sign_front_high (Other a ∷ ts) = omega arith
sign_front_high (Fixed a t ∷ ts) = symbol_front_high t

-- where no atom begins, nothing is an argument
pub behind_atom : (ts : List Sign) → begins_atom ts ≡ false → 1 < front ts
behind_atom ts e = let f : front ts ≡ sign_front ts = ap (λ (b : Bool). if b then 1 else sign_front ts) e in omega (arith, sign_front_high ts)

pub args_ended : (D at : ℕ) (f : Tree) (ts : List Sign) → begins_atom ts ≡ false → tree_height f ≤ D → IsTree D (Args at f) ts f ts
args_ended D at f ts e low = record { ending = Closed; parses = no_argument; stops = behind_atom ts e; low = low }

record Argument (at : ℕ) (f : Tree) (ts : List Sign) (e : Tree) (s : List Sign) : Type 0 where
  a : Tree
  r : List Sign
  first : Parses Atom Closed ts a r
  later : Parses (Args at (ExApp at f a)) Closed r e s

argument_of : {at : ℕ} {j : Ending} {f e : Tree} {ts s : List Sign} → begins_atom ts ≡ true → Parses (Args at f) j ts e s → 1 < front s → Argument at f ts e s
argument_of begins' no_argument h = argument_goes_on _ begins' h
argument_of begins' (argument p q) h = record { a = _; r = _; first = p; later = q }

module _ (D at : ℕ) (f : Tree) (ts : List Sign) (begins' : begins_atom ts ≡ true) where
  whole_low : (e : Tree) (s : List Sign) → (o : IsTree D (Args at f) ts e s) → tree_height (ExApp at f (argument_of begins' o.parses o.stops).a) ≤ D
  whole_low e s o =
      let n = argument_of begins' o.parses o.stops in
      let h : tree_height (ExApp at f n.a) ≤ tree_height e = args_height n.later in
      let low : tree_height e ≤ D = o.low in
      omega arith

  atom_of : (e : Tree) (s : List Sign) → (o : IsTree D (Args at f) ts e s) → IsTree (D - 1) Atom ts (argument_of begins' o.parses o.stops).a (argument_of begins' o.parses o.stops).r
  atom_of e s o =
      let n = argument_of begins' o.parses o.stops in
      let h : tree_height (ExApp at f n.a) ≤ D = whole_low e s o in
      record { ending = Closed; parses = n.first; stops = front_positive n.r; low = omega arith }

  pub argument_none : NoTree (D - 1) Atom ts → NoTree D (Args at f) ts
  argument_none none' e s o = none' _ _ (atom_of e s o)

  pub argument_high : D ≤ tree_height f → NoTree D (Args at f) ts
  argument_high high e s o = let h : tree_height (ExApp at f (argument_of begins' o.parses o.stops).a) ≤ D = whole_low e s o in absurd (omega arith)

  pub next_argument : (a : Tree) (r : List Sign) → IsTree (D - 1) Atom ts a r → Same D (Args at f) ts (Args at (ExApp at f a)) r
  next_argument a r p = record {
    back = λ e s o. record { ending = Closed; parses = argument (closed_atom p.parses) (closed_args o.parses); stops = o.stops; low = o.low };
    forth = λ e s o.
        let n = argument_of begins' o.parses o.stops in
        let d = one_tree (D - 1) Atom _ _ _ _ _ (atom_of e s o) p in
        record {
          ending = Closed;
          parses = at_same (sym d.1) (subst (λ (x : Tree). Parses (Args at (ExApp at f x)) Closed n.r e s) d.0 n.later);
          stops = o.stops;
          low = o.low;
        };
  }

-- applications

record Applied (ts : List Sign) (e : Tree) (s : List Sign) : Type 0 where
  f : Tree
  r : List Sign
  first : Parses Atom Closed ts f r
  later : Parses (Args (here ts) f) Closed r e s

applied_of : {j : Ending} {ts s : List Sign} {e : Tree} → NoPrefix ts → Parses App j ts e s → Applied ts e s
applied_of none' (some {p = a} q) = absurd (none' prefix.Present a _ (record { symbol = SomeWord; is = refl; prefix = refl }))
applied_of none' (exn_with_string {p = a} {t = t} e q) = let f = found t e in absurd (none' (prefix.Exn f.0) a _ (record { symbol = t; is = refl; prefix = f.1 }))
applied_of none' (applied p q) = record { f = _; r = _; first = p; later = q }

pub applied_none : (D : ℕ) (ts : List Sign) → NoTree D Atom ts → NoPrefix ts → NoTree D App ts
applied_none D ts none' no_prefix e s o =
    let n = applied_of no_prefix o.parses in
    let h : tree_height n.f ≤ tree_height e = args_height n.later in
    let low : tree_height e ≤ D = o.low in
    none' n.f n.r (record { ending = Closed; parses = n.first; stops = front_positive n.r; low = omega arith })

module _ (D : ℕ) (ts r : List Sign) (f : Tree) (p : IsTree D Atom ts f r) where
  pub same_applied : NoPrefix ts → Same D App ts (Args (here ts) f) r
  same_applied no_prefix = record {
    back = λ e s o. record { ending = Closed; parses = applied (closed_atom p.parses) (closed_args o.parses); stops = o.stops; low = o.low };
    forth = λ e s o.
        let n = applied_of no_prefix o.parses in
        let d = unique n.first p.parses (front_positive n.r) p.stops in
        record {
          ending = Closed;
          parses = at_same (sym d.rest) (subst (λ (x : Tree). Parses (Args (here ts) x) Closed n.r e s) d.tree n.later);
          stops = o.stops;
          low = o.low;
        };
  }

-- words that take an atom

record Prefixed (x : Prefix) (at : ℕ) (ts : List Sign) (e : Tree) (r : List Sign) : Type 0 where
  item : Tree
  parses : Parses Atom Closed ts item r
  is : e ≡ prefixed x at item

present_forth : {j : Ending} {at : ℕ} {ts r : List Sign} {e : Tree} → Parses App j (Fixed at SomeWord ∷ ts) e r → Prefixed prefix.Present at ts e r
present_forth (some q) = record { item = _; parses = q; is = refl }
present_forth (exn_with_string e q) = nothing_there e
present_forth (applied p q) = begins_not p (omega arith)

prefix_forth : (x : Prefix) {j : Ending} {at : ℕ} {t : Symbol} {ts r : List Sign} {e : Tree} → IsPrefix x t → Parses App j (Fixed at t ∷ ts) e r → Prefixed x at ts e r
prefix_forth prefix.Present {j} {at} {t} {ts} {r} {e} is q = present_forth (subst (λ (u : Symbol). Parses App j (Fixed at u ∷ ts) e r) is q)
prefix_forth (prefix.Exn k) is (some q) = nothing_there is
prefix_forth (prefix.Exn k) {at = at} is (exn_with_string {e = item} f q) = record { item = item; parses = q; is = ap (λ (n : ℕ). ExExnOf at n item) (same_value f is) }
prefix_forth (prefix.Exn k) {t = t} is (applied p q) = begins_not p (omega (arith, with_string_rank t is))

prefix_back : (x : Prefix) {at : ℕ} {t : Symbol} {ts r : List Sign} {e : Tree} → IsPrefix x t → Parses Atom Closed ts e r → Parses App Closed (Fixed at t ∷ ts) (prefixed x at e) r
prefix_back prefix.Present {at} {t} {ts} {r} {e} is q = subst (λ (u : Symbol). Parses App Closed (Fixed at u ∷ ts) (ExPresent at e) r) (sym is) (some q)
prefix_back (prefix.Exn k) is q = exn_with_string is q

prefix_height : (x : Prefix) (at : ℕ) (e : Tree) → tree_height (prefixed x at e) ≡ tree_height e + 1
prefix_height prefix.Present at e = refl
prefix_height (prefix.Exn k) at e = refl

module _ (D : ℕ) (x : Prefix) (at : ℕ) (ts behind : List Sign) (w : PrefixAt x at ts behind) (h : 0 < D) where
  item_of : (e : Tree) (r : List Sign) → IsTree D App ts e r → (item : Tree) × IsTree (D - 1) Atom behind item r
  item_of e r o =
      let f = prefix_forth x w.prefix (at_same (sym w.is) o.parses) in
      let one = prefix_height x at f.item in
      let same : tree_height e ≡ tree_height (prefixed x at f.item) = ap tree_height f.is in
      let low : tree_height e ≤ D = o.low in
      (f.item, record { ending = Closed; parses = f.parses; stops = front_positive r; low = omega arith })

  pub prefixed_none : NoTree (D - 1) Atom behind → NoTree D App ts
  prefixed_none none' e r o = let f = item_of e r o in none' f.0 r f.1

  module _ (item : Tree) (r : List Sign) (p : IsTree (D - 1) Atom behind item r) where
    pub prefixed_tree : begins_atom r ≡ false → IsTree D App ts (prefixed x at item) r
    prefixed_tree no_atom = record {
      ending = Closed;
      parses = at_same w.is (prefix_back x w.prefix (closed_atom p.parses));
      stops = behind_atom r no_atom;
      low = let low : tree_height item ≤ D - 1 = p.low in let one = prefix_height x at item in omega arith;
    }

    pub second_none : begins_atom r ≡ true → NoTree D App ts
    second_none begins' e s o =
        let f = item_of e s o in
        let d = one_tree (D - 1) Atom _ _ _ _ _ p f.1 in
        let h : 1 < front s = o.stops in
        argument_goes_on r begins' (subst (λ (l : List Sign). 1 < front l) (sym d.1) h)

-- `-` and `not`

true_of : (b : Bool) → (b ≡ false → ⊥) → b ≡ true
true_of true h = refl
true_of false h = absurd (h refl)

false_of : (b : Bool) → (b ≡ true → ⊥) → b ≡ false
false_of true h = absurd (h refl)
false_of false h = refl

args_no_number : {at : ℕ} {j : Ending} {f e : Tree} {ts s : List Sign} (a n : ℕ) (us : List Sign) → Parses (Args at f) j ts e s → is_bare (Int a n ∷ us) f ≡ false → is_bare (Int a n ∷ us) e ≡ false
args_no_number a n us no_argument h = h
args_no_number a n us (argument p q) h = args_no_number a n us q refl

number_app : {j : Ending} {a n : ℕ} {ts s : List Sign} {e : Tree} → begins_atom ts ≡ true → Parses App j (Int a n ∷ ts) e s → 1 < front s → is_bare (Int a n ∷ ts) e ≡ false
number_app begins' (applied number no_argument) h = argument_goes_on _ begins' h
number_app {a = a} {n = n} {ts = ts} begins' (applied number (argument p q)) h = args_no_number a n ts q refl

not_bare : {j : Ending} {ts s : List Sign} {e : Tree} → NoLoneNumber ts → Parses Unary j ts e s → 1 < front s → is_bare ts e ≡ false
not_bare {ts = []} none' p h = refl
not_bare {ts = Str a x ∷ ts} none' p h = refl
not_bare {ts = Lower a x ∷ ts} none' p h = refl
not_bare {ts = Upper a x ∷ ts} none' p h = refl
not_bare {ts = Fixed a x ∷ ts} none' p h = refl
not_bare {ts = Other a ∷ ts} none' p h = refl
not_bare {ts = Int a n ∷ ts} none' (app p) h = number_app (true_of (begins_atom ts) (λ e. none' n ts (record { number = record { at = a; is = refl }; alone = e }))) p h

record Minused (at : ℕ) (ts : List Sign) (e : Tree) (s : List Sign) : Type 0 where
  operand : Tree
  parses : Parses Unary Closed ts operand s
  is : e ≡ ExOp at 5 (tree operand no_trees)

minus_forth : {at : ℕ} {j : Ending} {ts s : List Sign} {e : Tree} → NoLoneNumber ts → Parses Unary j (Fixed at Minus ∷ ts) e s → 1 < front s → Minused at ts e s
minus_forth none' (minus b p) h = record { operand = _; parses = p; is = refl }
minus_forth none' (negative {q = q} {n = n} {ts = ts}) h = absurd (none' n ts (record { number = record { at = q; is = refl }; alone = false_of (begins_atom ts) (λ e. argument_goes_on ts e h) }))
minus_forth none' (app p) h = begins_not p (omega arith)

pub lone_tree : (D at n : ℕ) (ts s : List Sign) (e : Tree) → 0 < D → LoneNumber n ts s → e ≡ ExInt at (neg_ℤ (pos n)) → IsTree D Unary (Fixed at Minus ∷ ts) e s
lone_tree D at n ts s e h l is = record {
  ending = Closed;
  parses = at_same (ap (λ (l : List Sign). Fixed at Minus ∷ l) l.number.is) (subst (λ (x : Tree). Parses Unary Closed (Fixed at Minus ∷ Int l.number.at n ∷ s) x s) (sym is) negative);
  stops = behind_atom s l.alone;
  low = omega (arith, ap tree_height is);
}

module _ (D at : ℕ) (ts : List Sign) (no_number : NoLoneNumber ts) (h : 0 < D) where
  pub minus_none : NoTree (D - 1) Unary ts → NoTree D Unary (Fixed at Minus ∷ ts)
  minus_none none' e s o =
      let f = minus_forth no_number o.parses o.stops in
      let low : tree_height e ≤ D = o.low in
      none' f.operand s (record { ending = Closed; parses = f.parses; stops = o.stops; low = omega (arith, ap tree_height f.is) })

  pub minus_tree : (operand e : Tree) (s : List Sign) → IsTree (D - 1) Unary ts operand s → e ≡ ExOp at 5 (tree operand no_trees) → IsTree D Unary (Fixed at Minus ∷ ts) e s
  minus_tree operand e s o is = record {
    ending = Closed;
    parses = subst (λ (x : Tree). Parses Unary Closed (Fixed at Minus ∷ ts) x s) (sym is) (minus (not_bare no_number o.parses o.stops) (closed_unary o.parses));
    stops = o.stops;
    low = let low : tree_height operand ≤ D - 1 = o.low in omega (arith, ap tree_height is);
  }

record Notted (at : ℕ) (ts : List Sign) (e : Tree) (s : List Sign) : Type 0 where
  operand : Tree
  parses : Parses Unary Closed ts operand s
  is : e ≡ ExOp at 9 (tree operand no_trees)

not_forth : {at : ℕ} {j : Ending} {ts s : List Sign} {e : Tree} → Parses Unary j (Fixed at Not ∷ ts) e s → Notted at ts e s
not_forth (not_ p) = record { operand = _; parses = p; is = refl }
not_forth (app p) = begins_not p (omega arith)

module _ (D : ℕ) (ts behind : List Sign) (w : SymbolAt Not ts behind) (h : 0 < D) where
  pub not_none : NoTree (D - 1) Unary behind → NoTree D Unary ts
  not_none none' e s o =
      let f = not_forth (at_same (sym w.is) o.parses) in
      let low : tree_height e ≤ D = o.low in
      none' f.operand s (record { ending = Closed; parses = f.parses; stops = o.stops; low = omega (arith, ap tree_height f.is) })

  pub not_tree : (at : ℕ) (operand e : Tree) (s : List Sign) → at ≡ here ts → IsTree (D - 1) Unary behind operand s → e ≡ ExOp at 9 (tree operand no_trees) → IsTree D Unary ts e s
  not_tree at operand e s place o is = record {
    ending = Closed;
    parses = at_same w.is (subst (λ (x : Tree). Parses Unary Closed (Fixed w.at Not ∷ behind) x s) (sym (is ∙ ap (λ (n : ℕ). ExOp n 9 (tree operand no_trees)) (place ∙ ap here w.is))) (not_ (closed_unary o.parses)));
    stops = o.stops;
    low = let low : tree_height operand ≤ D - 1 = o.low in omega (arith, ap tree_height is);
  }

pub app_tree : (D : ℕ) (ts s : List Sign) (e : Tree) → IsTree D App ts e s → IsTree D Unary ts e s
app_tree D ts s e o = record { ending = Closed; parses = app (closed_app o.parses); stops = o.stops; low = o.low }

app_of : {j : Ending} {ts s : List Sign} {e : Tree} → NoSymbol Minus ts → NoSymbol Not ts → Parses Unary j ts e s → Parses App Closed ts e s
app_of no_minus no_not (minus {p = a} b p) = absurd (no_minus _ (record { at = a; is = refl }))
app_of no_minus no_not (negative {p = a}) = absurd (no_minus _ (record { at = a; is = refl }))
app_of no_minus no_not (not_ {p = a} p) = absurd (no_not _ (record { at = a; is = refl }))
app_of no_minus no_not (app p) = p

pub app_none : (D : ℕ) (ts : List Sign) → NoSymbol Minus ts → NoSymbol Not ts → NoTree D App ts → NoTree D Unary ts
app_none D ts no_minus no_not none' e s o = none' e s (record { ending = Closed; parses = app_of no_minus no_not o.parses; stops = o.stops; low = o.low })

-- operators

pub unary_tree : (D k : ℕ) (ts s : List Sign) (e : Tree) → k ≡ 0 → IsTree D Unary ts e s → IsTree D (Binary k) ts e s
unary_tree D k ts s e zero_is o = subst (λ (n : ℕ). IsTree D (Binary n) ts e s) (sym zero_is) (record { ending = Closed; parses = unary (closed_unary o.parses); stops = o.stops; low = o.low })

unary_of : {j : Ending} {ts s : List Sign} {e : Tree} → Parses (Binary zero) j ts e s → Parses Unary Closed ts e s
unary_of (unary p) = p

pub unary_none : (D k : ℕ) (ts : List Sign) → k ≡ 0 → NoTree D Unary ts → NoTree D (Binary k) ts
unary_none D k ts zero_is none' = subst (λ (n : ℕ). NoTree D (Binary n) ts) (sym zero_is) (λ e s o. none' e s (record { ending = Closed; parses = unary_of o.parses; stops = o.stops; low = o.low }))

pub joined_height : (at : ℕ) (o : Operator) (a b : Tree) → tree_height (operator_tree at o a b) ≡ max (tree_height a) (tree_height b) + 1
joined_height at (Prim k) a b = omega arith
joined_height at Consing a b = omega arith
joined_height at Both a b = omega arith
joined_height at Either a b = omega arith

after_height : {k at : ℕ} {j : Ending} {a e : Tree} {ts s : List Sign} → Parses (After k at a) j ts e s → tree_height a ≤ tree_height e
after_height stop = omega arith
after_height (left {at = at} {o = o} {a = a} {b = b} is side p q) = let h = after_height q in omega (arith, joined_height at o a b)
after_height (right {at = at} {o = o} {a = a} {b = b} is side p) = omega (arith, joined_height at o a b)
after_height (once {at = at} {o = o} {a = a} {b = b} is side p) = omega (arith, joined_height at o a b)

record Operand (k : ℕ) (ts : List Sign) (e : Tree) (s : List Sign) : Type 0 where
  a : Tree
  r : List Sign
  first : Parses (Binary k) Closed ts a r
  later : Parses (After (suc k) (here ts) a) Closed r e s

operand_of : {k : ℕ} {j : Ending} {ts s : List Sign} {e : Tree} → Parses (Binary (suc k)) j ts e s → Operand k ts e s
operand_of (binary p q) = record { a = _; r = _; first = p; later = q }

module _ (k : ℕ) (K D : ℕ) (ts : List Sign) (level : suc k ≡ K) where
  at_level : NoTree D (Binary (suc k)) ts → NoTree D (Binary K) ts
  at_level none' = subst (λ (n : ℕ). NoTree D (Binary n) ts) level none'

  pub operand_none : NoTree D (Binary k) ts → NoTree D (Binary K) ts
  operand_none none' = at_level (λ e s o.
      let n = operand_of o.parses in
      let h : tree_height n.a ≤ tree_height e = after_height n.later in
      let low : tree_height e ≤ D = o.low in
      none' n.a n.r (record { ending = Closed; parses = n.first; stops = front_stops n.later o.stops; low = omega arith }))

  module _ (a : Tree) (r : List Sign) (p : IsTree D (Binary k) ts a r) where
    pub binary_tree : (e : Tree) (s : List Sign) → IsTree D (After K (here ts) a) r e s → IsTree D (Binary K) ts e s
    binary_tree e s o =
        subst (λ (n : ℕ). IsTree D (After n (here ts) a) r e s → IsTree D (Binary n) ts e s) level
        (λ w. record { ending = Closed; parses = binary (closed_binary p.parses) (closed_after w.parses); stops = w.stops; low = w.low }) o

    pub same_operand : Same D (Binary K) ts (After K (here ts) a) r
    same_operand = subst (λ (n : ℕ). Same D (Binary n) ts (After n (here ts) a) r) level (record {
      back = λ e s w. record { ending = Closed; parses = binary (closed_binary p.parses) (closed_after w.parses); stops = w.stops; low = w.low };
      forth = λ e s o.
          let n = operand_of o.parses in
          let d = unique n.first p.parses (front_stops n.later o.stops) p.stops in
          record {
            ending = Closed;
            parses = at_same (sym d.rest) (subst (λ (x : Tree). Parses (After (suc k) (here ts) x) Closed n.r e s) d.tree n.later);
            stops = o.stops;
            low = o.low;
          };
    })

    pub after_none : NoTree D (After K (here ts) a) r → NoTree D (Binary K) ts
    after_none = subst (λ (n : ℕ). NoTree D (After n (here ts) a) r → NoTree D (Binary n) ts) level
        (λ none' e s o.
        let n = operand_of o.parses in
        let d = unique n.first p.parses (front_stops n.later o.stops) p.stops in
        none' e s (record {
          ending = Closed;
          parses = at_same (sym d.rest) (subst (λ (x : Tree). Parses (After (suc k) (here ts) x) Closed n.r e s) d.tree n.later);
          stops = o.stops;
          low = o.low;
        }))

past_symbol : (k a : ℕ) (t : Symbol) (ts : List Sign) → 1 ≤ k → k ≤ 6 → k < front (Fixed a t ∷ ts) → NoOperator k (Fixed a t ∷ ts) → suc k < front (Fixed a t ∷ ts)
past_symbol k a Semicolon ts pos' low h none' = omega arith
past_symbol k a Star ts pos' low h none' = let f : k ≡ 1 → ⊥ = λ e. none' (Prim primitives.mul) ts (record { symbol = Star; at = a; is = refl; named = ap (λ (n : ℕ). Some (n, Prim primitives.mul)) (sym e) }) in omega arith
past_symbol k a Slash ts pos' low h none' = let f : k ≡ 1 → ⊥ = λ e. none' (Prim primitives.div) ts (record { symbol = Slash; at = a; is = refl; named = ap (λ (n : ℕ). Some (n, Prim primitives.div)) (sym e) }) in omega arith
past_symbol k a Mod ts pos' low h none' = let f : k ≡ 1 → ⊥ = λ e. none' (Prim primitives.rem) ts (record { symbol = Mod; at = a; is = refl; named = ap (λ (n : ℕ). Some (n, Prim primitives.rem)) (sym e) }) in omega arith
past_symbol k a Plus ts pos' low h none' = let f : k ≡ 2 → ⊥ = λ e. none' (Prim primitives.add) ts (record { symbol = Plus; at = a; is = refl; named = ap (λ (n : ℕ). Some (n, Prim primitives.add)) (sym e) }) in omega arith
past_symbol k a Minus ts pos' low h none' = let f : k ≡ 2 → ⊥ = λ e. none' (Prim primitives.sub) ts (record { symbol = Minus; at = a; is = refl; named = ap (λ (n : ℕ). Some (n, Prim primitives.sub)) (sym e) }) in omega arith
past_symbol k a Caret ts pos' low h none' = let f : k ≡ 2 → ⊥ = λ e. none' (Prim primitives.concat) ts (record { symbol = Caret; at = a; is = refl; named = ap (λ (n : ℕ). Some (n, Prim primitives.concat)) (sym e) }) in omega arith
past_symbol k a Cons ts pos' low h none' = let f : k ≡ 3 → ⊥ = λ e. none' Consing ts (record { symbol = Cons; at = a; is = refl; named = ap (λ (n : ℕ). Some (n, Consing)) (sym e) }) in omega arith
past_symbol k a Equals ts pos' low h none' = let f : k ≡ 4 → ⊥ = λ e. none' (Prim primitives.eq) ts (record { symbol = Equals; at = a; is = refl; named = ap (λ (n : ℕ). Some (n, Prim primitives.eq)) (sym e) }) in omega arith
past_symbol k a Less ts pos' low h none' = let f : k ≡ 4 → ⊥ = λ e. none' (Prim primitives.lt) ts (record { symbol = Less; at = a; is = refl; named = ap (λ (n : ℕ). Some (n, Prim primitives.lt)) (sym e) }) in omega arith
past_symbol k a And ts pos' low h none' = let f : k ≡ 5 → ⊥ = λ e. none' Both ts (record { symbol = And; at = a; is = refl; named = ap (λ (n : ℕ). Some (n, Both)) (sym e) }) in omega arith
past_symbol k a Or ts pos' low h none' = let f : k ≡ 6 → ⊥ = λ e. none' Either ts (record { symbol = Or; at = a; is = refl; named = ap (λ (n : ℕ). Some (n, Either)) (sym e) }) in omega arith
past_symbol k a t ts pos' low h none' = omega arith

past_level : (k : ℕ) (ts : List Sign) → 1 ≤ k → k ≤ 6 → k < front ts → NoOperator k ts → suc k < front ts
past_level k [] pos' low h none' = omega arith
past_level k (Int a n ∷ ts) pos' low h none' = omega arith
past_level k (Str a x ∷ ts) pos' low h none' = omega arith
past_level k (Lower a x ∷ ts) pos' low h none' = omega arith
past_level k (Upper a x ∷ ts) pos' low h none' = omega arith
past_level k (Other a ∷ ts) pos' low h none' = omega arith
past_level k (Fixed a t ∷ ts) pos' low h none' = past_symbol k a t ts pos' low h none'

pub after_ended : (D k at : ℕ) (a : Tree) (ts : List Sign) → 1 ≤ k → k ≤ 6 → tree_height a ≤ D → k < front ts → NoOperator k ts → IsTree D (After k at a) ts a ts
after_ended D k at a ts pos' top low h none' = record { ending = Closed; parses = stop; stops = past_level k ts pos' top h none'; low = low }

left_right : {P : Type 0} → ToLeft ≡ ToRight → P
left_right e = cc

left_once : {P : Type 0} → ToLeft ≡ Once → P
left_once e = cc

right_once : {P : Type 0} → ToRight ≡ Once → P
right_once e = cc

same_operator : {n : ℕ} {o u : Operator} {x : Option (ℕ × Operator)} → x ≡ Some (n, o) → x ≡ Some (n, u) → o ≡ u
same_operator p q = ap (λ (x : ℕ × Operator). x.1) (same_value p q)

-- behind an operator whose level groups to the left
record LeftOf (k at : ℕ) (o : Operator) (a : Tree) (ts : List Sign) (e : Tree) (s : List Sign) : Type 0 where
  b : Tree
  r : List Sign
  first : Parses (Binary k) Closed ts b r
  later : Parses (After (suc k) at (operator_tree at o a b)) Closed r e s

left_of : {k at p : ℕ} {j : Ending} {t : Symbol} {o : Operator} {a e : Tree} {ts s : List Sign} → side_of (suc k) ≡ ToLeft → operator_of t ≡ Some (suc k, o) → Parses (After (suc k) at a) j (Fixed p t ∷ ts) e s → suc (suc k) < front s
    → LeftOf k at o a ts e s
left_of {p = p} {t = t} {ts = ts} side is stop h = operator_goes_on p t ts is h
left_of {k = k} {at = at} {a = a} {e = e} {ts = ts} {s = s} side is (left is' side' p q) h =
    subst (λ (x : Operator). LeftOf k at x a ts e s) (same_operator is' is) (record { b = _; r = _; first = p; later = q })
left_of side is (right is' side' p) h = left_right (sym side ∙ side')
left_of side is (once is' side' p) h = left_once (sym side ∙ side')

-- behind an operator that is the last of its level
record RightOf (l : Level) (at : ℕ) (o : Operator) (a : Tree) (ts : List Sign) (e : Tree) (s : List Sign) : Type 0 where
  b : Tree
  parses : Parses l Closed ts b s
  is : e ≡ operator_tree at o a b

right_of : {k at p : ℕ} {j : Ending} {t : Symbol} {o : Operator} {a e : Tree} {ts s : List Sign} → side_of (suc k) ≡ ToRight → operator_of t ≡ Some (suc k, o) → Parses (After (suc k) at a) j (Fixed p t ∷ ts) e s → suc (suc k) < front s
    → RightOf (Binary (suc k)) at o a ts e s
right_of {p = p} {t = t} {ts = ts} side is stop h = operator_goes_on p t ts is h
right_of side is (left is' side' p q) h = left_right (sym side' ∙ side)
right_of {at = at} {a = a} side is (right {b = b} is' side' p) h = record { b = b; parses = p; is = ap (λ (x : Operator). operator_tree at x a b) (same_operator is' is) }
right_of side is (once is' side' p) h = right_once (sym side ∙ side')

once_of : {k at p : ℕ} {j : Ending} {t : Symbol} {o : Operator} {a e : Tree} {ts s : List Sign} → side_of (suc k) ≡ Once → operator_of t ≡ Some (suc k, o) → Parses (After (suc k) at a) j (Fixed p t ∷ ts) e s → suc (suc k) < front s
    → RightOf (Binary k) at o a ts e s
once_of {p = p} {t = t} {ts = ts} side is stop h = operator_goes_on p t ts is h
once_of side is (left is' side' p q) h = left_once (sym side' ∙ side)
once_of side is (right is' side' p) h = right_once (sym side' ∙ side)
once_of {at = at} {a = a} side is (once {b = b} is' side' p) h = record { b = b; parses = p; is = ap (λ (x : Operator). operator_tree at x a b) (same_operator is' is) }

pub record LeftStep (k K D at : ℕ) (a : Tree) (o : Operator) (ts behind : List Sign) : Type 0 where
  pub refused : NoTree (D - 1) (Binary k) behind → NoTree D (After K at a) ts
  pub high : D ≤ tree_height a → NoTree D (After K at a) ts
  pub next : (b : Tree) (r : List Sign) → IsTree (D - 1) (Binary k) behind b r → Same D (After K at a) ts (After K at (operator_tree at o a b)) r

pub record RightStep (l : Level) (K D at : ℕ) (a : Tree) (o : Operator) (ts behind : List Sign) : Type 0 where
  pub refused : NoTree (D - 1) l behind → NoTree D (After K at a) ts
  pub high : D ≤ tree_height a → NoTree D (After K at a) ts
  pub made : (b : Tree) (r : List Sign) → IsTree (D - 1) l behind b r → tree_height a < D → suc K < front r → IsTree D (After K at a) ts (operator_tree at o a b) r
  pub again : (b : Tree) (r : List Sign) → IsTree (D - 1) l behind b r → (suc K < front r → ⊥) → NoTree D (After K at a) ts
  pub ended : ((b : Tree) (r : List Sign) → IsTree (D - 1) l behind b r → suc K < front r → ⊥) → NoTree D (After K at a) ts

module _ (k D at : ℕ) (a : Tree) (o : Operator) (ts behind : List Sign) (w : OperatorAt (suc k) o ts behind) where
  after_at : {j : Ending} {e : Tree} {s : List Sign} → Parses (After (suc k) at a) j ts e s → Parses (After (suc k) at a) j (Fixed w.at w.symbol ∷ behind) e s
  after_at p = at_same (sym w.is) p

  module _ (side : side_of (suc k) ≡ ToLeft) where
    left_here : (e : Tree) (s : List Sign) → IsTree D (After (suc k) at a) ts e s → LeftOf k at o a behind e s
    left_here e s v = left_of side w.named (after_at v.parses) v.stops

    left_low : (e : Tree) (s : List Sign) → (v : IsTree D (After (suc k) at a) ts e s) → max (tree_height a) (tree_height (left_here e s v).b) + 1 ≤ D
    left_low e s v =
        let n = left_here e s v in
        let h : tree_height (operator_tree at o a n.b) ≤ tree_height e = after_height n.later in
        let low : tree_height e ≤ D = v.low in
        omega (arith, joined_height at o a n.b)

    right_side : (e : Tree) (s : List Sign) → (v : IsTree D (After (suc k) at a) ts e s) → IsTree (D - 1) (Binary k) behind (left_here e s v).b (left_here e s v).r
    right_side e s v =
        let n = left_here e s v in
        let low = left_low e s v in
        record { ending = Closed; parses = n.first; stops = front_stops n.later v.stops; low = omega arith }

    left_next : (b : Tree) (r : List Sign) → IsTree (D - 1) (Binary k) behind b r → Same D (After (suc k) at a) ts (After (suc k) at (operator_tree at o a b)) r
    left_next b r p = record {
      back = λ e s v. record { ending = Closed; parses = at_same w.is (left w.named side (closed_binary p.parses) (closed_after v.parses)); stops = v.stops; low = v.low };
      forth = λ e s v.
          let n = left_here e s v in
          let d = one_tree (D - 1) (Binary k) _ _ _ _ _ (right_side e s v) p in
          record {
            ending = Closed;
            parses = at_same (sym d.1) (subst (λ (x : Tree). Parses (After (suc k) at (operator_tree at o a x)) Closed n.r e s) d.0 n.later);
            stops = v.stops;
            low = v.low;
          };
    }

    left_at : LeftStep k (suc k) D at a o ts behind
    left_at = record {
      refused = λ none' e s v. none' _ _ (right_side e s v);
      high = λ high e s v. let low = left_low e s v in absurd (omega arith);
      next = left_next;
    }

  module _ (side : side_of (suc k) ≡ ToRight) where
    right_here : (e : Tree) (s : List Sign) → (v : IsTree D (After (suc k) at a) ts e s) → (b : Tree) × (IsTree (D - 1) (Binary (suc k)) behind b s × (max (tree_height a) (tree_height b) + 1 ≤ D))
    right_here e s v =
        let n = right_of side w.named (after_at v.parses) v.stops in
        let low : tree_height e ≤ D = v.low in
        let h : max (tree_height a) (tree_height n.b) + 1 ≤ D = omega (arith, ap tree_height n.is, joined_height at o a n.b) in
        (n.b, (record { ending = Closed; parses = n.parses; stops = v.stops; low = omega arith }, h))

    right_at : RightStep (Binary (suc k)) (suc k) D at a o ts behind
    right_at = record {
      refused = λ none' e s v. let n = right_here e s v in none' n.0 s n.1.0;
      high = λ high e s v. let n = right_here e s v in let h : max (tree_height a) (tree_height n.0) + 1 ≤ D = n.1.1 in absurd (omega arith);
      made = λ b r p h stops'. record {
        ending = Closed;
        parses = at_same w.is (right w.named side (closed_binary p.parses));
        stops = stops';
        low = let low : tree_height b ≤ D - 1 = p.low in omega (arith, joined_height at o a b);
      };
      again = λ b r p not e s v.
          let n = right_here e s v in
          let d = one_tree (D - 1) (Binary (suc k)) _ _ _ _ _ p n.1.0 in
          let h : suc (suc k) < front s = v.stops in
          not (subst (λ (l : List Sign). suc (suc k) < front l) (sym d.1) h);
      ended = λ none' e s v. let n = right_here e s v in none' n.0 s n.1.0 v.stops;
    }

  module _ (side : side_of (suc k) ≡ Once) where
    once_here : (e : Tree) (s : List Sign) → (v : IsTree D (After (suc k) at a) ts e s) → (b : Tree) × (IsTree (D - 1) (Binary k) behind b s × (max (tree_height a) (tree_height b) + 1 ≤ D))
    once_here e s v =
        let n = once_of side w.named (after_at v.parses) v.stops in
        let low : tree_height e ≤ D = v.low in
        let stops : suc (suc k) < front s = v.stops in
        let h : max (tree_height a) (tree_height n.b) + 1 ≤ D = omega (arith, ap tree_height n.is, joined_height at o a n.b) in
        (n.b, (record { ending = Closed; parses = n.parses; stops = omega arith; low = omega arith }, h))

    once_at : RightStep (Binary k) (suc k) D at a o ts behind
    once_at = record {
      refused = λ none' e s v. let n = once_here e s v in none' n.0 s n.1.0;
      high = λ high e s v. let n = once_here e s v in let h : max (tree_height a) (tree_height n.0) + 1 ≤ D = n.1.1 in absurd (omega arith);
      made = λ b r p h stops'. record {
        ending = Closed;
        parses = at_same w.is (once w.named side (closed_binary p.parses));
        stops = stops';
        low = let low : tree_height b ≤ D - 1 = p.low in omega (arith, joined_height at o a b);
      };
      again = λ b r p not e s v.
          let n = once_here e s v in
          let d = one_tree (D - 1) (Binary k) _ _ _ _ _ p n.1.0 in
          let h : suc (suc k) < front s = v.stops in
          not (subst (λ (l : List Sign). suc (suc k) < front l) (sym d.1) h);
      ended = λ none' e s v. let n = once_here e s v in none' n.0 s n.1.0 v.stops;
    }

pub left_step : (k K D at : ℕ) (a : Tree) (o : Operator) (ts behind : List Sign) → suc k ≡ K → OperatorAt K o ts behind → side_of K ≡ ToLeft → LeftStep k K D at a o ts behind
left_step k K D at a o ts behind level = subst (λ (n : ℕ). OperatorAt n o ts behind → side_of n ≡ ToLeft → LeftStep k n D at a o ts behind) level (left_at k D at a o ts behind)

pub right_step : (k K D at : ℕ) (a : Tree) (o : Operator) (ts behind : List Sign) → suc k ≡ K → OperatorAt K o ts behind → side_of K ≡ ToRight → RightStep (Binary K) K D at a o ts behind
right_step k K D at a o ts behind level = subst (λ (n : ℕ). OperatorAt n o ts behind → side_of n ≡ ToRight → RightStep (Binary n) n D at a o ts behind) level (right_at k D at a o ts behind)

pub once_step : (k K D at : ℕ) (a : Tree) (o : Operator) (ts behind : List Sign) → suc k ≡ K → OperatorAt K o ts behind → side_of K ≡ Once → RightStep (Binary k) K D at a o ts behind
once_step k K D at a o ts behind level = subst (λ (n : ℕ). OperatorAt n o ts behind → side_of n ≡ Once → RightStep (Binary k) n D at a o ts behind) level (once_at k D at a o ts behind)

-- a further operator of the same level goes on
pub goes_on : (K : ℕ) (o : Operator) (ts behind : List Sign) → OperatorAt K o ts behind → suc K < front ts → ⊥
goes_on K o ts behind w h = absurd (omega (arith, ap front w.is, front_operator w.at w.symbol behind w.named))

pub past_operator : (K : ℕ) (ts : List Sign) → 1 ≤ K → K ≤ 6 → K < front ts → NoOperator K ts → suc K < front ts
past_operator K ts pos' top h none' = past_level K ts pos' top h none'
