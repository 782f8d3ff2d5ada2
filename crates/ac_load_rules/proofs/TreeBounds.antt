-- The tree of signs within bounds is within them: its constants, and the least number of parts of each node.
use Rattle.std.proofs.Common.{◌≡◌, ◌≤◌, ◌+◌, ◌^◌, ℕ, zero, suc, pos, neg_ℤ, true, List, ◌∷◌, length, Some, None, refl, subst, arith}
use Rattle.std.specs.Prelude.{nat_lt}
use Rattle.std.proofs.lemmas.Bool.{lt-ltb, ltb-true}
use Rattle.ac_types.specs.Limits.{longest_text}
use Rattle.ac_types.proofs.FirstLaws.{some_eq}
use Rattle.ac_types.specs.Exceptions.{has_text}
use Rattle.ac_terms.specs.PrimitiveTypes.{is_exception, primitives}
use Rattle.ac_terms.specs.Bounds.{is_integer, is_string, takes}
use Rattle.ac_syntax.specs.Signs.{Sign, Fixed}
use Rattle.ac_syntax.specs.Trees.{TypeTree, TyTuple, TyList, TyOpt, TyFun, TypeTrees, no_type_trees, type_tree, PatTree, PatVar, PatInt, PatStr, PatTuple, PatCons, PatPresent, PatExn, PatExnOf, PatTrees, no_pat_trees, pat_tree, Tree, ExInt, ExStr, ExExn, ExExnOf, ExTuple, ExNil, ExAbsent, ExPresent, ExCons, ExFun, ExRec, ExApp, ExLet, ExLetRec, ExIf, ExSeq, ExMatch, ExTry, ExRaise, ExAnd, ExOr, ExOp, ExMarshal, ExUnmarshal, Trees, no_trees, tree, ArmTrees, no_arm_trees, arm_tree}
use Rattle.ac_syntax.specs.TypeForms as types
use Rattle.ac_syntax.specs.TypeForms.{TypeLevel, Suffixes, ParsesType, ParsesFactors, IsType}
use Rattle.ac_syntax.specs.Patterns as patterns
use Rattle.ac_syntax.specs.Patterns.{ParsesPat, ParsesPats, PatLevel, exception_sign, exception_with_string}
use Rattle.ac_syntax.specs.Expressions as expressions
use Rattle.ac_syntax.specs.Expressions.{Operator, Prim, Consing, Both, Either, operator_of, operator_tree, Level, After, Args, Ending, Parses, ParsesParts, ParsesItems, ParsesArms, after_bar}
use Rattle.ac_syntax.specs.declared.sign.Symbol.{Symbol}
use Rattle.ac_syntax.specs.declared.sign.Symbol.TheVariants as symbol
use Rattle.ac_syntax.proofs.Exceptions.{nothing_there}
use Rattle.ac_resolve_scopes.specs.Counts.{type_tree_count, pat_count}
use Rattle.ac_resolve_scopes.specs.Searches.{tree_count, arms_written}
use Rattle.ac_load_rules.proofs.SignBounds.{AllFit, Fit, rest_fits, Leaves, here, behind, further, on, left}

-- types

abbrev mutual
  pub TypeHas : TypeTree → Type 0
  TypeHas (TyTuple at parts) = (2 ≤ type_tree_count parts) × TypesHave parts
  TypeHas (TyList at item) = TypeHas item
  TypeHas (TyOpt at item) = TypeHas item
  TypeHas (TyFun at from to) = TypeHas from × TypeHas to
  TypeHas leaf = Unit {0}

  pub TypesHave : TypeTrees → Type 0
  TypesHave no_type_trees = Unit {0}
  TypesHave (type_tree t ts) = TypeHas t × TypesHave ts

pub record TypeRead (t : TypeTree) (ts r : List Sign) : Type 0 where
  pub has : TypeHas t
  pub leaves : Leaves ts r

record FactorsRead (us : TypeTrees) (ts r : List Sign) : Type 0 where
  some : 1 ≤ type_tree_count us
  have : TypesHave us
  leaves : Leaves ts r

-- what stands before a level
abbrev TypeBefore : TypeLevel → Type 0
TypeBefore (Suffixes at t) = TypeHas t
TypeBefore l = Unit {0}

mutual
  type_read : {l : TypeLevel} {ts r : List Sign} {t : TypeTree} → ParsesType l ts t r → TypeBefore l → TypeRead t ts r
  type_read (types.no_arrow p) b = type_read p tt
  type_read (types.arrow p q) b =
      let x = type_read p tt in
      let y = type_read q tt in
      record { has = (x.has, y.has); leaves = on x.leaves y.leaves }
  type_read (types.one_factor p) b = type_read p tt
  type_read (types.factors p q) b =
      let x = type_read p tt in
      let y = factors_read q in
      record { has = ((let h = y.some in omega (arith, h)), (x.has, y.have)); leaves = on x.leaves y.leaves }
  type_read (types.suffixed p q) b =
      let x = type_read p tt in
      let y = type_read q x.has in
      record { has = y.has; leaves = further x.leaves y.leaves }
  type_read types.no_suffix b = record { has = b; leaves = here }
  type_read (types.list_of p) b = let x = type_read p b in record { has = x.has; leaves = behind x.leaves }
  type_read (types.option_of p) b = let x = type_read p b in record { has = x.has; leaves = behind x.leaves }
  type_read types.int b = record { has = tt; leaves = behind here }
  type_read types.bool b = record { has = tt; leaves = behind here }
  type_read types.string b = record { has = tt; leaves = behind here }
  type_read types.unit b = record { has = tt; leaves = behind here }
  type_read types.exn b = record { has = tt; leaves = behind here }
  type_read types.local b = record { has = tt; leaves = behind here }
  type_read types.of_module b = record { has = tt; leaves = behind (behind (behind here)) }
  type_read (types.parens p) b = let x = type_read p tt in record { has = x.has; leaves = behind (on x.leaves here) }

  factors_read : {ts r : List Sign} {us : TypeTrees} → ParsesFactors ts us r → FactorsRead us ts r
  factors_read (types.last_factor p) =
      let x = type_read p tt in
      record { some = omega arith; have = (x.has, tt); leaves = x.leaves }
  factors_read (types.more_factors p q) =
      let x = type_read p tt in
      let y = factors_read q in
      record { some = omega arith; have = (x.has, y.have); leaves = on x.leaves y.leaves }

pub of_type : {ts r : List Sign} {t : TypeTree} → IsType ts t r → TypeRead t ts r
of_type x = type_read x.parses tt

-- constants

one_less : (m n : ℕ) → nat_lt (suc n) m ≡ true → nat_lt n m ≡ true
one_less m n h = let l = ltb-true (suc n) m h in lt-ltb n m (omega (arith, l))

pub negative_fits : (n : ℕ) → nat_lt n (2 ^ 63) ≡ true → is_integer (neg_ℤ (pos n)) ≡ true
negative_fits zero h = h
negative_fits (suc n) h = one_less (2 ^ 63) n h

exception_fits : (t : Symbol) {k : ℕ} → exception_sign t ≡ Some k → is_exception k None ≡ true
exception_fits symbol.NotFound e = subst (λ (k : ℕ). is_exception k None ≡ true) (some_eq e) refl
exception_fits symbol.DivisionByZero e = subst (λ (k : ℕ). is_exception k None ≡ true) (some_eq e) refl
exception_fits symbol.MatchFailure e = subst (λ (k : ℕ). is_exception k None ≡ true) (some_eq e) refl
exception_fits symbol.EndOfFile e = subst (λ (k : ℕ). is_exception k None ≡ true) (some_eq e) refl
exception_fits t e = nothing_there e

with_string_fits : (t : Symbol) {k : ℕ} → exception_with_string t ≡ Some k → has_text k ≡ true
with_string_fits symbol.Failure e = subst (λ (k : ℕ). has_text k ≡ true) (some_eq e) refl
with_string_fits symbol.InvalidArgument e = subst (λ (k : ℕ). has_text k ≡ true) (some_eq e) refl
with_string_fits symbol.SysError e = subst (λ (k : ℕ). has_text k ≡ true) (some_eq e) refl
with_string_fits symbol.MarshalFailure e = subst (λ (k : ℕ). has_text k ≡ true) (some_eq e) refl
with_string_fits symbol.UnmarshalFailure e = subst (λ (k : ℕ). has_text k ≡ true) (some_eq e) refl
with_string_fits symbol.ResolveFailure e = subst (λ (k : ℕ). has_text k ≡ true) (some_eq e) refl
with_string_fits t e = nothing_there e

-- patterns

abbrev mutual
  pub PatHas : PatTree → Type 0
  PatHas (PatVar at name ty) = TypeHas ty
  PatHas (PatInt at n) = is_integer n ≡ true
  PatHas (PatStr at text) = is_string text ≡ true
  PatHas (PatTuple at parts) = (2 ≤ pat_count parts) × PatsHave parts
  PatHas (PatCons at head tail) = PatHas head × PatHas tail
  PatHas (PatPresent at item) = PatHas item
  PatHas (PatExn at k) = is_exception k None ≡ true
  PatHas (PatExnOf at k item) = (has_text k ≡ true) × PatHas item
  PatHas leaf = Unit {0}

  pub PatsHave : PatTrees → Type 0
  PatsHave no_pat_trees = Unit {0}
  PatsHave (pat_tree p ps) = PatHas p × PatsHave ps

record PatRead (p : PatTree) (ts r : List Sign) : Type 0 where
  has : PatHas p
  leaves : Leaves ts r

record PatsRead (ps : PatTrees) (ts r : List Sign) : Type 0 where
  some : 1 ≤ pat_count ps
  have : PatsHave ps
  leaves : Leaves ts r

mutual
  pat_read : {l : PatLevel} {ts r : List Sign} {p : PatTree} → ParsesPat l ts p r → AllFit ts → PatRead p ts r
  pat_read (patterns.no_cons p) f = pat_read p f
  pat_read (patterns.cons p q) f =
      let x = pat_read p f in
      let y = pat_read q (x.leaves.fit f).1 in
      record { has = (x.has, y.has); leaves = on x.leaves y.leaves }
  pat_read (patterns.some p) f = let x = pat_read p f.1 in record { has = x.has; leaves = behind x.leaves }
  pat_read (patterns.exn_with_string {t = t} e p) f =
      let x = pat_read p f.1 in
      record { has = (with_string_fits t e, x.has); leaves = behind x.leaves }
  pat_read (patterns.single p) f = pat_read p f
  pat_read patterns.wild f = record { has = tt; leaves = behind here }
  pat_read (patterns.var T) f =
      let x = of_type T in
      record { has = x.has; leaves = behind (behind (behind (on x.leaves here))) }
  pat_read patterns.number f = record { has = f.0; leaves = behind here }
  pat_read (patterns.negative {n = n}) f = record { has = negative_fits n f.1.0; leaves = behind (behind here) }
  pat_read patterns.string f = record { has = f.0; leaves = behind here }
  pat_read patterns.true_ f = record { has = tt; leaves = behind here }
  pat_read patterns.false_ f = record { has = tt; leaves = behind here }
  pat_read patterns.unit f = record { has = tt; leaves = behind (behind here) }
  pat_read patterns.nil f = record { has = tt; leaves = behind (behind here) }
  pat_read patterns.none f = record { has = tt; leaves = behind here }
  pat_read (patterns.exn {t = t} e) f = record { has = exception_fits t e; leaves = behind here }
  pat_read (patterns.parens p) f = let x = pat_read p f.1 in record { has = x.has; leaves = behind (on x.leaves here) }
  pat_read (patterns.tuple p q) f =
      let x = pat_read p f.1 in
      let y = pats_read q (x.leaves.fit f.1).1 in
      record { has = ((let h = y.some in omega (arith, h)), (x.has, y.have)); leaves = behind (on x.leaves y.leaves) }

  pats_read : {ts r : List Sign} {ps : PatTrees} → ParsesPats ts ps r → AllFit ts → PatsRead ps ts r
  pats_read (patterns.last_pat p) f =
      let x = pat_read p f in
      record { some = omega arith; have = (x.has, tt); leaves = on x.leaves here }
  pats_read (patterns.more_pats p q) f =
      let x = pat_read p f in
      let y = pats_read q (x.leaves.fit f).1 in
      record { some = omega arith; have = (x.has, y.have); leaves = on x.leaves y.leaves }

-- expressions

abbrev mutual
  pub TreeHas : Tree → Type 0
  TreeHas (ExInt at n) = is_integer n ≡ true
  TreeHas (ExStr at text) = is_string text ≡ true
  TreeHas (ExExn at k) = is_exception k None ≡ true
  TreeHas (ExExnOf at k a) = (has_text k ≡ true) × TreeHas a
  TreeHas (ExTuple at parts) = (2 ≤ tree_count parts) × TreesHave parts
  TreeHas (ExNil at T) = TypeHas T
  TreeHas (ExAbsent at T) = TypeHas T
  TreeHas (ExPresent at a) = TreeHas a
  TreeHas (ExCons at a b) = TreeHas a × TreeHas b
  TreeHas (ExFun at x T b) = TypeHas T × TreeHas b
  TreeHas (ExRec at f x T U b) = TypeHas T × TypeHas U × TreeHas b
  TreeHas (ExApp at f a) = TreeHas f × TreeHas a
  TreeHas (ExLet at x T a b) = TypeHas T × TreeHas a × TreeHas b
  TreeHas (ExLetRec at f x T U a b) = TypeHas T × TypeHas U × TreeHas a × TreeHas b
  TreeHas (ExIf at c a b) = TreeHas c × TreeHas a × TreeHas b
  TreeHas (ExSeq at parts) = (2 ≤ tree_count parts) × (tree_count parts ≤ longest_text + 1) × TreesHave parts
  TreeHas (ExMatch at a arms) = TreeHas a × (1 ≤ arms_written arms) × ArmsHave arms
  TreeHas (ExTry at a arms) = TreeHas a × (1 ≤ arms_written arms) × ArmsHave arms
  TreeHas (ExRaise at a T) = TreeHas a × TypeHas T
  TreeHas (ExAnd at a b) = TreeHas a × TreeHas b
  TreeHas (ExOr at a b) = TreeHas a × TreeHas b
  TreeHas (ExOp at k parts) = (takes primitives k (tree_count parts) ≡ true) × TreesHave parts
  TreeHas (ExMarshal at a b T) = TreeHas a × TreeHas b × TypeHas T
  TreeHas (ExUnmarshal at a T) = TreeHas a × TypeHas T
  TreeHas leaf = Unit {0}

  pub TreesHave : Trees → Type 0
  TreesHave no_trees = Unit {0}
  TreesHave (tree t ts) = TreeHas t × TreesHave ts

  pub ArmsHave : ArmTrees → Type 0
  ArmsHave no_arm_trees = Unit {0}
  ArmsHave (arm_tree p b arms) = PatHas p × TreeHas b × ArmsHave arms

pub record TreeRead (e : Tree) (ts r : List Sign) : Type 0 where
  pub has : TreeHas e
  pub leaves : Leaves ts r

-- the parts behind the first, each with a sign in front of it
record PartsRead (es : Trees) (ts r : List Sign) : Type 0 where
  some : 1 ≤ tree_count es
  few : tree_count es ≤ length ts + 1
  have : TreesHave es
  leaves : Leaves ts r

record ArmsRead (arms : ArmTrees) (ts r : List Sign) : Type 0 where
  some : 1 ≤ arms_written arms
  have : ArmsHave arms
  leaves : Leaves ts r

-- a primitive between two sides takes two arguments
abbrev TakesTwo : Operator → Type 0
TakesTwo (Prim k) = takes primitives k 2 ≡ true
TakesTwo o = Unit {0}

operator_takes : (t : Symbol) {k : ℕ} {o : Operator} → operator_of t ≡ Some (k, o) → TakesTwo o
operator_takes symbol.Star e = subst (λ (x : ℕ × Operator). TakesTwo x.1) (some_eq e) refl
operator_takes symbol.Slash e = subst (λ (x : ℕ × Operator). TakesTwo x.1) (some_eq e) refl
operator_takes symbol.Mod e = subst (λ (x : ℕ × Operator). TakesTwo x.1) (some_eq e) refl
operator_takes symbol.Plus e = subst (λ (x : ℕ × Operator). TakesTwo x.1) (some_eq e) refl
operator_takes symbol.Minus e = subst (λ (x : ℕ × Operator). TakesTwo x.1) (some_eq e) refl
operator_takes symbol.Caret e = subst (λ (x : ℕ × Operator). TakesTwo x.1) (some_eq e) refl
operator_takes symbol.Cons e = subst (λ (x : ℕ × Operator). TakesTwo x.1) (some_eq e) tt
operator_takes symbol.Equals e = subst (λ (x : ℕ × Operator). TakesTwo x.1) (some_eq e) refl
operator_takes symbol.Less e = subst (λ (x : ℕ × Operator). TakesTwo x.1) (some_eq e) refl
operator_takes symbol.And e = subst (λ (x : ℕ × Operator). TakesTwo x.1) (some_eq e) tt
operator_takes symbol.Or e = subst (λ (x : ℕ × Operator). TakesTwo x.1) (some_eq e) tt
operator_takes t e = nothing_there e

joined_has : (at : ℕ) (o : Operator) (a b : Tree) → TakesTwo o → TreeHas a → TreeHas b → TreeHas (operator_tree at o a b)
joined_has at (Prim k) a b t h m = (t, (h, (m, tt)))
joined_has at Consing a b t h k = (h, k)
joined_has at Both a b t h k = (h, k)
joined_has at Either a b t h k = (h, k)

-- what stands before a level
abbrev Before : Level → Type 0
Before (After k at a) = TreeHas a
Before (Args at f) = TreeHas f
Before l = Unit {0}

-- a `|` in front of the arms is left out
without_bar : (ts : List Sign) → Leaves ts (after_bar ts)
without_bar (Fixed a symbol.Bar ∷ ts) = behind here
without_bar ts = here

mutual
  pub tree_read : {l : Level} {k : Ending} {ts r : List Sign} {e : Tree} → Parses l k ts e r → Before l → Fit ts → TreeRead e ts r
  tree_read (expressions.alone p) b f = tree_read p tt f
  tree_read (expressions.sequence p q) b f =
      let x = tree_read p tt f in
      let y = parts_read q (rest_fits (left x.leaves f)) in
      record {
        has = (
          (let h = y.some in omega (arith, h)),
          (let h = y.few in let k = x.leaves.fewer in let m = f.few in omega (arith, h, k, m)),
          (x.has, y.have),
        );
        leaves = on x.leaves y.leaves;
      }
  tree_read (expressions.let_in T p q) b f =
      let t = of_type T in
      let g = rest_fits (left t.leaves (rest_fits (rest_fits (rest_fits f)))) in
      let x = tree_read p tt g in
      let y = tree_read q tt (rest_fits (left x.leaves g)) in
      record { has = (t.has, x.has, y.has); leaves = behind (behind (behind (on t.leaves (on x.leaves y.leaves)))) }
  tree_read (expressions.let_rec T U p q) b f =
      let t = of_type T in
      let u = of_type U in
      let g = rest_fits (left u.leaves (rest_fits (rest_fits (left t.leaves (rest_fits (rest_fits (rest_fits (rest_fits (rest_fits (rest_fits f)))))))))) in
      let x = tree_read p tt g in
      let y = tree_read q tt (rest_fits (left x.leaves g)) in
      record {
        has = (t.has, u.has, x.has, y.has);
        leaves = behind (behind (behind (behind (behind (behind (on t.leaves (behind (on u.leaves (on x.leaves y.leaves)))))))));
      }
  tree_read (expressions.fun T p) b f =
      let t = of_type T in
      let x = tree_read p tt (rest_fits (rest_fits (left t.leaves (rest_fits (rest_fits (rest_fits (rest_fits f))))))) in
      record { has = (t.has, x.has); leaves = behind (behind (behind (behind (on t.leaves (behind x.leaves))))) }
  tree_read (expressions.rec T U p) b f =
      let t = of_type T in
      let u = of_type U in
      let x = tree_read p tt (rest_fits (left u.leaves (rest_fits (rest_fits (left t.leaves (rest_fits (rest_fits (rest_fits (rest_fits (rest_fits f)))))))))) in
      record { has = (t.has, u.has, x.has); leaves = behind (behind (behind (behind (behind (on t.leaves (behind (on u.leaves x.leaves))))))) }
  tree_read (expressions.if_else p q w) b f =
      let x = tree_read p tt (rest_fits f) in
      let g = rest_fits (left x.leaves (rest_fits f)) in
      let y = tree_read q tt g in
      let z = tree_read w tt (rest_fits (left y.leaves g)) in
      record { has = (x.has, y.has, z.has); leaves = behind (on x.leaves (on y.leaves z.leaves)) }
  tree_read (expressions.marshal p q T) b f =
      let x = tree_read p tt (rest_fits f) in
      let y = tree_read q tt (left x.leaves (rest_fits f)) in
      let t = of_type T in
      record { has = (x.has, y.has, t.has); leaves = behind (further x.leaves (on y.leaves t.leaves)) }
  tree_read (expressions.unmarshal p T) b f =
      let x = tree_read p tt (rest_fits f) in
      let t = of_type T in
      record { has = (x.has, t.has); leaves = behind (on x.leaves t.leaves) }
  tree_read (expressions.raise p T) b f =
      let x = tree_read p tt (rest_fits f) in
      let t = of_type T in
      record { has = (x.has, t.has); leaves = behind (on x.leaves t.leaves) }
  tree_read (expressions.operators p) b f = tree_read p tt f
  tree_read (expressions.binary p q) b f =
      let x = tree_read p tt f in
      let y = tree_read q x.has (left x.leaves f) in
      record { has = y.has; leaves = further x.leaves y.leaves }
  tree_read (expressions.unary p) b f = tree_read p tt f
  tree_read expressions.stop b f = record { has = b; leaves = here }
  tree_read (expressions.left {at = at} {t = t} {o = o} level side p q) b f =
      let x = tree_read p tt (rest_fits f) in
      let y = tree_read q (joined_has at o _ _ (operator_takes t level) b x.has) (left x.leaves (rest_fits f)) in
      record { has = y.has; leaves = behind (further x.leaves y.leaves) }
  tree_read (expressions.right {at = at} {t = t} {o = o} level side p) b f =
      let x = tree_read p tt (rest_fits f) in
      record { has = joined_has at o _ _ (operator_takes t level) b x.has; leaves = behind x.leaves }
  tree_read (expressions.once {at = at} {t = t} {o = o} level side p) b f =
      let x = tree_read p tt (rest_fits f) in
      record { has = joined_has at o _ _ (operator_takes t level) b x.has; leaves = behind x.leaves }
  tree_read (expressions.minus bare p) b f =
      let x = tree_read p tt (rest_fits f) in
      record { has = (refl, (x.has, tt)); leaves = behind x.leaves }
  tree_read (expressions.negative {n = n}) b f = record { has = negative_fits n f.all.1.0; leaves = behind (behind here) }
  tree_read (expressions.not_ p) b f =
      let x = tree_read p tt (rest_fits f) in
      record { has = (refl, (x.has, tt)); leaves = behind x.leaves }
  tree_read (expressions.app p) b f = tree_read p tt f
  tree_read (expressions.some p) b f =
      let x = tree_read p tt (rest_fits f) in
      record { has = x.has; leaves = behind x.leaves }
  tree_read (expressions.exn_with_string {t = t} e p) b f =
      let x = tree_read p tt (rest_fits f) in
      record { has = (with_string_fits t e, x.has); leaves = behind x.leaves }
  tree_read (expressions.applied p q) b f =
      let x = tree_read p tt f in
      let y = tree_read q x.has (left x.leaves f) in
      record { has = y.has; leaves = further x.leaves y.leaves }
  tree_read expressions.no_argument b f = record { has = b; leaves = here }
  tree_read (expressions.argument p q) b f =
      let x = tree_read p tt f in
      let y = tree_read q (b, x.has) (left x.leaves f) in
      record { has = y.has; leaves = further x.leaves y.leaves }
  tree_read expressions.number b f = record { has = f.all.0; leaves = behind here }
  tree_read expressions.string b f = record { has = f.all.0; leaves = behind here }
  tree_read expressions.true_ b f = record { has = tt; leaves = behind here }
  tree_read expressions.false_ b f = record { has = tt; leaves = behind here }
  tree_read expressions.unit b f = record { has = tt; leaves = behind (behind here) }
  tree_read (expressions.exn {t = t} e) b f = record { has = exception_fits t e; leaves = behind here }
  tree_read expressions.var b f = record { has = tt; leaves = behind here }
  tree_read expressions.of_module b f = record { has = tt; leaves = behind (behind (behind here)) }
  tree_read (expressions.parens p) b f =
      let x = tree_read p tt (rest_fits f) in
      record { has = x.has; leaves = behind (on x.leaves here) }
  tree_read (expressions.tuple p q) b f =
      let x = tree_read p tt (rest_fits f) in
      let y = items_read q (rest_fits (left x.leaves (rest_fits f))) in
      record { has = ((let h = y.some in omega (arith, h)), (x.has, y.have)); leaves = behind (on x.leaves y.leaves) }
  tree_read (expressions.nil T) b f =
      let t = of_type T in
      record { has = t.has; leaves = behind (behind (behind (behind (on t.leaves here)))) }
  tree_read (expressions.none T) b f =
      let t = of_type T in
      record { has = t.has; leaves = behind (behind (behind (on t.leaves here))) }
  tree_read (expressions.match_with {r = r} p q) b f =
      let x = tree_read p tt (rest_fits f) in
      let bar = without_bar r in
      let y = arms_read q (left bar (rest_fits (left x.leaves (rest_fits f)))) in
      record { has = (x.has, y.some, y.have); leaves = behind (on x.leaves (further bar y.leaves)) }
  tree_read (expressions.try_with {r = r} p q) b f =
      let x = tree_read p tt (rest_fits f) in
      let bar = without_bar r in
      let y = arms_read q (left bar (rest_fits (left x.leaves (rest_fits f)))) in
      record { has = (x.has, y.some, y.have); leaves = behind (on x.leaves (further bar y.leaves)) }

  parts_read : {k : Ending} {ts r : List Sign} {es : Trees} → ParsesParts k ts es r → Fit ts → PartsRead es ts r
  parts_read (expressions.last_part p) f =
      let x = tree_read p tt f in
      record { some = omega arith; few = omega arith; have = (x.has, tt); leaves = x.leaves }
  parts_read (expressions.more_parts p q) f =
      let x = tree_read p tt f in
      let y = parts_read q (rest_fits (left x.leaves f)) in
      record { some = omega arith; few = let h = y.few in let k = x.leaves.fewer in omega (arith, h, k); have = (x.has, y.have); leaves = on x.leaves y.leaves }

  items_read : {ts r : List Sign} {es : Trees} → ParsesItems ts es r → Fit ts → PartsRead es ts r
  items_read (expressions.last_item p) f =
      let x = tree_read p tt f in
      record { some = omega arith; few = omega arith; have = (x.has, tt); leaves = on x.leaves here }
  items_read (expressions.more_items p q) f =
      let x = tree_read p tt f in
      let y = items_read q (rest_fits (left x.leaves f)) in
      record { some = omega arith; few = let h = y.few in let k = x.leaves.fewer in omega (arith, h, k); have = (x.has, y.have); leaves = on x.leaves y.leaves }

  arms_read : {ts r : List Sign} {arms : ArmTrees} → ParsesArms ts arms r → Fit ts → ArmsRead arms ts r
  arms_read (expressions.last_arm P p) f =
      let pattern = pat_read P.parses f.all in
      let x = tree_read p tt (rest_fits (left pattern.leaves f)) in
      record { some = omega arith; have = (pattern.has, x.has, tt); leaves = on pattern.leaves (on x.leaves here) }
  arms_read (expressions.more_arms P p q) f =
      let pattern = pat_read P.parses f.all in
      let g = rest_fits (left pattern.leaves f) in
      let x = tree_read p tt g in
      let y = arms_read q (rest_fits (left x.leaves g)) in
      record { some = omega arith; have = (pattern.has, x.has, y.have); leaves = on pattern.leaves (on x.leaves y.leaves) }
