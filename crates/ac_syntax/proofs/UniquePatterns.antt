-- Signs have at most one pattern at their front behind which nothing goes on with it.
use Rattle.std.proofs.Common.{◌≡◌, ◌<◌, ℕ, Bool, true, false, List, ◌∷◌, Some, refl, sym, ◌∙◌, ap, subst, arith}
use Rattle.ac_syntax.specs.Signs.{Sign, Int, Str, Lower, Fixed}
use Rattle.ac_syntax.specs.Trees.{PatTree, PatTrees, no_pat_trees, pat_tree}
use Rattle.ac_syntax.specs.Patterns.{exception_sign, exception_with_string, PatLevel, Single, ParsesPat, ParsesPats, no_cons, cons, some, exn_with_string, single, wild, var, number, negative, string, true_, false_, unit, nil, none, exn, parens, tuple, last_pat, more_pats, pat_front, PatStops, IsPattern}
use Rattle.ac_syntax.specs.declared.sign.Symbol.{Symbol}
use Rattle.ac_syntax.specs.declared.sign.Symbol.TheVariants.{Open, Close, OpenSquare, Minus, Cons, Wild, True, False, NoneWord, Failure, InvalidArgument, NotFound, DivisionByZero, MatchFailure, EndOfFile, SysError, MarshalFailure, UnmarshalFailure, ResolveFailure}
use Rattle.ac_syntax.proofs.Exceptions.{apart, nothing_there, same_value, close_is_no_comma}
use Rattle.ac_syntax.proofs.UniqueTypes.{tail_eq, same_type}

-- with which signs a single pattern begins
abbrev pub symbol_begins_single : Symbol → Bool
symbol_begins_single Open = true
symbol_begins_single Minus = true
symbol_begins_single True = true
symbol_begins_single False = true
symbol_begins_single OpenSquare = true
symbol_begins_single NoneWord = true
symbol_begins_single Wild = true
symbol_begins_single NotFound = true
symbol_begins_single DivisionByZero = true
symbol_begins_single MatchFailure = true
symbol_begins_single EndOfFile = true
symbol_begins_single s = false

abbrev pub begins_single : List Sign → Bool
begins_single (Int a n ∷ ts) = true
begins_single (Str a x ∷ ts) = true
begins_single (Fixed a t ∷ ts) = symbol_begins_single t
begins_single ts = false

exception_begins : {k : ℕ} (t : Symbol) → exception_sign t ≡ Some k → symbol_begins_single t ≡ true
exception_begins NotFound e = refl
exception_begins DivisionByZero e = refl
exception_begins MatchFailure e = refl
exception_begins EndOfFile e = refl
exception_begins t e = nothing_there e

with_string_begins_none : {P : Type 0} {k : ℕ} (t : Symbol) → exception_with_string t ≡ Some k → symbol_begins_single t ≡ true → P
with_string_begins_none Failure e b = apart b
with_string_begins_none InvalidArgument e b = apart b
with_string_begins_none SysError e b = apart b
with_string_begins_none MarshalFailure e b = apart b
with_string_begins_none UnmarshalFailure e b = apart b
with_string_begins_none ResolveFailure e b = apart b
with_string_begins_none t e b = nothing_there e

pub single_begins : {ts r : List Sign} {p : PatTree} → ParsesPat Single ts p r → begins_single ts ≡ true
single_begins wild = refl
single_begins (var T) = refl
single_begins number = refl
single_begins negative = refl
single_begins string = refl
single_begins true_ = refl
single_begins false_ = refl
single_begins unit = refl
single_begins nil = refl
single_begins none = refl
single_begins (exn {t = t} e) = exception_begins t e
single_begins (parens p) = refl
single_begins (tuple p q) = refl

single_not : {P : Type 0} {ts r : List Sign} {p : PatTree} → ParsesPat Single ts p r → begins_single ts ≡ false → P
single_not p e = apart (sym e ∙ single_begins p)

-- no pattern begins with a name or a `)`
pub name_begins_none : {P : Type 0} {l : PatLevel} {a : ℕ} {x : List ℕ} {ts r : List Sign} {p : PatTree} → ParsesPat l (Lower a x ∷ ts) p r → P
name_begins_none (no_cons p) = name_begins_none p
name_begins_none (cons p q) = name_begins_none p
name_begins_none (single p) = single_not p refl

pub close_begins_none : {P : Type 0} {l : PatLevel} {a : ℕ} {ts r : List Sign} {p : PatTree} → ParsesPat l (Fixed a Close ∷ ts) p r → P
close_begins_none (no_cons p) = close_begins_none p
close_begins_none (cons p q) = close_begins_none p
close_begins_none (exn_with_string e p) = nothing_there e
close_begins_none (single p) = single_not p refl
close_begins_none (exn e) = nothing_there e

cons_goes_on : {P : Type 0} {a : ℕ} (r s : List Sign) → r ≡ Fixed a Cons ∷ s → 1 < pat_front r → P
cons_goes_on r s is h = absurd (omega (arith, ap pat_front is))

pub record SamePat (p q : PatTree) (r s : List Sign) : Type 0 where
  pub tree : p ≡ q
  pub rest : r ≡ s

pub record SamePats (ps qs : PatTrees) (r s : List Sign) : Type 0 where
  pub trees : ps ≡ qs
  pub rest : r ≡ s

same_here : {p : PatTree} {r : List Sign} → SamePat p p r r
same_here = record { tree = refl; rest = refl }

at_same : {l : PatLevel} {r s v : List Sign} {p : PatTree} → r ≡ s → ParsesPat l s p v → ParsesPat l r p v
at_same {l} {r} {s} {v} {p} e q = subst (λ (u : List Sign). ParsesPat l u p v) (sym e) q

pats_at_same : {r s v : List Sign} {ps : PatTrees} → r ≡ s → ParsesPats s ps v → ParsesPats r ps v
pats_at_same {r} {s} {v} {ps} e q = subst (λ (u : List Sign). ParsesPats u ps v) (sym e) q

mutual
  pub unique_pat : {l : PatLevel} {ts r s : List Sign} {p q : PatTree} → ParsesPat l ts p r → ParsesPat l ts q s → PatStops l r → PatStops l s → SamePat p q r s
  unique_pat (no_cons p) (no_cons q) x y = unique_pat p q (omega arith) (omega arith)
  unique_pat (no_cons p) (cons q w) x y = cons_goes_on _ _ (unique_pat p q (omega arith) (omega arith)).rest x
  unique_pat (cons p v) (no_cons q) x y = cons_goes_on _ _ (sym (unique_pat p q (omega arith) (omega arith)).rest) y
  unique_pat (cons p v) (cons q w) x y =
      let d = unique_pat p q (omega arith) (omega arith) in
      let h = unique_pat v (at_same (tail_eq d.rest) w) x y in
      record { tree = let a = d.tree in let b = h.tree in cc; rest = h.rest }
  unique_pat (some p) (some q) x y =
      let d = unique_pat p q x y in record { tree = let a = d.tree in cc; rest = d.rest }
  unique_pat (some p) (exn_with_string e q) x y = nothing_there e
  unique_pat (exn_with_string e p) (some q) x y = nothing_there e
  unique_pat (some p) (single q) x y = single_not q refl
  unique_pat (single p) (some q) x y = single_not p refl
  unique_pat (exn_with_string e p) (exn_with_string f q) x y =
      let k = same_value e f in
      let d = unique_pat p q x y in
      record { tree = let a = d.tree in cc; rest = d.rest }
  unique_pat (exn_with_string e p) (single q) x y = with_string_begins_none _ e (single_begins q)
  unique_pat (single p) (exn_with_string e q) x y = with_string_begins_none _ e (single_begins p)
  unique_pat (single p) (single q) x y = unique_pat p q x y
  unique_pat wild wild x y = same_here
  unique_pat number number x y = same_here
  unique_pat negative negative x y = same_here
  unique_pat string string x y = same_here
  unique_pat true_ true_ x y = same_here
  unique_pat false_ false_ x y = same_here
  unique_pat unit unit x y = same_here
  unique_pat nil nil x y = same_here
  unique_pat none none x y = same_here
  unique_pat (exn e) (exn f) x y = record { tree = let k = same_value e f in cc; rest = refl }
  unique_pat (exn e) wild x y = nothing_there e
  unique_pat (exn e) (var T) x y = nothing_there e
  unique_pat (exn e) negative x y = nothing_there e
  unique_pat (exn e) true_ x y = nothing_there e
  unique_pat (exn e) false_ x y = nothing_there e
  unique_pat (exn e) unit x y = nothing_there e
  unique_pat (exn e) nil x y = nothing_there e
  unique_pat (exn e) none x y = nothing_there e
  unique_pat (exn e) (parens q) x y = nothing_there e
  unique_pat (exn e) (tuple q w) x y = nothing_there e
  unique_pat wild (exn e) x y = nothing_there e
  unique_pat (var T) (exn e) x y = nothing_there e
  unique_pat negative (exn e) x y = nothing_there e
  unique_pat true_ (exn e) x y = nothing_there e
  unique_pat false_ (exn e) x y = nothing_there e
  unique_pat unit (exn e) x y = nothing_there e
  unique_pat nil (exn e) x y = nothing_there e
  unique_pat none (exn e) x y = nothing_there e
  unique_pat (parens p) (exn e) x y = nothing_there e
  unique_pat (tuple p v) (exn e) x y = nothing_there e
  unique_pat (var T) (var U) x y =
      let d = same_type T U in record { tree = let t = d.tree in cc; rest = tail_eq d.rest }
  unique_pat (var T) (parens q) x y = name_begins_none q
  unique_pat (var T) (tuple q w) x y = name_begins_none q
  unique_pat (parens p) (var U) x y = name_begins_none p
  unique_pat (tuple p v) (var U) x y = name_begins_none p
  unique_pat unit (parens q) x y = close_begins_none q
  unique_pat unit (tuple q w) x y = close_begins_none q
  unique_pat (parens p) unit x y = close_begins_none p
  unique_pat (tuple p v) unit x y = close_begins_none p
  unique_pat (parens p) (parens q) x y =
      let d = unique_pat p q (omega arith) (omega arith) in record { tree = d.tree; rest = tail_eq d.rest }
  unique_pat (parens p) (tuple q w) x y = close_is_no_comma (unique_pat p q (omega arith) (omega arith)).rest
  unique_pat (tuple p v) (parens q) x y = close_is_no_comma (sym (unique_pat p q (omega arith) (omega arith)).rest)
  unique_pat (tuple p v) (tuple q w) x y =
      let d = unique_pat p q (omega arith) (omega arith) in
      let h = unique_pats v (pats_at_same (tail_eq d.rest) w) in
      record { tree = let a = d.tree in let b = h.trees in cc; rest = h.rest }

  pub unique_pats : {ts r s : List Sign} {ps qs : PatTrees} → ParsesPats ts ps r → ParsesPats ts qs s → SamePats ps qs r s
  unique_pats (last_pat p) (last_pat q) =
      let d = unique_pat p q (omega arith) (omega arith) in
      record { trees = ap (λ (t : PatTree). pat_tree t no_pat_trees) d.tree; rest = tail_eq d.rest }
  unique_pats (last_pat p) (more_pats q w) = close_is_no_comma (unique_pat p q (omega arith) (omega arith)).rest
  unique_pats (more_pats p v) (last_pat q) = close_is_no_comma (sym (unique_pat p q (omega arith) (omega arith)).rest)
  unique_pats (more_pats p v) (more_pats q w) =
      let d = unique_pat p q (omega arith) (omega arith) in
      let h = unique_pats v (pats_at_same (tail_eq d.rest) w) in
      record { trees = let a = d.tree in let b = h.trees in cc; rest = h.rest }

pub same_pattern : {ts r s : List Sign} {p q : PatTree} → IsPattern ts p r → IsPattern ts q s → SamePat p q r s
same_pattern p q = unique_pat p.parses q.parses p.stops q.stops
