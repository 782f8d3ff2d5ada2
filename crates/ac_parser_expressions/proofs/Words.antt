-- The steps of the parsers of parts that begin with a word, over lists of signs.
use Rattle.std.proofs.Common.{◌≡◌, ◌<◌, ◌≤◌, ◌-◌, ℕ, List, ◌∷◌, refl, sym, ◌∙◌, ap, subst, arith}
use Rattle.ac_types.specs.Types.{Bytes}
use Rattle.ac_syntax.specs.Signs.{Sign, Lower, Fixed}
use Rattle.ac_syntax.specs.Trees.{NameAt, TypeTree, Tree, tree_height}
use Rattle.ac_syntax.specs.TypeForms.{IsType}
use Rattle.ac_syntax.specs.Expressions.{Expr, Part, Binary, Atom, Ending, Closed, Swallow, Parses, let_in, let_rec, fun, rec, if_else, marshal, unmarshal, raise, operators, Stops, IsTree}
use Rattle.ac_syntax.specs.PartParsing.{SymbolAt, NoSymbol}
use Rattle.ac_syntax.specs.declared.sign.Symbol.{Symbol}
use Rattle.ac_syntax.specs.declared.sign.Symbol.TheVariants.{Open, Close, Colon, Equals, Fun, If, Let, Marshal, Raise, Rec, Unmarshal}
use Rattle.ac_syntax.proofs.Fronts.{begins_not, front_positive}
use Rattle.ac_syntax.proofs.UniqueExpressions.{at_same}
use Rattle.ac_parser_expressions.specs.inner.Levels.{NoTree, NoKeyword, IsLet, IsLetRec, IsFun, IsRec, IsIf, IsMarshal, IsUnmarshal, IsRaise}
use Rattle.ac_parser_patterns.specs.Reading.{Nothing}
use Rattle.ac_parser_expressions.specs.declared.keywords.Keyword.TheVariants as keyword
use Rattle.ac_parser_patterns.specs.Pieces.{Before, Made, IsTypedBinder, IsArgument, IsHead}
use Rattle.ac_parser_patterns.specs.Forms.{let_tree, let_rec_tree, fun_tree, rec_tree, if_tree, marshal_tree, unmarshal_tree, raise_tree}
use Rattle.ac_parser_expressions.proofs.Levels.{closed_atom, closed_binary}

-- operators

pub operators_tree : (D : ℕ) (ts s : List Sign) (e : Tree) → IsTree D (Binary 6) ts e s → IsTree D Part ts e s
operators_tree D ts s e o = record { ending = Closed; parses = operators (closed_binary o.parses); stops = o.stops; low = o.low }

operators_of : {k : Ending} {ts s : List Sign} {e : Tree} → NoKeyword ts → Parses Part k ts e s → Stops Part k s → IsTree (tree_height e) (Binary 6) ts e s
operators_of none (let_in {p = p} T a b) h = absurd (none keyword.Let _ (record { at = p; is = refl }))
operators_of none (let_rec {p = p} T U a b) h = absurd (none keyword.Let _ (record { at = p; is = refl }))
operators_of none (fun {p = p} T a) h = absurd (none keyword.Fun _ (record { at = p; is = refl }))
operators_of none (rec {p = p} T U a) h = absurd (none keyword.Rec _ (record { at = p; is = refl }))
operators_of none (if_else {p = p} c a b) h = absurd (none keyword.If _ (record { at = p; is = refl }))
operators_of none (marshal {p = p} a b T) h = absurd (none keyword.Marshal _ (record { at = p; is = refl }))
operators_of none (unmarshal {p = p} a T) h = absurd (none keyword.Unmarshal _ (record { at = p; is = refl }))
operators_of none (raise {p = p} a T) h = absurd (none keyword.Raise _ (record { at = p; is = refl }))
operators_of none (operators p) h = record { ending = Closed; parses = p; stops = h; low = omega arith }

pub operators_none : (D : ℕ) (ts : List Sign) → NoKeyword ts → NoTree D (Binary 6) ts → NoTree D Part ts
operators_none D ts no_word none e s o =
    let n = operators_of no_word o.parses o.stops in none e s (record { ending = n.ending; parses = n.parses; stops = n.stops; low = o.low })

-- names with their types

typed_at : {t : Symbol} {ts s : List Sign} {x : Bytes} {q c d : ℕ} {T : TypeTree} → IsType ts T (Fixed d t ∷ s) → IsTypedBinder t (Lower q x ∷ Fixed c Colon ∷ ts) (record { at = q; word = x }, T) s
typed_at {ts = ts} {c = c} {d = d} T = record { middle = Fixed c Colon ∷ ts; first = refl; second = record { middle = ts; at = record { at = c; is = refl }; then = record { middle = _; first = T; at = record { at = d; is = refl } } } }

record Typed (t : Symbol) (ts : List Sign) (x : NameAt × TypeTree) (s : List Sign) : Type 0 where
  colon : ℕ
  end : ℕ
  inner : List Sign
  is : ts ≡ Lower x.0.at x.0.word ∷ Fixed colon Colon ∷ inner
  ty : IsType inner x.1 (Fixed end t ∷ s)

typed_of : {t : Symbol} {ts s : List Sign} {x : NameAt × TypeTree} → IsTypedBinder t ts x s → Typed t ts x s
typed_of {x = x} w = record {
  colon = w.second.at.at;
  end = w.second.then.at.at;
  inner = w.second.middle;
  is = w.first ∙ ap (λ (l : List Sign). Lower x.0.at x.0.word ∷ l) w.second.at.is;
  ty = subst (λ (l : List Sign). IsType w.second.middle x.1 l) w.second.then.at.is w.second.then.first;
}

argument_at : {ts s : List Sign} {x : Bytes} {o q c d : ℕ} {T : TypeTree} → IsType ts T (Fixed d Close ∷ s) → IsArgument (Fixed o Open ∷ Lower q x ∷ Fixed c Colon ∷ ts) (record { at = q; word = x }, T) s
argument_at {o = o} T = record { middle = _; at = record { at = o; is = refl }; then = typed_at T }

head_at : {ts r s : List Sign} {x y : Bytes} {p o q c d h i : ℕ} {T U : TypeTree} → IsType ts T (Fixed d Close ∷ Fixed h Colon ∷ r) → IsType r U (Fixed i Equals ∷ s)
    → IsHead (Lower p x ∷ Fixed o Open ∷ Lower q y ∷ Fixed c Colon ∷ ts) (record { at = p; word = x }, ((record { at = q; word = y }, T), U)) s
head_at {r = r} {h = h} {i = i} T U = record {
  middle = _;
  first = refl;
  second = record {
    middle = Fixed h Colon ∷ r;
    first = argument_at T;
    second = record { middle = r; at = record { at = h; is = refl }; then = record { middle = _; first = U; at = record { at = i; is = refl } } };
  };
}

record Argument (ts : List Sign) (x : NameAt × TypeTree) (s : List Sign) : Type 0 where
  open_ : ℕ
  colon : ℕ
  end : ℕ
  inner : List Sign
  is : ts ≡ Fixed open_ Open ∷ Lower x.0.at x.0.word ∷ Fixed colon Colon ∷ inner
  ty : IsType inner x.1 (Fixed end Close ∷ s)

argument_of : {ts s : List Sign} {x : NameAt × TypeTree} → IsArgument ts x s → Argument ts x s
argument_of w =
    let t = typed_of w.then in
    record { open_ = w.at.at; colon = t.colon; end = t.end; inner = t.inner; is = w.at.is ∙ ap (λ (l : List Sign). Fixed w.at.at Open ∷ l) t.is; ty = t.ty }

record Headed (ts : List Sign) (x : NameAt × ((NameAt × TypeTree) × TypeTree)) (s : List Sign) : Type 0 where
  open_ : ℕ
  colon : ℕ
  close : ℕ
  second : ℕ
  equals : ℕ
  inner : List Sign
  middle : List Sign
  is : ts ≡ Lower x.0.at x.0.word ∷ Fixed open_ Open ∷ Lower x.1.0.0.at x.1.0.0.word ∷ Fixed colon Colon ∷ inner
  ty : IsType inner x.1.0.1 (Fixed close Close ∷ Fixed second Colon ∷ middle)
  result : IsType middle x.1.1 (Fixed equals Equals ∷ s)

head_of : {ts s : List Sign} {x : NameAt × ((NameAt × TypeTree) × TypeTree)} → IsHead ts x s → Headed ts x s
head_of {x = x} w =
    let a = argument_of w.second.first in
    let r = w.second.second in
    record {
      open_ = a.open_;
      colon = a.colon;
      close = a.end;
      second = r.at.at;
      equals = r.then.at.at;
      inner = a.inner;
      middle = r.middle;
      is = w.first ∙ ap (λ (l : List Sign). Lower x.0.at x.0.word ∷ l) a.is;
      ty = subst (λ (l : List Sign). IsType a.inner x.1.0.1 (Fixed a.end Close ∷ l)) r.at.is a.ty;
      result = subst (λ (l : List Sign). IsType r.middle x.1.1 l) r.then.at.is r.then.first;
    }

-- an expression in front of a symbol behind which nothing goes on
pub expr_at : {D : ℕ} {t : Symbol} {ts s : List Sign} {e : Tree} → (b : Before t (IsTree D Expr) ts e s) → Parses Expr b.first.ending ts e (Fixed b.at.at t ∷ s)
expr_at {ts = ts} {e = e} b = subst (λ (l : List Sign). Parses Expr b.first.ending ts e l) b.at.is b.first.parses

-- a part that begins with this word
abbrev Worded : ℕ → Symbol → ℕ → List Sign → Tree → List Sign → Type 0
Worded D t at ts e s = IsTree D Part (Fixed at t ∷ ts) e s

part_at : {k : Ending} {t : Symbol} {at : ℕ} {ts us s : List Sign} {e f : Tree} → ts ≡ us → e ≡ f → Parses Part k (Fixed at t ∷ us) f s → Parses Part k (Fixed at t ∷ ts) e s
part_at {k} {t} {at} {ts} {us} {s} {e} {f} place same p =
    at_same (ap (λ (l : List Sign). Fixed at t ∷ l) place) (subst (λ (x : Tree). Parses Part k (Fixed at t ∷ us) x s) (sym same) p)

-- `let`

let_forth : {D at : ℕ} {k : Ending} {ts s : List Sign} {e : Tree} → NoSymbol Rec ts → Parses Part k (Fixed at Let ∷ ts) e s → Stops Part k s → tree_height e ≤ D → Made (IsLet (D - 1)) (let_tree at) ts e s
let_forth none (let_in {q = q} {f = f} {x = x} {T = T} {a = a} {b = b} t p v) h low = record {
  parts = ((record { at = q; word = x }, T), (a, b));
  is = refl;
  read = record {
    middle = _;
    first = typed_at t;
    second = record {
      middle = _;
      first = record { middle = _; first = record { ending = _; parses = p; stops = omega arith; low = omega arith }; at = record { at = f; is = refl } };
      second = record { ending = _; parses = v; stops = h; low = omega arith };
    };
  };
}
let_forth none (let_rec {q = q} t u p v) h low = absurd (none _ (record { at = q; is = refl }))
let_forth none (operators p) h low = begins_not p (omega arith)

pub let_back : (D at : ℕ) (ts s : List Sign) (e : Tree) → 0 < D → Made (IsLet (D - 1)) (let_tree at) ts e s → Worded D Let at ts e s
let_back D at ts s e pos m =
    let t = typed_of m.read.first in
    let body = m.read.second.second in
    record {
      ending = Swallow;
      parses = part_at t.is m.is (let_in t.ty (expr_at m.read.second.first) body.parses);
      stops = body.stops;
      low =
          let a : tree_height m.parts.1.0 ≤ D - 1 = m.read.second.first.first.low in
          let b : tree_height m.parts.1.1 ≤ D - 1 = body.low in
          omega (arith, ap tree_height m.is);
    }

pub let_none : (D at : ℕ) (ts : List Sign) → NoSymbol Rec ts → Nothing (IsLet (D - 1)) ts → NoTree D Part (Fixed at Let ∷ ts)
let_none D at ts no_rec none e s o = let m = let_forth no_rec o.parses o.stops o.low in none m.parts s m.read

-- `let rec`

let_rec_forth : {D at c : ℕ} {k : Ending} {ts s : List Sign} {e : Tree} → Parses Part k (Fixed at Let ∷ Fixed c Rec ∷ ts) e s → Stops Part k s → tree_height e ≤ D → Made (IsLetRec (D - 1)) (let_rec_tree at) ts e s
let_rec_forth (let_rec {c = c} {f = f} {l = l} {x = x} {y = y} {T = T} {U = U} {a = a} {b = b} t u p v) h low = record {
  parts = ((record { at = c; word = x }, ((record { at = f; word = y }, T), U)), (a, b));
  is = refl;
  read = record {
    middle = _;
    first = head_at t u;
    second = record {
      middle = _;
      first = record { middle = _; first = record { ending = _; parses = p; stops = omega arith; low = omega arith }; at = record { at = l; is = refl } };
      second = record { ending = _; parses = v; stops = h; low = omega arith };
    };
  };
}
let_rec_forth (operators p) h low = begins_not p (omega arith)

pub let_rec_back : (D at : ℕ) (us ts s : List Sign) (e : Tree) → 0 < D → SymbolAt Rec us ts → Made (IsLetRec (D - 1)) (let_rec_tree at) ts e s → Worded D Let at us e s
let_rec_back D at us ts s e pos r m =
    let t = head_of m.read.first in
    let body = m.read.second.second in
    record {
      ending = Swallow;
      parses = part_at (r.is ∙ ap (λ (l : List Sign). Fixed r.at Rec ∷ l) t.is) m.is (let_rec t.ty t.result (expr_at m.read.second.first) body.parses);
      stops = body.stops;
      low =
          let a : tree_height m.parts.1.0 ≤ D - 1 = m.read.second.first.first.low in
          let b : tree_height m.parts.1.1 ≤ D - 1 = body.low in
          omega (arith, ap tree_height m.is);
    }

pub let_rec_none : (D at : ℕ) (us ts : List Sign) → SymbolAt Rec us ts → Nothing (IsLetRec (D - 1)) ts → NoTree D Part (Fixed at Let ∷ us)
let_rec_none D at us ts r none e s o =
    let m = let_rec_forth (at_same (sym (ap (λ (l : List Sign). Fixed at Let ∷ l) r.is)) o.parses) o.stops o.low in none m.parts s m.read

-- `fun`

fun_forth : {D at : ℕ} {k : Ending} {ts s : List Sign} {e : Tree} → Parses Part k (Fixed at Fun ∷ ts) e s → Stops Part k s → tree_height e ≤ D → Made (IsFun (D - 1)) (fun_tree at) ts e s
fun_forth (fun {c = c} {g = g} {x = x} {T = T} {b = b} t p) h low = record {
  parts = ((record { at = c; word = x }, T), b);
  is = refl;
  read = record {
    middle = _;
    first = argument_at t;
    second = record { middle = _; at = record { at = g; is = refl }; then = record { ending = _; parses = p; stops = h; low = omega arith } };
  };
}
fun_forth (operators p) h low = begins_not p (omega arith)

pub fun_back : (D at : ℕ) (ts s : List Sign) (e : Tree) → 0 < D → Made (IsFun (D - 1)) (fun_tree at) ts e s → Worded D Fun at ts e s
fun_back D at ts s e pos m =
    let t = argument_of m.read.first in
    let w = m.read.second in
    record {
      ending = Swallow;
      parses = part_at t.is m.is (fun (subst (λ (l : List Sign). IsType t.inner m.parts.0.1 (Fixed t.end Close ∷ l)) w.at.is t.ty) w.then.parses);
      stops = w.then.stops;
      low = let b : tree_height m.parts.1 ≤ D - 1 = w.then.low in omega (arith, ap tree_height m.is);
    }

pub fun_none : (D at : ℕ) (ts : List Sign) → Nothing (IsFun (D - 1)) ts → NoTree D Part (Fixed at Fun ∷ ts)
fun_none D at ts none e s o = let m = fun_forth o.parses o.stops o.low in none m.parts s m.read

-- `rec`

rec_forth : {D at : ℕ} {k : Ending} {ts s : List Sign} {e : Tree} → Parses Part k (Fixed at Rec ∷ ts) e s → Stops Part k s → tree_height e ≤ D → Made (IsRec (D - 1)) (rec_tree at) ts e s
rec_forth (rec {c = c} {f = f} {x = x} {y = y} {T = T} {U = U} {b = b} t u p) h low = record {
  parts = ((record { at = c; word = x }, ((record { at = f; word = y }, T), U)), b);
  is = refl;
  read = record { middle = _; first = head_at t u; second = record { ending = _; parses = p; stops = h; low = omega arith } };
}
rec_forth (operators p) h low = begins_not p (omega arith)

pub rec_back : (D at : ℕ) (ts s : List Sign) (e : Tree) → 0 < D → Made (IsRec (D - 1)) (rec_tree at) ts e s → Worded D Rec at ts e s
rec_back D at ts s e pos m =
    let t = head_of m.read.first in
    let body = m.read.second in
    record {
      ending = Swallow;
      parses = part_at t.is m.is (rec t.ty t.result body.parses);
      stops = body.stops;
      low = let b : tree_height m.parts.1 ≤ D - 1 = body.low in omega (arith, ap tree_height m.is);
    }

pub rec_none : (D at : ℕ) (ts : List Sign) → Nothing (IsRec (D - 1)) ts → NoTree D Part (Fixed at Rec ∷ ts)
rec_none D at ts none e s o = let m = rec_forth o.parses o.stops o.low in none m.parts s m.read

-- `if`

if_forth : {D at : ℕ} {k : Ending} {ts s : List Sign} {e : Tree} → Parses Part k (Fixed at If ∷ ts) e s → Stops Part k s → tree_height e ≤ D → Made (IsIf (D - 1)) (if_tree at) ts e s
if_forth (if_else {q = q} {d = d} {c = c} {a = a} {b = b} p v w) h low = record {
  parts = (c, (a, b));
  is = refl;
  read = record {
    middle = _;
    first = record { middle = _; first = record { ending = _; parses = p; stops = omega arith; low = omega arith }; at = record { at = q; is = refl } };
    second = record {
      middle = _;
      first = record { middle = _; first = record { ending = _; parses = v; stops = omega arith; low = omega arith }; at = record { at = d; is = refl } };
      second = record { ending = _; parses = w; stops = h; low = omega arith };
    };
  };
}
if_forth (operators p) h low = begins_not p (omega arith)

pub if_back : (D at : ℕ) (ts s : List Sign) (e : Tree) → 0 < D → Made (IsIf (D - 1)) (if_tree at) ts e s → Worded D If at ts e s
if_back D at ts s e pos m =
    let w = m.read.second.second in
    record {
      ending = w.ending;
      parses = part_at refl m.is (if_else (expr_at m.read.first) (expr_at m.read.second.first) w.parses);
      stops = w.stops;
      low =
          let c : tree_height m.parts.0 ≤ D - 1 = m.read.first.first.low in
          let a : tree_height m.parts.1.0 ≤ D - 1 = m.read.second.first.first.low in
          let b : tree_height m.parts.1.1 ≤ D - 1 = w.low in
          omega (arith, ap tree_height m.is);
    }

pub if_none : (D at : ℕ) (ts : List Sign) → Nothing (IsIf (D - 1)) ts → NoTree D Part (Fixed at If ∷ ts)
if_none D at ts none e s o = let m = if_forth o.parses o.stops o.low in none m.parts s m.read

-- `marshal`

marshal_forth : {D at : ℕ} {k : Ending} {ts s : List Sign} {e : Tree} → Parses Part k (Fixed at Marshal ∷ ts) e s → Stops Part k s → tree_height e ≤ D → Made (IsMarshal (D - 1)) (marshal_tree at) ts e s
marshal_forth (marshal {c = c} {a = a} {b = b} {T = T} {r = r} p v t) h low = record {
  parts = (a, (b, T));
  is = refl;
  read = record {
    middle = _;
    first = record { ending = Closed; parses = p; stops = front_positive r; low = omega arith };
    second = record {
      middle = _;
      first = record { ending = Closed; parses = v; stops = omega arith; low = omega arith };
      second = record { middle = _; at = record { at = c; is = refl }; then = record { is = t; ends = h } };
    };
  };
}
marshal_forth (operators p) h low = begins_not p (omega arith)

atom_at : {D : ℕ} {ts r s : List Sign} {e : Tree} → IsTree D Atom ts e r → r ≡ s → Parses Atom Closed ts e s
atom_at {ts = ts} {e = e} o is = subst (λ (l : List Sign). Parses Atom Closed ts e l) is (closed_atom o.parses)

pub marshal_back : (D at : ℕ) (ts s : List Sign) (e : Tree) → 0 < D → Made (IsMarshal (D - 1)) (marshal_tree at) ts e s → Worded D Marshal at ts e s
marshal_back D at ts s e pos m =
    let w = m.read.second.second in
    record {
      ending = Closed;
      parses = part_at refl m.is (marshal (closed_atom m.read.first.parses) (atom_at m.read.second.first w.at.is) w.then.is);
      stops = w.then.ends;
      low =
          let a : tree_height m.parts.0 ≤ D - 1 = m.read.first.low in
          let b : tree_height m.parts.1.0 ≤ D - 1 = m.read.second.first.low in
          omega (arith, ap tree_height m.is);
    }

pub marshal_none : (D at : ℕ) (ts : List Sign) → Nothing (IsMarshal (D - 1)) ts → NoTree D Part (Fixed at Marshal ∷ ts)
marshal_none D at ts none e s o = let m = marshal_forth o.parses o.stops o.low in none m.parts s m.read

-- `unmarshal`

unmarshal_forth : {D at : ℕ} {k : Ending} {ts s : List Sign} {e : Tree} → Parses Part k (Fixed at Unmarshal ∷ ts) e s → Stops Part k s → tree_height e ≤ D → Made (IsUnmarshal (D - 1)) (unmarshal_tree at) ts e s
unmarshal_forth (unmarshal {c = c} {a = a} {T = T} p t) h low = record {
  parts = (a, T);
  is = refl;
  read = record {
    middle = _;
    first = record { ending = Closed; parses = p; stops = omega arith; low = omega arith };
    second = record { middle = _; at = record { at = c; is = refl }; then = record { is = t; ends = h } };
  };
}
unmarshal_forth (operators p) h low = begins_not p (omega arith)

pub unmarshal_back : (D at : ℕ) (ts s : List Sign) (e : Tree) → 0 < D → Made (IsUnmarshal (D - 1)) (unmarshal_tree at) ts e s → Worded D Unmarshal at ts e s
unmarshal_back D at ts s e pos m =
    let w = m.read.second in
    record {
      ending = Closed;
      parses = part_at refl m.is (unmarshal (atom_at m.read.first w.at.is) w.then.is);
      stops = w.then.ends;
      low = let a : tree_height m.parts.0 ≤ D - 1 = m.read.first.low in omega (arith, ap tree_height m.is);
    }

pub unmarshal_none : (D at : ℕ) (ts : List Sign) → Nothing (IsUnmarshal (D - 1)) ts → NoTree D Part (Fixed at Unmarshal ∷ ts)
unmarshal_none D at ts none e s o = let m = unmarshal_forth o.parses o.stops o.low in none m.parts s m.read

-- `raise`

raise_forth : {D at : ℕ} {k : Ending} {ts s : List Sign} {e : Tree} → Parses Part k (Fixed at Raise ∷ ts) e s → Stops Part k s → tree_height e ≤ D → Made (IsRaise (D - 1)) (raise_tree at) ts e s
raise_forth (raise {c = c} {a = a} {T = T} p t) h low = record {
  parts = (a, T);
  is = refl;
  read = record {
    middle = _;
    first = record { ending = Closed; parses = p; stops = omega arith; low = omega arith };
    second = record { middle = _; at = record { at = c; is = refl }; then = record { is = t; ends = h } };
  };
}
raise_forth (operators p) h low = begins_not p (omega arith)

pub raise_back : (D at : ℕ) (ts s : List Sign) (e : Tree) → 0 < D → Made (IsRaise (D - 1)) (raise_tree at) ts e s → Worded D Raise at ts e s
raise_back D at ts s e pos m =
    let w = m.read.second in
    record {
      ending = Closed;
      parses = part_at refl m.is (raise (atom_at m.read.first w.at.is) w.then.is);
      stops = w.then.ends;
      low = let a : tree_height m.parts.0 ≤ D - 1 = m.read.first.low in omega (arith, ap tree_height m.is);
    }

pub raise_none : (D at : ℕ) (ts : List Sign) → Nothing (IsRaise (D - 1)) ts → NoTree D Part (Fixed at Raise ∷ ts)
raise_none D at ts none e s o = let m = raise_forth o.parses o.stops o.low in none m.parts s m.read
