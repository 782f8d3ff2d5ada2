-- In each state of a run what is marshalled is read again.
use Rattle.std.proofs.Common.{◌≡◌, refl, ap, subst, ℕ, zero, suc, Bool, true, false, [], Option, Some, None, ◌∙◌}
use Rattle.std.specs.Prelude.{IsTrue}
use Rattle.std.specs.Option.{option_or}
use native.Mathlib.Omega.{arith}
use Rattle.ac_types.specs.Limits.{longest_packet, deepest_nesting}
use Rattle.ac_types.specs.Types.{Bytes, Typ, TStr, TExn, TBool, TFun, TList, Typs}
use Rattle.ac_terms.specs.Terms.{Home, Main, Expr, Int, Boolean, Str, Unit', Exn, ExnOf, Tuple, Nil, Empty, Present, Cons, Var, Own, Ref, Lam, Rec, App, Let, If, Seq, Match, Try, Raise, Prim, Marshal, Unmarshal, Val, Evaluated, Bracket, Exprs, no_exprs, expr, PValue, Value, VStr}
use Rattle.ac_terms.specs.Defs.{Environment}
use Rattle.ac_terms.specs.Spelling.{two_written}
use Rattle.ac_terms.specs.Bounds.{fits_term}
use Rattle.ac_terms.specs.Heads.{type_heads, value_heads, packed_heads}
use Rattle.ac_rules.specs.Plain.{packed}
use Rattle.ac_rules.specs.Views.{Mode, Coloured}
use Rattle.ac_rules.specs.Typing.{all_of, is_function}
use Rattle.ac_rules.specs.Needed.{mark_at}
use Rattle.ac_rules.specs.Faults.{Fault, AString, first_fault, behind, cut_at, marshalled}
use Rattle.ac_rules.specs.Coherent.{IsCoherent}
use Rattle.ac_rules.proofs.FaultLaws.{none_fails}
use Rattle.ac_meaning.specs.Worlds.{World, fresh, Made, with_crossing}
use Rattle.ac_meaning.specs.Acts.{Act, Is, Goes, Turns, Applies, Raises, Wrong, parts, State, At, Over, iter, Leads}
use Rattle.ac_rules.specs.Growth.{Grows}
use Rattle.ac_meaning.specs.BareTerms.{bare_value}
use Rattle.ac_meaning.specs.BarePacking.{bare_packed}
use Rattle.ac_meaning.specs.Packing.{Packing, CannotPack, Packs, packs, packing, landing, marshal_step}
use Rattle.ac_meaning.specs.Reduction.{look, step}
use Rattle.ac_meaning.specs.Laws.{IsTypedProgram}
use Rattle.ac_meaning.specs.Typed.{IsHome, Typed, AllTyped, ValueTyped, as_seen, Known}
use Rattle.ac_meaning.specs.TypedStates.{IsTyped}
use Rattle.ac_meaning.specs.Redexes.{Redex, redex, redex_all, stands_next, crosses}
use Rattle.ac_meaning.specs.ReadBack.{IsReadBack, Marshals}
use Rattle.ac_meaning.proofs.Homes.{lower}
use Rattle.ac_meaning.proofs.KnownNames.{known_types}
use Rattle.ac_meaning.proofs.FromTypes.{typed_from}
use Rattle.ac_rules.proofs.Growth.{grows_not}
use Rattle.ac_meaning.proofs.Admitted.{arrives}
use Rattle.ac_meaning.proofs.Kept.{ActOk, kept, typing_kept}
use Rattle.ac_meaning.proofs.PackedAlike.{packed_alike}
use Rattle.ac_meaning.proofs.PackedHolds.{packable}
use Rattle.ac_meaning.proofs.ReadBack.{a_string, read_back_later}
use Rattle.ac_meaning.proofs.Within.{TypeFits, Within, AllWithin, ValueWithin, ActWithin}
use Rattle.ac_meaning.proofs.WithinLaws.{loosened}
use Rattle.ac_meaning.proofs.WithinSteps.{StateWithin, kept_within, within_kept}
use Rattle.ac_meaning.proofs.WithinSources.{term_within, source_rebuilt}
use Rattle.ac_meaning.proofs.SmallTypes.{typed_small}
use Rattle.ac_meaning.proofs.WithinComes.{comes_within}
use Rattle.ac_meaning.proofs.WithinPacked.{Fine, fine_both, packed_fits}
use Rattle.ac_meaning.proofs.WithinSmall.{packed_small}

-- the invariant of runs: what stands in a state is typed, and within the bounds
abbrev pub IsBounded : Mode → Typ → State Expr Value → Type 0
IsBounded mode T s = IsTyped mode T s × StateWithin s

step_bounded : (mode : Mode) (T : Typ) (N : ℕ) (s : State Expr Value) → IsBounded mode T s → IsBounded mode T (step mode N s)
step_bounded mode T N (At e z) h = (typing_kept arrives mode T N (At e z) h.0, within_kept comes_within mode N e z h.0.0 h.1)
step_bounded mode T N (Over o) h = h

pub run_bounded : (mode : Mode) (T : Typ) (N k : ℕ) (s : State Expr Value) → IsBounded mode T s → IsBounded mode T (iter (step mode N) k s)
run_bounded mode T N zero s h = h
run_bounded mode T N (suc k) s h = run_bounded mode T N k (step mode N s) (step_bounded mode T N s h)

-- a typed program within the bounds starts with it
pub starts_bounded : (E : Environment) (e : Expr) (T : Typ) → IsTypedProgram E e T → IsTrue (fits_term false e) → (mode : Mode) (input : Bytes) (sends : Bool) → IsBounded mode (lower E mode T) (At e (fresh E input sends))
starts_bounded E e T p fits mode input sends = (
  (p.coherent, typed_from E p.coherent (known_types E p.coherent) mode e (all_of E Main) T p.source p.typed),
  (loosened e (subst (Within true) (source_rebuilt Coloured E e Main p.source) (term_within Coloured E E false e (all_of E Main) T Main p.typed fits (typed_small E e (all_of E Main) T p.source p.typed).1)), tt),
)

-- the next redex is typed and within the bounds too
module _ (mode : Mode) (E : Environment) where
  abbrev RedexFine : Option Redex → Type 0
  RedexFine None = Unit {0}
  RedexFine (Some r) = (X : Typ) × IsHome mode E r.home × Typed mode E r.term r.home [] X × Within false r.term

  or_fine : (o p : Option Redex) → RedexFine o → RedexFine p → RedexFine (option_or o p)
  or_fine None p h k = k
  or_fine (Some r) p h k = h

  crosses_fine : (c : Home) (e : Expr) (b : Bool) → RedexFine (stands_next c e) → RedexFine (crosses c e b)
  crosses_fine c e true h = tt
  crosses_fine c e false h = h

  mutual
    redex_fine : (e : Expr) (c : Home) (T : Typ) → IsHome mode E c → Typed mode E e c [] T → Within false e → RedexFine (redex c e)
    redex_fine (Int n) c T i h w = tt
    redex_fine (Boolean b) c T i h w = tt
    redex_fine (Str s) c T i h w = tt
    redex_fine Unit' c T i h w = tt
    redex_fine (Exn k) c T i h w = tt
    redex_fine (Nil A) c T i h w = tt
    redex_fine (Empty A) c T i h w = tt
    redex_fine (Lam A e) c T i h w = tt
    redex_fine (Rec A B e) c T i h w = tt
    redex_fine (Evaluated A v) c T i h w = tt
    redex_fine (ExnOf k e) c T i h w = redex_fine e c TStr i h.1 w.1
    redex_fine (Tuple es) c T i h w = all_redex_fine es c h.0 i h.2 w.1
    redex_fine (Present e) c T i h w = redex_fine e c h.0 i h.2 w
    redex_fine (Cons a b) c T i h w = or_fine (redex c a) (redex c b) (redex_fine a c h.0 i h.2 w.0) (redex_fine b c (TList h.0) i h.3 w.1)
    redex_fine (App f a) c T i h w =
        or_fine (redex c f) (option_or (redex c a) (stands_next c (App f a))) (redex_fine f c (TFun h.0 T) i h.1 w.0) (or_fine (redex c a) (stands_next c (App f a)) (redex_fine a c h.0 i h.2 w.1) (T, i, h, w))
    redex_fine (Let A e b) c T i h w = or_fine (redex c e) (stands_next c (Let A e b)) (redex_fine e c (as_seen mode E c A) i h.0 w.1) (T, i, h, w)
    redex_fine (If e a b) c T i h w = or_fine (redex c e) (stands_next c (If e a b)) (redex_fine e c TBool i h.0 w.0) (T, i, h, w)
    redex_fine (Match e arms) c T i h w = or_fine (redex c e) (stands_next c (Match e arms)) (redex_fine e c h.0 i h.1 w.0) (T, i, h, w)
    redex_fine (Seq no_exprs) c T i h w = (T, i, h, w)
    redex_fine (Seq (expr e no_exprs)) c T i h w = (T, i, h, w)
    redex_fine (Seq (expr e (expr d es))) c T i h w = or_fine (redex c e) (stands_next c (Seq (expr e (expr d es)))) (redex_fine e c h.1.0 i h.1.3 w.1.0) (T, i, h, w)
    redex_fine (Raise A e) c T i h w = or_fine (redex c e) (stands_next c (Raise A e)) (redex_fine e c TExn i h.1 w.1) (T, i, h, w)
    redex_fine (Try e arms) c T i h w = or_fine (redex c e) (stands_next c (Try e arms)) (redex_fine e c T i h.0 w.0) (T, i, h, w)
    redex_fine (Prim k es) c T i h w = or_fine (redex_all c es) (stands_next c (Prim k es)) (all_redex_fine es c h.0 i h.1 w.1) (T, i, h, w)
    redex_fine (Marshal A m e) c T i h w =
        or_fine (redex c m) (option_or (redex c e) (stands_next c (Marshal A m e))) (redex_fine m c TStr i h.1 w.1) (or_fine (redex c e) (stands_next c (Marshal A m e)) (redex_fine e c (as_seen mode E c A) i h.2 w.2) (T, i, h, w))
    redex_fine (Unmarshal A e) c T i h w = or_fine (redex c e) (stands_next c (Unmarshal A e)) (redex_fine e c TStr i h.1 w.1) (T, i, h, w)
    redex_fine (Own f) c T i h w = (T, i, h, w)
    redex_fine (Ref j x) c T i h w = (T, i, h, w)
    redex_fine (Bracket b A e) c T i h w =
        or_fine (redex b e) (crosses c (Bracket b A e) (is_function A)) (redex_fine e b (as_seen mode E b A) h.3 h.2 w) (crosses_fine c (Bracket b A e) (is_function A) (T, i, h, w))
    redex_fine (Var k) c T i h w = (T, i, h, w)
    redex_fine (Val A v) c T i h w = absurd h

    all_redex_fine : (es : Exprs) (c : Home) (Ts : Typs) → IsHome mode E c → AllTyped mode E es c [] Ts → AllWithin false es → RedexFine (redex_all c es)
    all_redex_fine no_exprs c Ts i h w = tt
    all_redex_fine (expr e es) c Ts i h w = or_fine (redex c e) (redex_all c es) (redex_fine e c h.0 i h.3 w.0) (all_redex_fine es c h.1 i h.4 w.1)

-- where marshal gives a string, its parts are values: a mark, and what is packed
pub record Packs' (z : World) (c : Home) (T : Typ) (s : Bytes) (a b : Act Expr Value) : Type 0 where
  pub mark : Bytes
  pub value : Value
  pub marked : a ≡ Is (VStr mark)
  pub valued : b ≡ Is value
  pub packs_so : packing z T mark (packed z.environment c value T) ≡ Packs s

packed_string : (z y : World) (p : Packing) (s : Bytes) → packs z p ≡ Turns y (Str s) → p ≡ Packs s
packed_string z y (CannotPack x) s e = absurd cc
packed_string z y (Packs r) s e = let q : r ≡ s = cc in ap Packs q

pub marshal_parts : (z y : World) (c : Home) (T : Typ) (m w : Expr) (s : Bytes) (a b : Act Expr Value) → parts (Marshal T) m w (marshal_step z c T) a b ≡ Turns y (Str s) → Packs' z c T s a b
marshal_parts z y c T m w s (Is (VStr mark)) (Is v) e = record { mark = mark; value = v; marked = refl; valued = refl; packs_so = packed_string z y (packing z T mark (packed z.environment c v T)) s e }
marshal_parts z y c T m w s (Is _) (Is v) e = absurd cc
marshal_parts z y c T m w s (Is u) (Goes t) e = absurd cc
marshal_parts z y c T m w s (Is u) (Turns x t) e = absurd cc
marshal_parts z y c T m w s (Is u) (Applies t) e = absurd cc
marshal_parts z y c T m w s (Is u) (Raises x) e = absurd cc
marshal_parts z y c T m w s (Is u) Wrong e = absurd cc
marshal_parts z y c T m w s (Goes t) b e = absurd cc
marshal_parts z y c T m w s (Turns x t) b e = absurd cc
marshal_parts z y c T m w s (Applies t) b e = absurd cc
marshal_parts z y c T m w s (Raises x) b e = absurd cc
marshal_parts z y c T m w s Wrong b e = absurd cc

-- the string of a packed value: all of the value travels and is short
pub string_fine : (E : Environment) (mark : Bytes) (T : Typ) (v : PValue) (s : Bytes) → marshalled E mark T v ≡ AString s → Fine (value_heads two_written 1 v)
string_fine E mark T v s e = by_mark (mark_at E mark) e
  where
    by_parts : (m : ℕ) (o : Option Fault) → first_fault deepest_nesting longest_packet 0 (packed_heads T v) ≡ o → behind E m T v o ≡ AString s → Fine (value_heads two_written 1 v)
    by_parts m (Some f) r h = absurd cc
    by_parts m None r h =
        let fine = none_fails deepest_nesting longest_packet 0 (packed_heads T v) r in
        let short = fine.short (omega arith) in
        (fine_both (type_heads T) (value_heads two_written 1 v) (record { travels = fine.travels; short = omega (arith, short) })).1

    by_mark : (o : Option ℕ) → cut_at E T v o ≡ AString s → Fine (value_heads two_written 1 v)
    by_mark None h = absurd cc
    by_mark (Some m) h = by_parts m (first_fault deepest_nesting longest_packet 0 (packed_heads T v)) refl h

-- a typed value within the bounds
value_read : (mode : Mode) (z : World) (c : Home) (T : Typ) (mark s : Bytes) (v : Value) → IsCoherent z.environment → Known mode z.environment T → ValueTyped mode z.environment v c (as_seen mode z.environment c T) → TypeFits T → ValueWithin v →
    packing z T mark (packed z.environment c v T) ≡ Packs s → (F : Environment) → Grows z.environment F → IsReadBack (landing F T s)
unfolding packing
value_read mode z c T mark s v i k t w h e F g =
    let E : Environment = z.environment in
    let p : PValue = bare_packed E (bare_value c v) T in
    let same : p ≡ packed E c v T = packed_alike mode E v c (as_seen mode E c T) T t in
    let made : marshalled E mark T p ≡ AString s = a_string (marshalled E mark T p) s (ap (λ x. packing z T mark x) same ∙ e) in
    let fits = packed_fits E i v c T 1 h (string_fine E mark T p s made) in
    read_back_later E F g mark T p s (packable mode E i v c T k t w.0 w.1 fits (packed_small E v c T h)) made

marshal_read : (mode : Mode) (T : Typ) (z : World) (e : Expr) → IsBounded mode T (At e z) → (U : Typ) (s : Bytes) → Marshals mode z e U s → (F : Environment) → Grows z.environment F → IsReadBack (landing F U s)
marshal_read mode T z e h U s m F g =
    let E : Environment = z.environment in
    let c : Home = m.home in
    let i : IsCoherent E = h.0.0 in
    let r = subst (RedexFine mode E) m.is_next (redex_fine mode E e Main T refl h.0.1 h.1.0) in
    let t = r.2 in
    let w = r.3 in
    let x = marshal_parts z (with_crossing (Made s) z) c U m.mark m.packed s (look mode z c m.mark) (look mode z c m.packed) m.gives in
    let good : ActOk E (λ G d. Typed mode G d c [] (as_seen mode E c U)) (λ G d. ValueTyped mode G d c (as_seen mode E c U)) (look mode z c m.packed) = kept arrives mode z i m.packed c (as_seen mode E c U) r.1 t.2 in
    let typed : ValueTyped mode E x.value c (as_seen mode E c U) = subst (ActOk E (λ G d. Typed mode G d c [] (as_seen mode E c U)) (λ G d. ValueTyped mode G d c (as_seen mode E c U))) x.valued good in
    let within : ValueWithin x.value = subst (ActWithin (Within false) ValueWithin) x.valued (kept_within comes_within mode z i h.1.1 m.packed c w.2) in
    value_read mode z c U x.mark s x.value i t.3 typed w.0 within x.packs_so F g

-- so what a program marshals in any state that it comes to is read again, there and after all that comes later
pub marshalled_is_read : (E : Environment) (e : Expr) (T : Typ) → IsTypedProgram E e T → IsTrue (fits_term false e) → (mode : Mode) (input : Bytes) (sends : Bool) (N : ℕ) (t : Expr) (z : World) → Leads (step mode N) (At e (fresh E input sends)) (At t z) →
    (U : Typ) (s : Bytes) → Marshals mode z t U s → (F : Environment) → Grows z.environment F → IsReadBack (landing F U s)
marshalled_is_read E e T p fits mode input sends N t z leads U s m F g =
    marshal_read mode (lower E mode T) z t (subst (IsBounded mode (lower E mode T)) leads.1 (run_bounded mode (lower E mode T) N leads.0 (At e (fresh E input sends)) (starts_bounded E e T p fits mode input sends))) U s m F g

pub marshalled_is_read_here : (E : Environment) (e : Expr) (T : Typ) → IsTypedProgram E e T → IsTrue (fits_term false e) → (mode : Mode) (input : Bytes) (sends : Bool) (N : ℕ) (t : Expr) (z : World) → Leads (step mode N) (At e (fresh E input sends)) (At t z) →
    (U : Typ) (s : Bytes) → Marshals mode z t U s → IsReadBack (landing z.environment U s)
marshalled_is_read_here E e T p fits mode input sends N t z leads U s m =
    let h = subst (IsBounded mode (lower E mode T)) leads.1 (run_bounded mode (lower E mode T) N leads.0 (At e (fresh E input sends)) (starts_bounded E e T p fits mode input sends)) in
    marshal_read mode (lower E mode T) z t h U s m z.environment (grows_not z.environment h.0.0)
