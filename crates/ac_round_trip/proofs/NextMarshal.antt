-- What a run marshals next is a typed value within the bounds.
use Rattle.std.proofs.Common.{◌≡◌, refl, sym, ap₂, ◌∙◌, subst, ℕ, Bool, true, false, [], Option, Some, None}
use Rattle.std.specs.Prelude.{IsTrue}
use Rattle.std.specs.Option.{option_or}
use Rattle.ac_types.specs.Types.{Bytes, Typ, TStr, TExn, TBool, TFun, TList, Typs}
use Rattle.ac_terms.specs.Terms.{Home, Main, Expr, Int, Boolean, Str, Unit', Exn, ExnOf, Tuple, Nil, Empty, Present, Cons, Var, Own, Ref, Lam, Rec, App, Let, If, Seq, Match, Try, Raise, Prim, Marshal, Unmarshal, Val, Evaluated, Bracket, Exprs, no_exprs, expr, PValue, Value, VStr}
use Rattle.ac_terms.specs.Defs.{Environment}
use Rattle.ac_terms.specs.Bounds.{fits_term}
use Rattle.ac_rules.specs.Plain.{packed}
use Rattle.ac_rules.specs.Views.{Mode}
use Rattle.ac_rules.specs.Typing.{is_function}
use Rattle.ac_rules.specs.Faults.{AString, marshalled}
use Rattle.ac_rules.specs.Coherent.{IsCoherent}
use Rattle.ac_rules.specs.RoundTrip.{IsPackable}
use Rattle.ac_meaning.specs.Worlds.{World, fresh, Made, with_crossing}
use Rattle.ac_meaning.specs.Acts.{Is, parts, At, Leads}
use Rattle.ac_meaning.specs.BareTerms.{bare_value}
use Rattle.ac_meaning.specs.BarePacking.{bare_packed}
use Rattle.ac_meaning.specs.Packing.{Packs, packing, marshal_step}
use Rattle.ac_meaning.specs.Reduction.{look, step}
use Rattle.ac_meaning.specs.Laws.{IsTypedProgram}
use Rattle.ac_meaning.specs.Typed.{IsHome, Typed, AllTyped, ValueTyped, as_seen, Known}
use Rattle.ac_meaning.specs.Redexes.{Redex, redex, redex_all, stands_next, crosses}
use Rattle.ac_meaning.specs.ReadBack.{Marshals}
use Rattle.ac_meaning.proofs.Homes.{lower}
use Rattle.ac_meaning.proofs.Admitted.{arrives}
use Rattle.ac_meaning.proofs.Kept.{ActOk, kept}
use Rattle.ac_meaning.proofs.MarshalledRead.{IsBounded, run_bounded, starts_bounded, marshal_parts, string_fine}
use Rattle.ac_meaning.proofs.PackedAlike.{packed_alike}
use Rattle.ac_meaning.proofs.PackedHolds.{packable}
use Rattle.ac_meaning.proofs.ReadBack.{a_string}
use Rattle.ac_meaning.proofs.Within.{TypeFits, Within, AllWithin, ValueWithin, ActWithin}
use Rattle.ac_meaning.proofs.WithinSteps.{kept_within}
use Rattle.ac_meaning.proofs.WithinComes.{comes_within}
use Rattle.ac_meaning.proofs.WithinPacked.{packed_fits}
use Rattle.ac_meaning.proofs.WithinSmall.{packed_small}
use Rattle.ac_round_trip.specs.Strings.{IsString}

-- the next redex is typed and within the bounds
module _ (mode : Mode) (E : Environment) where
  abbrev RedexFine : Option Redex → Type 0
  RedexFine None = Unit {0}
  RedexFine (Some r) = (X : Typ) × IsHome mode E r.home × Typed mode E r.term r.home [] X × Within false r.term

  or_fine : (o p : Option Redex) → RedexFine o → RedexFine p → RedexFine (option_or o p)
  or_fine None p h k = k
  or_fine (Some r) p h k = h

  crosses_fine : (c : Home) (e : Expr) (b : Bool) → RedexFine (stands_next c e) → RedexFine (crosses c e b)
  crosses_fine c e true h = tt
  crosses_fine c e false h = h

  mutual
    redex_fine : (e : Expr) (c : Home) (T : Typ) → IsHome mode E c → Typed mode E e c [] T → Within false e → RedexFine (redex c e)
    redex_fine (Int n) c T i h w = tt
    redex_fine (Boolean b) c T i h w = tt
    redex_fine (Str s) c T i h w = tt
    redex_fine Unit' c T i h w = tt
    redex_fine (Exn k) c T i h w = tt
    redex_fine (Nil A) c T i h w = tt
    redex_fine (Empty A) c T i h w = tt
    redex_fine (Lam A e) c T i h w = tt
    redex_fine (Rec A B e) c T i h w = tt
    redex_fine (Evaluated A v) c T i h w = tt
    redex_fine (ExnOf k e) c T i h w = redex_fine e c TStr i h.1 w.1
    redex_fine (Tuple es) c T i h w = all_redex_fine es c h.0 i h.2 w.1
    redex_fine (Present e) c T i h w = redex_fine e c h.0 i h.2 w
    redex_fine (Cons a b) c T i h w = or_fine (redex c a) (redex c b) (redex_fine a c h.0 i h.2 w.0) (redex_fine b c (TList h.0) i h.3 w.1)
    redex_fine (App f a) c T i h w =
        or_fine (redex c f) (option_or (redex c a) (stands_next c (App f a))) (redex_fine f c (TFun h.0 T) i h.1 w.0) (or_fine (redex c a) (stands_next c (App f a)) (redex_fine a c h.0 i h.2 w.1) (T, i, h, w))
    redex_fine (Let A e b) c T i h w = or_fine (redex c e) (stands_next c (Let A e b)) (redex_fine e c (as_seen mode E c A) i h.0 w.1) (T, i, h, w)
    redex_fine (If e a b) c T i h w = or_fine (redex c e) (stands_next c (If e a b)) (redex_fine e c TBool i h.0 w.0) (T, i, h, w)
    redex_fine (Match e arms) c T i h w = or_fine (redex c e) (stands_next c (Match e arms)) (redex_fine e c h.0 i h.1 w.0) (T, i, h, w)
    redex_fine (Seq no_exprs) c T i h w = (T, i, h, w)
    redex_fine (Seq (expr e no_exprs)) c T i h w = (T, i, h, w)
    redex_fine (Seq (expr e (expr d es))) c T i h w = or_fine (redex c e) (stands_next c (Seq (expr e (expr d es)))) (redex_fine e c h.1.0 i h.1.3 w.1.0) (T, i, h, w)
    redex_fine (Raise A e) c T i h w = or_fine (redex c e) (stands_next c (Raise A e)) (redex_fine e c TExn i h.1 w.1) (T, i, h, w)
    redex_fine (Try e arms) c T i h w = or_fine (redex c e) (stands_next c (Try e arms)) (redex_fine e c T i h.0 w.0) (T, i, h, w)
    redex_fine (Prim k es) c T i h w = or_fine (redex_all c es) (stands_next c (Prim k es)) (all_redex_fine es c h.0 i h.1 w.1) (T, i, h, w)
    redex_fine (Marshal A m e) c T i h w =
        or_fine (redex c m) (option_or (redex c e) (stands_next c (Marshal A m e))) (redex_fine m c TStr i h.1 w.1) (or_fine (redex c e) (stands_next c (Marshal A m e)) (redex_fine e c (as_seen mode E c A) i h.2 w.2) (T, i, h, w))
    redex_fine (Unmarshal A e) c T i h w = or_fine (redex c e) (stands_next c (Unmarshal A e)) (redex_fine e c TStr i h.1 w.1) (T, i, h, w)
    redex_fine (Own f) c T i h w = (T, i, h, w)
    redex_fine (Ref j x) c T i h w = (T, i, h, w)
    redex_fine (Bracket b A e) c T i h w =
        or_fine (redex b e) (crosses c (Bracket b A e) (is_function A)) (redex_fine e b (as_seen mode E b A) h.3 h.2 w) (crosses_fine c (Bracket b A e) (is_function A) (T, i, h, w))
    redex_fine (Var k) c T i h w = (T, i, h, w)
    redex_fine (Val A v) c T i h w = absurd h

    all_redex_fine : (es : Exprs) (c : Home) (Ts : Typs) → IsHome mode E c → AllTyped mode E es c [] Ts → AllWithin false es → RedexFine (redex_all c es)
    all_redex_fine no_exprs c Ts i h w = tt
    all_redex_fine (expr e es) c Ts i h w = or_fine (redex c e) (redex_all c es) (redex_fine e c h.0 i h.3 w.0) (all_redex_fine es c h.1 i h.4 w.1)

-- a typed value within the bounds, of which marshal gives a string, can be packed
can_be_packed : (mode : Mode) (z : World) (c : Home) (T : Typ) (mark s : Bytes) (v : Value) → IsCoherent z.environment → Known mode z.environment T → ValueTyped mode z.environment v c (as_seen mode z.environment c T) → TypeFits T → ValueWithin v →
    packing z T mark (packed z.environment c v T) ≡ Packs s → IsPackable z.environment T (packed z.environment c v T)
unfolding packing
can_be_packed mode z c T mark s v i k t w h e =
    let E : Environment = z.environment in
    let p : PValue = bare_packed E (bare_value c v) T in
    let same : p ≡ packed E c v T = packed_alike mode E v c (as_seen mode E c T) T t in
    let made : marshalled E mark T (packed E c v T) ≡ AString s = a_string (marshalled E mark T (packed E c v T)) s e in
    let fits = packed_fits E i v c T 1 h (string_fine E mark T p s (subst (λ x. marshalled E mark T x ≡ AString s) (sym same) made)) in
    subst (IsPackable E T) same (packable mode E i v c T k t w.0 w.1 fits (packed_small E v c T h))

-- what is marshalled in a state of a run
abbrev MarshalsValue : (mode : Mode) (z : World) (e : Expr) (T : Typ) (s : Bytes) → Marshals mode z e T s → Type 0
MarshalsValue mode z e T s m = (mark : Bytes) × (v : Value) × (look mode z m.home m.mark ≡ Is (VStr mark)) × (look mode z m.home m.packed ≡ Is v) × IsString mode z m.home T v mark s

next_value : (mode : Mode) (T : Typ) (z : World) (e : Expr) → IsBounded mode T (At e z) → (U : Typ) (s : Bytes) (m : Marshals mode z e U s) → MarshalsValue mode z e U s m
next_value mode T z e h U s m =
    let E : Environment = z.environment in
    let c : Home = m.home in
    let i : IsCoherent E = h.0.0 in
    let r = subst (RedexFine mode E) m.is_next (redex_fine mode E e Main T refl h.0.1 h.1.0) in
    let t = r.2 in
    let w = r.3 in
    let x = marshal_parts z (with_crossing (Made s) z) c U m.mark m.packed s (look mode z c m.mark) (look mode z c m.packed) m.gives in
    let good : ActOk E (λ G d. Typed mode G d c [] (as_seen mode E c U)) (λ G d. ValueTyped mode G d c (as_seen mode E c U)) (look mode z c m.packed) = kept arrives mode z i m.packed c (as_seen mode E c U) r.1 t.2 in
    let typed : ValueTyped mode E x.value c (as_seen mode E c U) = subst (ActOk E (λ G d. Typed mode G d c [] (as_seen mode E c U)) (λ G d. ValueTyped mode G d c (as_seen mode E c U))) x.valued good in
    let within : ValueWithin x.value = subst (ActWithin (Within false) ValueWithin) x.valued (kept_within comes_within mode z i h.1.1 m.packed c w.2) in (
      x.mark,
      x.value,
      x.marked,
      x.valued,
      record {
        coherent = i;
        typed = typed;
        packable = can_be_packed mode z c U x.mark s x.value i t.3 typed w.0 within x.packs_so;
        gives = sym (ap₂ (λ a b. parts (Marshal U) m.mark m.packed (marshal_step z c U) a b) x.marked x.valued) ∙ m.gives;
      },
    )

pub marshals_a_value : (E : Environment) (e : Expr) (T : Typ) → IsTypedProgram E e T → IsTrue (fits_term false e) → (mode : Mode) (input : Bytes) (sends : Bool) (N : ℕ) (t : Expr) (z : World) → Leads (step mode N) (At e (fresh E input sends)) (At t z) →
    (U : Typ) (s : Bytes) (m : Marshals mode z t U s) → MarshalsValue mode z t U s m
marshals_a_value E e T p fits mode input sends N t z leads U s m =
    next_value mode (lower E mode T) z t (subst (IsBounded mode (lower E mode T)) leads.1 (run_bounded mode (lower E mode T) N leads.0 (At e (fresh E input sends)) (starts_bounded E e T p fits mode input sends))) U s m
