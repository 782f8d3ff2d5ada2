-- One step of a run in a chain: what it gives is vouched for, what it takes tells births of before, and so what stands in the next state.
use Rattle.std.proofs.Common.{◌≡◌, sym, ap, ◌∙◌, subst, Bool, true, false, ◌&&◌, not, cond, List, [], ◌∷◌, ◌++◌, append_assoc}
use Rattle.ac_types.specs.Types.{Bytes, Typ, TAbs}
use Rattle.ac_terms.specs.Terms.{Home, Main, Expr, Str, Bracket, PValue, Value}
use Rattle.ac_terms.specs.Defs.{Environment}
use Rattle.ac_rules.specs.Views.{Coloured, opens}
use Rattle.ac_rules.specs.Plain.{packed}
use Rattle.ac_rules.specs.Faults.{AString, marshalled}
use Rattle.ac_rules.specs.RoundTrip.{IsPackable}
use Rattle.ac_rules.specs.Coherent.{IsCoherent}
use Rattle.ac_rules.proofs.Composed.{value_still}
use Rattle.ac_meaning.specs.Worlds.{World}
use Rattle.ac_meaning.specs.Acts.{Act, Is, Goes, Turns, Applies, Raises, Wrong, State, At, Over}
use Rattle.ac_meaning.specs.Packing.{Packs, packing, Lands, landing}
use Rattle.ac_meaning.specs.Rebuilding.{rebuilt}
use Rattle.ac_meaning.specs.Reduction.{look}
use Rattle.ac_meaning.specs.BareTerms.{bare_value}
use Rattle.ac_meaning.specs.BarePacking.{bare_packed}
use Rattle.ac_meaning.specs.Typed.{as_seen, Known, ValueTyped}
use Rattle.ac_meaning.proofs.Admitted.{arrived}
use Rattle.ac_meaning.proofs.MarshalledRead.{IsBounded}
use Rattle.ac_meaning.proofs.PackedAlike.{packed_alike}
use Rattle.ac_meaning.proofs.PackedHolds.{packable}
use Rattle.ac_meaning.proofs.MarshalledRead.{string_fine}
use Rattle.ac_meaning.proofs.ReadBack.{a_string}
use Rattle.ac_meaning.proofs.Within.{ValueWithin, TypeFits}
use Rattle.ac_meaning.proofs.WithinPacked.{packed_fits}
use Rattle.ac_meaning.proofs.WithinSmall.{packed_small}
use Rattle.ac_colours.specs.Births.{Seal, seal, Event, Born, Gave, Took, sealing, giving, happening, IsAmong}
use Rattle.ac_colours.specs.Sealed.{Sealed, ValueSealed}
use Rattle.ac_colours.proofs.Brings.{rebuilt_told}
use Rattle.ac_colours.proofs.Collected.{among_one}
use Rattle.ac_colours.proofs.OneText.{Texts, AreOne, Keeps}
use Rattle.ac_colours.proofs.Origins.{not_among, value_weaker}
use Rattle.ac_colours.proofs.Owning.{Owned}
use Rattle.ac_colours.proofs.OwnPacked.{PackedOwned}
use Rattle.ac_colours.proofs.OwnText.{speaks}
use Rattle.ac_colours.proofs.Says.{OfBirth, Told}
use Rattle.ac_colours.proofs.Sitting.{holds_sits}
use Rattle.ac_colours.proofs.ToldGrows.{BornIn, born_more}
use Rattle.ac_colours.proofs.Vouching.{Vouched, keeps_after, said_after, owned_after}

-- a state of a run where all that happened is known: each seal in it tells a birth
pub record Runs (S : Texts) (K : OfBirth) (T : Typ) (e : Expr) (z : World) : Type 0 where
  pub bounded : IsBounded Coloured T (At e z)
  pub keeps : Keeps S z.environment
  pub owned : Owned (speaks z.environment) true Main e
  pub sealed : Sealed (Told z.environment K) e

abbrev pub StateRuns : Texts → OfBirth → Typ → State Expr Value → Type 0
StateRuns S K T (At e z) = Runs S K T e z
StateRuns S K T (Over o) = Unit {0}

-- a string that was given is vouched for by what happened before
pub record Given (S : Texts) (all : List Event) (s : Bytes) : Type 0 where
  pub earlier : List Event
  pub later : List Event
  pub is_all : all ≡ earlier ++ later
  pub vouched : Vouched S (BornIn earlier) s

pub given_more : (S : Texts) (xs ys : List Event) (s : Bytes) → Given S xs s → Given S (xs ++ ys) s
given_more S xs ys s g = record { earlier = g.earlier; later = g.later ++ ys; is_all = ap (λ l. l ++ ys) g.is_all ∙ append_assoc g.earlier g.later ys; vouched = g.vouched }

pub told_weaker : (E : Environment) (K L : OfBirth) → ((n t : Bytes) (w : PValue) → K n t w → L n t w) → (v : Value) → ValueSealed (Told E K) v → ValueSealed (Told E L) v
told_weaker E K L f v h = value_weaker (Told E K) (Told E L) (λ b n t x k. λ w p q. f n t w (k w p q)) v h

-- what a given string brings where it is taken
pub record Taken (S : Texts) (all : List Event) (c : Home) (T : Typ) (F : Environment) (v : PValue) : Type 0 where
  pub told : ValueSealed (Told F (BornIn all)) (rebuilt Coloured F c T v)
  pub owned : PackedOwned (speaks F) v
  pub keeps : Keeps S F

pub take_given : (S : Texts) → AreOne S → (all : List Event) (s : Bytes) → Given S all s → (E : Environment) → IsCoherent E → Keeps S E → (c : Home) (T : Typ) (F : Environment) (v : PValue) → landing E T s ≡ Lands F v → Taken S all c T F v
take_given S one all s g E coherent keeps c T F v lands =
    let m = (arrived E T s F v coherent lands).1 in
    let K : OfBirth = BornIn g.earlier in
    let sits = holds_sits F v T (value_still v m.value_fits) m.value_holds in
    let said = said_after S one K s g.vouched E coherent keeps T F v lands in
    record {
      told = told_weaker F K (BornIn all) (λ n t w k. subst (λ l. BornIn l n t w) (sym g.is_all) (born_more g.earlier g.later n t w k)) (rebuilt Coloured F c T v) (rebuilt_told F m.coherent K v c T m.type_known sits said);
      owned = owned_after S one K s g.vouched E coherent keeps T F v lands;
      keeps = keeps_after S one K s g.vouched E coherent keeps T F v lands;
    }

pub made_string : (z : World) (T : Typ) (mark s : Bytes) (w : PValue) → packing z T mark w ≡ Packs s → marshalled z.environment mark T w ≡ AString s
unfolding packing
made_string z T mark s w e = a_string (marshalled z.environment mark T w) s e

-- a typed value within the bounds that a string is made of can be packed
pub can_pack : (E : Environment) (c : Home) (T : Typ) (mark s : Bytes) (v : Value) → IsCoherent E → Known Coloured E T → ValueTyped Coloured E v c (as_seen Coloured E c T) → TypeFits T → ValueWithin v → marshalled E mark T (packed E c v T) ≡ AString s → IsPackable E T (packed E c v T)
can_pack E c T mark s v i k t w h e =
    let p : PValue = bare_packed E (bare_value c v) T in
    let same : p ≡ packed E c v T = packed_alike Coloured E v c (as_seen Coloured E c T) T t in
    let made : marshalled E mark T p ≡ AString s = ap (marshalled E mark T) same ∙ e in
    let fits = packed_fits E i v c T 1 h (string_fine E mark T p s made) in
    subst (IsPackable E T) same (packable Coloured E i v c T k t w.0 w.1 fits (packed_small E v c T h))

-- what is in these events
pub no_took : (D : Environment) (s : Bytes) (xs : List Seal) (a : Act Expr Value) → IsAmong (Took D s xs) (giving a) → ⊥
no_took D s xs (Turns y (Str r)) h = let e = among_one (Took D s xs) (Gave r) h in absurd cc
no_took D s xs (Turns y _) h = not_among (Took D s xs) h.0 h.1 h.2
no_took D s xs (Is v) h = not_among (Took D s xs) h.0 h.1 h.2
no_took D s xs (Goes t) h = not_among (Took D s xs) h.0 h.1 h.2
no_took D s xs (Applies t) h = not_among (Took D s xs) h.0 h.1 h.2
no_took D s xs (Raises x) h = not_among (Took D s xs) h.0 h.1 h.2
no_took D s xs Wrong h = not_among (Took D s xs) h.0 h.1 h.2

pub gave_is : (s : Bytes) (a : Act Expr Value) → IsAmong (Gave s) (giving a) → (y : World) × (a ≡ Turns y (Str s))
gave_is s (Turns y (Str r)) h = let e = among_one (Gave s) (Gave r) h in let q : s ≡ r = cc in (y, ap (λ x. Turns y (Str x)) (sym q))
gave_is s (Turns y _) h = absurd (not_among (Gave s) h.0 h.1 h.2)
gave_is s (Is v) h = absurd (not_among (Gave s) h.0 h.1 h.2)
gave_is s (Goes t) h = absurd (not_among (Gave s) h.0 h.1 h.2)
gave_is s (Applies t) h = absurd (not_among (Gave s) h.0 h.1 h.2)
gave_is s (Raises x) h = absurd (not_among (Gave s) h.0 h.1 h.2)
gave_is s Wrong h = absurd (not_among (Gave s) h.0 h.1 h.2)

-- a bracket gives and takes no string
abbrev pub IsBirth : Event → Type 0
IsBirth (Born E x) = Unit {0}
IsBirth (Gave s) = ⊥
IsBirth (Took E s xs) = ⊥

only_births : (i : Event) (E : Environment) (b c : Home) (n t : Bytes) (a : Act Expr Value) → IsAmong i (sealing E b c n t a) → IsBirth i
only_births i E b c n t (Is v) h = by (opens Coloured E b n && not (opens Coloured E c n)) h
  where
    by : (x : Bool) → IsAmong i (cond x (Born E (seal b n t v) ∷ []) []) → IsBirth i
    by true k = subst IsBirth (sym (among_one i (Born E (seal b n t v)) k)) tt
    by false k = absurd (not_among i k.0 k.1 k.2)
only_births i E b c n t (Goes x) h = absurd (not_among i h.0 h.1 h.2)
only_births i E b c n t (Turns y x) h = absurd (not_among i h.0 h.1 h.2)
only_births i E b c n t (Applies x) h = absurd (not_among i h.0 h.1 h.2)
only_births i E b c n t (Raises x) h = absurd (not_among i h.0 h.1 h.2)
only_births i E b c n t Wrong h = absurd (not_among i h.0 h.1 h.2)

pub bracket_births : (i : Event) (z : World) (c b : Home) (T : Typ) (d : Expr) → IsAmong i (happening z c (Bracket b T d)) → IsBirth i
bracket_births i z c b (TAbs n t) d h = only_births i z.environment b c n t (look Coloured z b d) h
bracket_births i z c b _ d h = absurd (not_among i h.0 h.1 h.2)
