-- One step of a run in a chain: what it gives is vouched for, what it takes tells births of before, and so does what stands in the next state.
use Rattle.std.proofs.Common.{◌≡◌, refl, sym, ap, ap₂, ◌∙◌, subst, ℕ, Bool, true, false, ◌&&◌, not, nat_lt, cond, List, [], ◌∷◌, ◌++◌, ◌⊎◌, inl, inr, Option, Some, None}
use Rattle.std.specs.Option.{option_map_or}
use Rattle.ac_types.specs.Types.{Bytes, Typ, TStr, TAbs}
use Rattle.ac_terms.specs.Terms.{Home, Main, In, Expr, Marshal, Unmarshal, Evaluated, Bracket, PValue, Value, VStr, VSeal}
use Rattle.ac_terms.specs.Defs.{Environment}
use Rattle.ac_rules.specs.Views.{Coloured, opens}
use Rattle.ac_rules.specs.Plain.{packed}
use Rattle.ac_rules.specs.Coherent.{IsCoherent}
use Rattle.ac_rules.specs.Growth.{Widening}
use Rattle.ac_rules.proofs.Growth.{extends_not}
use Rattle.ac_meaning.specs.Worlds.{World, counted, grown, Read, with_crossing}
use Rattle.ac_meaning.specs.Acts.{Act, Is, Goes, Turns, Applies, Raises, Wrong, part, Spent, State, At, Over, after}
use Rattle.ac_meaning.specs.Packing.{Landing, Sinks, Lands, landing, brought, brings, unmarshal_step}
use Rattle.ac_meaning.specs.Rebuilding.{rebuilt}
use Rattle.ac_meaning.specs.Reduction.{look, look_main, step}
use Rattle.ac_meaning.specs.Redexes.{Redex, redex, stands_next}
use Rattle.ac_meaning.specs.Typed.{as_seen, IsHome, Typed, ValueTyped}
use Rattle.ac_meaning.proofs.Admitted.{arrives}
use Rattle.ac_meaning.proofs.Kept.{ActOk, kept}
use Rattle.ac_meaning.proofs.MarshalledRead.{IsBounded, run_bounded}
use Rattle.ac_meaning.proofs.Shapes.{shape}
use Rattle.ac_meaning.proofs.Within.{Within, ValueWithin, ActWithin}
use Rattle.ac_meaning.proofs.WithinComes.{comes_within}
use Rattle.ac_meaning.proofs.WithinSteps.{kept_within}
use Rattle.ac_colours.specs.Births.{Seal, seal, seals, value_seals, Event, Born, Gave, Took, sealing, taken, taking, happening, happening_in, IsAmong, birth, told, births}
use Rattle.ac_colours.specs.Chains.{HasBirth}
use Rattle.ac_colours.specs.Sealed.{Sealed, ValueSealed, StateSealed, Sealing, Brought, Arriving, News}
use Rattle.ac_colours.proofs.Collected.{among_one, each_among, value_collected}
use Rattle.ac_colours.proofs.Conserved.{seals_come, value_conserved}
use Rattle.ac_colours.proofs.Marshals.{marshal_says}
use Rattle.ac_colours.proofs.NextRedex.{Ended, NextIn, Comes, next, in_redex, value_is}
use Rattle.ac_colours.proofs.OneText.{Texts, AreOne, Keeps}
use Rattle.ac_colours.proofs.Origins.{not_among}
use Rattle.ac_colours.proofs.OwnedKept.{FieldsOwned, BroughtOwned, ArrivingOwned, NewsOwned, owned_kept, value_passes}
use Rattle.ac_colours.proofs.Owning.{Owned, ValueOwned, StateOwned}
use Rattle.ac_colours.proofs.OwnPacked.{packed_owned, rebuilt_owned}
use Rattle.ac_colours.proofs.OwnText.{speaks, speaks_more, owned_more, fields_owned}
use Rattle.ac_meaning.proofs.MarshalledRead.{marshal_parts}
use Rattle.ac_colours.proofs.Provenance.{Runs, StateRuns, Given, Taken, told_weaker, take_given, made_string, can_pack, no_took, gave_is, bracket_births}
use Rattle.ac_colours.proofs.RedexSound.{Sound, sound}
use Rattle.ac_colours.proofs.SameDefinitions.{UnmarshalsNext, Stays, definitions_stay, stays}
use Rattle.ac_colours.proofs.Says.{OfBirth, Told}
use Rattle.ac_colours.proofs.SealTypes.{IsTypedSeal, value_seals_typed, has_birth}
use Rattle.ac_colours.proofs.ToldGrows.{BornIn, born_more, born_later, told_is, told_grows}
use Rattle.ac_colours.proofs.Telling.{told_same}
use Rattle.ac_colours.proofs.Vouching.{Vouched}

module _ (S : Texts) (one : AreOne S) (before : List Event) (given : (s : Bytes) → IsAmong (Gave s) before → Given S before s) (T : Typ) (N : ℕ) (e : Expr) (z : World) (h : Runs S (BornIn before) T e z) (native : (D : Environment) (s : Bytes) (xs : List Seal) → IsAmong (Took D s xs) (happening_in (At e z)) → IsAmong (Gave s) before) where
  abbrev E : Environment
  E = z.environment

  abbrev K : OfBirth
  K = BornIn before

  abbrev new : List Event
  new = happening_in (At e z)

  abbrev all : List Event
  all = before ++ new

  abbrev L : OfBirth
  L = BornIn all

  coherent : IsCoherent E
  coherent = h.bounded.0.0

  typed : Typed Coloured E e Main [] T
  typed = h.bounded.0.1

  fields : FieldsOwned (speaks E) E
  fields = fields_owned E coherent

  abbrev SoundIn : Option Redex → Type 0
  SoundIn o = Sound E (speaks E) (Told E K) o

  good : SoundIn (redex Main e)
  good = sound E (speaks E) (Told E K) e Main T refl typed h.bounded.1.0 h.owned h.sealed

  -- a term that is next in home c, and all that happens in the step
  record Next (c : Home) (t : Expr) : Type 0 where
    is_next : redex Main e ≡ stands_next c t
    is_sound : SoundIn (stands_next c t)
    is_new : new ≡ happening z c t

  next_is : (r : Redex) → redex Main e ≡ Some r → Next r.home r.term
  next_is r q = record { is_next = q; is_sound = subst SoundIn q good; is_new = ap (λ o. option_map_or (λ (x : Redex). happening z x.home x.term) o []) q }

  -- a part that is a value
  of_value : (d : Expr) (c : Home) (U : Typ) (v : Value) → IsHome Coloured E c → Typed Coloured E d c [] U → look Coloured z c d ≡ Is v → ValueTyped Coloured E v c U
  of_value d c U v i t q = subst (ActOk E (λ G x. Typed Coloured G x c [] U) (λ G x. ValueTyped Coloured G x c U)) q (kept arrives Coloured z coherent d c U i t)

  -- the string that an unmarshal takes
  string_next : (c : Home) (U : Typ) (d : Expr) → Next c (Unmarshal U d) → (s : Bytes) × (look Coloured z c d ≡ Is (VStr s))
  string_next c U d n =
      let t = n.is_sound in
      let ended : Ended (look Coloured z c d) = subst (NextIn Coloured z (look Coloured z c d)) t.6 (next Coloured z d c) in
      let v = value_is E (λ G x. Typed Coloured G x c [] TStr) (λ G x. ValueTyped Coloured G x c TStr) (look Coloured z c d) ended (kept arrives Coloured z coherent d c TStr t.1 t.2.1) in
      let s = shape Coloured E v.0 c TStr TStr refl (of_value d c TStr v.0 t.1 t.2.1 v.1) in
      (s.0, v.1 ∙ ap Is s.1)

  -- the world in which the string was read
  abbrev read : Bytes → World
  read s = with_crossing (Read s) z

  unmarshals : (c : Home) (U : Typ) (d : Expr) (s : Bytes) (l : Landing) → look Coloured z c d ≡ Is (VStr s) → landing E U s ≡ l → look Coloured z c (Unmarshal U d) ≡ brings Coloured (read s) U (brought c U l)
  unmarshals c U d s l q r = ap (part (Unmarshal U) (unmarshal_step Coloured z c U)) q ∙ ap (λ x. brings Coloured (read s) U (brought c U x)) r

  happens : (c : Home) (U : Typ) (d : Expr) (s : Bytes) (l : Landing) → look Coloured z c d ≡ Is (VStr s) → landing E U s ≡ l → happening z c (Unmarshal U d) ≡ taken s (brings Coloured (read s) U (brought c U l))
  happens c U d s l q r = ap₂ taking q (unmarshals c U d s l q r)

  -- what it takes was given
  its_string : (c : Home) (U : Typ) (d : Expr) → Next c (Unmarshal U d) → (s : Bytes) (F : Environment) (v : PValue) → look Coloured z c d ≡ Is (VStr s) → landing E U s ≡ Lands F v → Taken S before c U F v
  its_string c U d n s F v q r =
      let it = Took F s (value_seals (rebuilt Coloured F c U v)) in
      let here : IsAmong it new = subst (IsAmong it) (sym (n.is_new ∙ happens c U d s (Lands F v) q r)) ([], [], refl) in
      take_given S one before s (given s (native F s (value_seals (rebuilt Coloured F c U v)) here)) E coherent h.keeps c U F v r

  more : (n t : Bytes) (w : PValue) → K n t w → L n t w
  more = born_more before new

  -- what it takes tells births of before
  abbrev Tells : Environment → List Seal → Type 0
  Tells D xs = (x : Seal) → IsAmong x xs → HasBirth D x before

  told_before : (F : Environment) → IsCoherent F → (v : Value) (c : Home) (U : Typ) → ValueTyped Coloured F v c U → ValueSealed (Told F K) v → Tells F (value_seals v)
  told_before F i v c U t k x j =
      has_birth F i before x (each_among (IsTypedSeal F) x (value_seals v) (value_collected (IsTypedSeal F) v (value_seals_typed F v c U t)) j) (each_among (Told F K) x (value_seals v) (value_collected (Told F K) v k) j)

  -- what it takes is typed over the definitions then
  its_type : (c : Home) (U : Typ) (d : Expr) → (n : Next c (Unmarshal U d)) → (s : Bytes) (F : Environment) (v : PValue) → look Coloured z c d ≡ Is (VStr s) → landing E U s ≡ Lands F v → IsCoherent F × ValueTyped Coloured F (rebuilt Coloured F c U v) c n.is_sound.0
  its_type c U d n s F v q r =
      let t = n.is_sound in
      let k = subst (ActOk E (λ G x. Typed Coloured G x c [] t.0) (λ G x. ValueTyped Coloured G x c t.0)) (unmarshals c U d s (Lands F v) q r) (kept arrives Coloured z coherent (Unmarshal U d) c t.0 t.1 t.2) in
      (k.0.after, k.1.1)

  took_landing : (c : Home) (U : Typ) (d : Expr) → Next c (Unmarshal U d) → (s : Bytes) → look Coloured z c d ≡ Is (VStr s) → (l : Landing) → landing E U s ≡ l → (D : Environment) (r : Bytes) (xs : List Seal) → IsAmong (Took D r xs) (taken s (brings Coloured (read s) U (brought c U l))) → Tells D xs
  took_landing c U d n s q (Sinks x) r D u xs i = λ y j. let e = among_one (Took D u xs) (Took E s []) i in let none : xs ≡ [] = cc in absurd (not_among y j.0 j.1 (sym none ∙ j.2))
  took_landing c U d n s q (Lands F v) r D u xs i =
      let w : Value = rebuilt Coloured F c U v in
      let e = among_one (Took D u xs) (Took F s (value_seals w)) i in
      let a : F ≡ D = cc in
      let b : value_seals w ≡ xs = cc in
      let t = its_string c U d n s F v q r in
      let y = its_type c U d n s F v q r in
      subst (λ X. Tells X xs) a (subst (λ ys. Tells F ys) b (told_before F y.0 w c n.is_sound.0 y.1 t.told))

  took_next : (c : Home) (t : Expr) → Next c t → (D : Environment) (r : Bytes) (xs : List Seal) → IsAmong (Took D r xs) (happening z c t) → Tells D xs
  took_next c (Bracket b U d) n D r xs i = absurd (bracket_births (Took D r xs) z c b U d i)
  took_next c (Marshal U m d) n D r xs i = absurd (no_took D r xs (look Coloured z c (Marshal U m d)) i)
  took_next c (Unmarshal U d) n D r xs i =
      let s = string_next c U d n in
      took_landing c U d n s.0 s.1 (landing E U s.0) refl D r xs (subst (IsAmong (Took D r xs)) (happens c U d s.0 (landing E U s.0) s.1 refl) i)
  took_next c _ n D r xs i = absurd (not_among (Took D r xs) i.0 i.1 i.2)

  pub took : (D : Environment) (r : Bytes) (xs : List Seal) → IsAmong (Took D r xs) new → Tells D xs
  took D r xs i = by (redex Main e) refl
    where
      by : (o : Option Redex) → redex Main e ≡ o → Tells D xs
      by None q = absurd (let j = subst (IsAmong (Took D r xs)) (ap (λ o. option_map_or (λ (x : Redex). happening z x.home x.term) o []) q) i in not_among (Took D r xs) j.0 j.1 j.2)
      by (Some p) q = let n = next_is p q in took_next p.home p.term n D r xs (subst (IsAmong (Took D r xs)) n.is_new i)

  -- what it gives is vouched for
  gave_next : (c : Home) (t : Expr) → Next c t → (s : Bytes) → IsAmong (Gave s) (happening z c t) → Vouched S K s
  gave_next c (Bracket b U d) n s i = absurd (bracket_births (Gave s) z c b U d i)
  gave_next c (Unmarshal U d) n s i = absurd (no_gave (look Coloured z c d) (look Coloured z c (Unmarshal U d)) i)
    where
      none : (u : Bytes) (a : Act Expr Value) → IsAmong (Gave s) (taken u a) → ⊥
      none u (Turns y t) j = let e = among_one (Gave s) (Took y.environment u (seals t)) j in absurd cc
      none u (Is v) j = let e = among_one (Gave s) (Took [] u []) j in absurd cc
      none u (Goes t) j = let e = among_one (Gave s) (Took [] u []) j in absurd cc
      none u (Applies t) j = let e = among_one (Gave s) (Took [] u []) j in absurd cc
      none u (Raises x) j = let e = among_one (Gave s) (Took [] u []) j in absurd cc
      none u Wrong j = let e = among_one (Gave s) (Took [] u []) j in absurd cc

      no_gave : (o a : Act Expr Value) → IsAmong (Gave s) (taking o a) → ⊥
      no_gave (Is (VStr u)) a j = none u a j
      no_gave _ a j = not_among (Gave s) j.0 j.1 j.2
  gave_next c (Marshal U m d) n s i =
      let t = n.is_sound in
      let g = gave_is s (look Coloured z c (Marshal U m d)) i in
      let x = marshal_parts z g.0 c U m d s (look Coloured z c m) (look Coloured z c d) g.1 in
      let v = x.value in
      let made = made_string z U x.mark s (packed E c v U) x.packs_so in
      let is_typed = of_value d c (as_seen Coloured E c U) v t.1 t.2.2 x.valued in
      let within : ValueWithin v = subst (ActWithin (Within false) ValueWithin) x.valued (kept_within comes_within Coloured z coherent h.bounded.1.1 d c t.3.2) in
      let owns = value_passes (speaks E) z fields d c v t.4.2 x.valued in
      let holds = value_conserved (Told E K) z coherent d c v t.5.1 x.valued in
      record {
        environment = E;
        coherent = coherent;
        keeps = h.keeps;
        mark = x.mark;
        of_type = U;
        value = packed E c v U;
        packable = can_pack E c U x.mark s v coherent t.2.3 is_typed t.3.0 within made;
        gives = made;
        said = marshal_says E K coherent c U v t.2.3 t.4.0 is_typed owns holds;
        owned = packed_owned (speaks E) E v c U owns;
      }
  gave_next c _ n s i = absurd (not_among (Gave s) i.0 i.1 i.2)

  pub gave : (s : Bytes) → IsAmong (Gave s) new → Given S all s
  gave s i = by (redex Main e) refl
    where
      by : (o : Option Redex) → redex Main e ≡ o → Given S all s
      by None q = absurd (let j = subst (IsAmong (Gave s)) (ap (λ o. option_map_or (λ (x : Redex). happening z x.home x.term) o []) q) i in not_among (Gave s) j.0 j.1 j.2)
      by (Some p) q = let n = next_is p q in record { earlier = before; later = new; is_all = refl; vouched = gave_next p.home p.term n s (subst (IsAmong (Gave s)) n.is_new i) }

  -- the next state, over the definitions then
  module _ (F : Environment) (g : Widening E F) where
    -- what a bracket seals tells what is born
    sealing_news : (c b : Home) (n t : Bytes) (d : Expr) → Next c (Bracket b (TAbs n t) d) → (a : Act Expr Value) → look Coloured z b d ≡ a → Sealing (Told F L) E b c n t a
    sealing_news c b n t d x (Is v) q = λ p r w f k.
        let s = x.is_sound in
        let it : Seal = seal b n t v in
        let typed_seal : ValueTyped Coloured E (VSeal b n t v) c (TAbs n t) = (refl, s.2.1, p, r, of_value d b (as_seen Coloured E b (TAbs n t)) v s.2.3 s.2.2 q, s.2.3) in
        let events : new ≡ Born E it ∷ [] = x.is_new ∙ ap (sealing E b c n t) q ∙ ap (λ y. cond (y && not (opens Coloured E c n)) (Born E it ∷ []) []) p ∙ ap (λ y. cond (not y) (Born E it ∷ []) []) r in
        let tells_it : told E it ≡ birth n t w ∷ [] = sym (told_same E F g b c n t v (TAbs n t) typed_seal) ∙ told_is F b n t v w f k in
        born_later before new n t w (subst (λ l. IsAmong (birth n t w) (births l)) (sym events) (subst (λ l. IsAmong (birth n t w) (l ++ [])) (sym tells_it) ([], [], refl)))
    sealing_news c b n t d x (Goes y) q = tt
    sealing_news c b n t d x (Turns y u) q = tt
    sealing_news c b n t d x (Applies y) q = tt
    sealing_news c b n t d x (Raises y) q = tt
    sealing_news c b n t d x Wrong q = tt

    bracket_news : (c b : Home) (U : Typ) (d : Expr) → Next c (Bracket b U d) → News (Told F L) z c (Bracket b U d)
    bracket_news c b (TAbs n t) d x = sealing_news c b n t d x (look Coloured z b d) refl
    bracket_news c b _ d x = tt

    module _ (same : (c : Home) (t : Expr) (y : World) (f : Expr) → Next c t → look Coloured z c t ≡ Turns y f → y.environment ≡ F) where
      landing_news : (c : Home) (U : Typ) (d : Expr) → Next c (Unmarshal U d) → (s : Bytes) → look Coloured z c d ≡ Is (VStr s) → (l : Landing) → landing E U s ≡ l → Brought (Told F L) (brings Coloured (read s) U (brought c U l)) × BroughtOwned (speaks F) c (brings Coloured (read s) U (brought c U l))
      landing_news c U d n s q (Sinks x) r = (tt, (tt, tt))
      landing_news c U d n s q (Lands G v) r =
          let w : Value = rebuilt Coloured G c U v in
          let t = its_string c U d n s G v q r in
          let e : G ≡ F = same c (Unmarshal U d) (grown G (read s)) (Evaluated U w) n (unmarshals c U d s (Lands G v) q r) in
          (subst (λ X. ValueSealed (Told X L) w) e (told_weaker G K L more w t.told), (tt, subst (λ X. ValueOwned (speaks X) c w) e (rebuilt_owned (speaks G) G v c U t.owned)))

      arriving_news : (c : Home) (U : Typ) (d : Expr) → Next c (Unmarshal U d) → News (Told F L) z c (Unmarshal U d) × NewsOwned (speaks F) z c (Unmarshal U d)
      arriving_news c U d n =
          let s = string_next c U d n in
          let a = look Coloured z c (Unmarshal U d) in
          let k = landing_news c U d n s.0 s.1 (landing E U s.0) refl in
          let u = sym (unmarshals c U d s.0 (landing E U s.0) s.1 refl) in
          (subst (λ o. Arriving (Told F L) o a) (sym s.1) (subst (Brought (Told F L)) u k.0), subst (λ o. ArrivingOwned (speaks F) c o a) (sym s.1) (subst (BroughtOwned (speaks F) c) u k.1))

      news_next : (c : Home) (t : Expr) → Next c t → News (Told F L) z c t
      news_next c (Bracket b U d) n = bracket_news c b U d n
      news_next c (Unmarshal U d) n = (arriving_news c U d n).0
      news_next c _ n = tt

      owned_next : (c : Home) (t : Expr) → Next c t → NewsOwned (speaks F) z c t
      owned_next c (Unmarshal U d) n = (arriving_news c U d n).1
      owned_next c _ n = tt

      all_sealed : StateSealed (Told F L) (step Coloured N (At e z))
      all_sealed = seals_come (Told F L) N z e coherent (told_grows E F g K L more e Main [] T typed h.sealed) (λ r q. news_next r.home r.term (next_is r q))

      all_owned : StateOwned (speaks F) (step Coloured N (At e z))
      all_owned =
          owned_kept (speaks F) N z e (λ j f t p. owned_more (speaks E) (speaks F) (speaks_more E F g) t false (In j) (fields j f t p))
          (owned_more (speaks E) (speaks F) (speaks_more E F g) e true Main h.owned) (λ r q. owned_next r.home r.term (next_is r q))

  -- the definitions then
  abbrev then_of : Act Expr Value → Environment
  then_of (Turns y f) = y.environment
  then_of (Is v) = E
  then_of (Goes f) = E
  then_of (Applies f) = E
  then_of (Raises x) = E
  then_of Wrong = E

  abbrev F : Environment
  F = then_of (look_main Coloured z e)

  main_ok : ActOk E (λ G x. Typed Coloured G x Main [] T) (λ G x. ValueTyped Coloured G x Main T) (look_main Coloured z e)
  main_ok = kept arrives Coloured z coherent e Main T refl typed

  widens : (a : Act Expr Value) → ActOk E (λ G x. Typed Coloured G x Main [] T) (λ G x. ValueTyped Coloured G x Main T) a → Widening E (then_of a)
  widens (Turns y f) k = k.0.extends
  widens (Is v) k = extends_not E coherent
  widens (Goes f) k = extends_not E coherent
  widens (Applies f) k = extends_not E coherent
  widens (Raises x) k = extends_not E coherent
  widens Wrong k = extends_not E coherent

  -- the redex changes the definitions as the whole does
  same_then : (a r : Act Expr Value) (y : World) (f : Expr) → ActOk E (λ G x. Typed Coloured G x Main [] T) (λ G x. ValueTyped Coloured G x Main T) a → Comes a r → r ≡ Turns y f → y.environment ≡ then_of a
  same_then (Is v) r y f k c q = absurd c
  same_then (Goes s) r y f k (inl c) q = let e = sym c.1 ∙ q in absurd cc
  same_then (Goes s) r y f k (inr c) q = let e = sym c.1 ∙ q in absurd cc
  same_then (Turns u s) r y f k c q = let e = sym c.1 ∙ q in let w : u ≡ y = cc in ap (λ (x : World). x.environment) (sym w)
  same_then (Applies s) r y f k c q = let e = sym c.1 ∙ q in absurd cc
  same_then (Raises x) r y f k c q = let e = sym c ∙ q in absurd cc
  same_then Wrong r y f k c q = absurd k

  same : (c : Home) (t : Expr) (y : World) (f : Expr) → Next c t → look Coloured z c t ≡ Turns y f → y.environment ≡ F
  same c t y f n q = same_then (look_main Coloured z e) (look Coloured z c t) y f main_ok (in_redex Coloured z e (record { home = c; term = t }) (look_main Coloured z e) n.is_next refl) q

  -- each name has its one text there
  brings_keep : (c : Home) (U : Typ) (d : Expr) → Next c (Unmarshal U d) → (y : World) (f : Expr) → look Coloured z c (Unmarshal U d) ≡ Turns y f → Keeps S y.environment
  brings_keep c U d n y f q = let s = string_next c U d n in by s.0 s.1 (landing E U s.0) refl
    where
      by : (s : Bytes) → look Coloured z c d ≡ Is (VStr s) → (l : Landing) → landing E U s ≡ l → Keeps S y.environment
      by s p (Sinks x) r =
          let k = sym (unmarshals c U d s (Sinks x) p r) ∙ q in
          let w : read s ≡ y = cc in
          subst (Keeps S) (ap (λ (x : World). x.environment) w) h.keeps
      by s p (Lands G v) r =
          let k = sym (unmarshals c U d s (Lands G v) p r) ∙ q in
          let w : grown G (read s) ≡ y = cc in
          let t = its_string c U d n s G v p r in
          subst (Keeps S) (ap (λ (x : World). x.environment) w) t.keeps

  next_keeps : (c : Home) (t : Expr) → UnmarshalsNext (stands_next c t) → Next c t → (y : World) (f : Expr) → look Coloured z c t ≡ Turns y f → Keeps S y.environment
  next_keeps c (Unmarshal U d) u n y f q = brings_keep c U d n y f q
  next_keeps c _ u n y f q = absurd u

  keeps_then : (a : Act Expr Value) → look_main Coloured z e ≡ a → Keeps S (then_of a)
  keeps_then (Turns y f) q = by (definitions_stay Coloured z y (redex Main e) (subst (λ a. Stays Coloured z a (redex Main e)) q (stays Coloured z e Main)))
    where
      at_redex : (o : Option Redex) → redex Main e ≡ o → UnmarshalsNext o → Keeps S y.environment
      at_redex None p u = absurd u
      at_redex (Some r) p u = let g = in_redex Coloured z e r (Turns y f) p q in next_keeps r.home r.term u (next_is r p) y g.0 g.1

      by : (y.environment ≡ E) ⊎ UnmarshalsNext (redex Main e) → Keeps S y.environment
      by (inl i) = subst (Keeps S) (sym i) h.keeps
      by (inr u) = at_redex (redex Main e) refl u
  keeps_then (Is v) q = h.keeps
  keeps_then (Goes f) q = h.keeps
  keeps_then (Applies f) q = h.keeps
  keeps_then (Raises x) q = h.keeps
  keeps_then Wrong q = h.keeps

  -- the definitions of a state
  abbrev IsOver : Environment → State Expr Value → Type 0
  IsOver G (At f y) = y.environment ≡ G
  IsOver G (Over o) = Unit {0}

  is_over : (a : Act Expr Value) → IsOver (then_of a) (after N z a)
  is_over (Is v) = tt
  is_over (Goes f) = refl
  is_over (Turns y f) = refl
  is_over (Applies f) = by (nat_lt z.made N)
    where
      by : (b : Bool) → IsOver E (cond b (At f (counted z)) (Over (Spent z)))
      by true = refl
      by false = tt
  is_over (Raises x) = tt
  is_over Wrong = tt

  runs_on : (s : State Expr Value) → IsOver F s → IsBounded Coloured T s → StateOwned (speaks F) s → StateSealed (Told F L) s → StateRuns S L T s
  runs_on (At f y) i b o k = record {
    bounded = b;
    keeps = subst (Keeps S) (sym i) (keeps_then (look_main Coloured z e) refl);
    owned = subst (λ X. Owned (speaks X) true Main f) (sym i) o;
    sealed = subst (λ X. Sealed (Told X L) f) (sym i) k;
  }
  runs_on (Over r) i b o k = tt

  pub next_runs : StateRuns S L T (step Coloured N (At e z))
  next_runs =
      let g = widens (look_main Coloured z e) main_ok in
      runs_on (step Coloured N (At e z)) (is_over (look_main Coloured z e)) (run_bounded Coloured T N 1 (At e z) h.bounded) (all_owned F g same) (all_sealed F g same)
