-- Which values patterns fit, form by form.
use Rattle.std.proofs.Common.{◌≡◌, ◌≢◌, ◌∙◌, ap, ap₂, sym, refl, subst, ℕ, ℤ, zero, suc, ◌<◌, ◌+◌, Bool, true, false, nat_eq, List, [], ◌∷◌, ◌++◌, length, get_or, drop, map, Option, Some, None, arith}
use Rattle.std.specs.Prelude.{option_and_then}
use Rattle.std.specs.List.{All}
use Rattle.std.proofs.lemmas.List.Elements.{All-append}
use Rattle.ac_types.specs.Types.{Bytes, Typ, same_bytes}
use Rattle.ac_code.specs.Constants.{same_int}
use Rattle.ac_terms.specs.Terms.{Pattern, PVar, PInt, PStr, PUnit, PTuple, PNil, PCons, PAbsent, PPresent, PExnOf, Patterns, patterns}
use Rattle.ac_terms.specs.Read.{pattern_of, pattern_layer}
use Rattle.ac_terms.specs.declared.pat.Pat.{Pat, out-Pat, map-Pat, fold_out-Pat}
use Rattle.ac_terms.specs.declared.pat.Pat.TheViews.{the_lemmas}
use Rattle.ac_terms.specs.declared.pat.Pat.TheVariants as code
use Rattle.ac_values.specs.declared.node.Node.{Node}
use Rattle.ac_values.specs.declared.node.Value.{Value}
use Rattle.ac_values.specs.Values.{MValue, MInt, MStr, MExnOf, MTuple, MUnit, MNil, MAbsent, MCons, MPresent, MMore, stands_as, values_at, values}
use Rattle.ac_values.specs.ValueReaders.{int_in, text_in, cons_in, present_in, tuple_in, exn_with, is_unit, is_nil, is_absent}
use Rattle.ac_values.specs.inner.Fitting.{environment_with, Fitted, Tested}
use Rattle.ac_values.specs.Fits.{where_true, bound, all_bound}
use Rattle.ac_values.proofs.ReadLaws.{all_one}
use Rattle.ac_machine_primitives.proofs.ListLaws.{next_at}

pub pattern_out : (p : Pat) → pattern_of p ≡ pattern_layer (map-Pat Pat Pattern pattern_of (out-Pat p))
unfolding pattern_of
pattern_out p = fold_out-Pat Pattern pattern_layer p

pub pattern_of-Tuple : (ps : List Pat) → pattern_of (code.Tuple ps) ≡ PTuple (patterns (map pattern_of ps))
pattern_of-Tuple ps = pattern_out (code.Tuple ps) ∙ ap (λ x. pattern_layer (map-Pat Pat Pattern pattern_of x)) (code.outs-Tuple ps)

pub ruleset form_laws = (pattern_out, pattern_of-Tuple, the_lemmas)

-- an item that is there, whatever stands for one that isn't
pub same_item : {X : Type 0} (xs : List X) (i : ℕ) (d e : X) → i < length xs → get_or xs i d ≡ get_or xs i e
same_item [] i d e h = absurd (omega arith)
same_item (x ∷ xs) zero d e h = refl
same_item (x ∷ xs) (suc i) d e h = same_item xs i d e (omega arith)

-- what is bound where a reader finds this
abbrev pub found_then : {A B : Type 0} → Option A → (A → Option B) → Option B
found_then None f = None
found_then (Some a) f = f a

pub at_int : (n : ℤ) (m es : MValue) → bound (PInt n) m es ≡ found_then (int_in m) (λ k. where_true (same_int n k) (Some es))
at_int n (MInt k) es = refl
at_int n m es = refl

pub at_text : (s : Bytes) (m es : MValue) → bound (PStr s) m es ≡ found_then (text_in m) (λ t. where_true (same_bytes s t) (Some es))
at_text s (MStr t) es = refl
at_text s m es = refl

pub at_unit : (m : MValue) → Tested (bound PUnit m) (is_unit m)
at_unit MUnit = λ es. refl
at_unit m = λ es. refl

pub at_nil : (m : MValue) → Tested (bound PNil m) (is_nil m)
at_nil MNil = λ es. refl
at_nil m = λ es. refl

pub at_absent : (m : MValue) → Tested (bound PAbsent m) (is_absent m)
at_absent MAbsent = λ es. refl
at_absent m = λ es. refl

pub at_cons : (p q : Pattern) (m es : MValue) → bound (PCons p q) m es ≡ found_then (cons_in m) (λ c. option_and_then (bound q c.1) (bound p c.0 es))
at_cons p q (MCons a b) es = refl
at_cons p q m es = refl

pub at_present : (p : Pattern) (m es : MValue) → bound (PPresent p) m es ≡ found_then (present_in m) (λ a. bound p a es)
at_present p (MPresent a) es = refl
at_present p m es = refl

pub at_tuple : (ps : Patterns) (m es : MValue) → bound (PTuple ps) m es ≡ found_then (tuple_in m) (λ ms. all_bound ps ms es)
at_tuple ps (MTuple ms) es = refl
at_tuple ps m es = refl

pub at_exn_of : (k : ℕ) (p : Pattern) (m es : MValue) → bound (PExnOf k p) m es ≡ found_then (exn_with m) (λ x. where_true (nat_eq k x.0) (bound p x.1 es))
at_exn_of k p (MExnOf j a) es = refl
at_exn_of k p m es = refl

module _ (ns : List Node) where
  abbrev pub Values : List Value → Type 0
  Values vs = All (λ (v : Value). v.0 < length ns) vs

  pub fitted_tested : (f : MValue → Option MValue) (vs : List Value) (b : Bool) → Values vs → Tested f b → Fitted ns f vs vs b
  fitted_tested f vs true h t = (h, λ es. t (environment_with ns vs es))
  fitted_tested f vs false h t = t

  pub fitted_as : (f g : MValue → Option MValue) (vs ws : List Value) (b : Bool) → ((es : MValue) → f es ≡ g es) → Fitted ns g vs ws b → Fitted ns f vs ws b
  fitted_as f g vs ws true e h = (h.0, λ es. e (environment_with ns vs es) ∙ h.1 es)
  fitted_as f g vs ws false e h = λ es. e es ∙ h es

  under_more : (vs : List Value) (v : Value) (es : MValue) → environment_with ns (vs ++ v ∷ []) es ≡ MMore (stands_as ns v.0) (environment_with ns vs es)
  under_more [] v es = refl
  under_more (x ∷ vs) v es = under_more vs v (MMore (stands_as ns x.0) es)

  pub fitted_var : (T : Typ) (v : Value) (vs ws : List Value) → v.0 < length ns → Values vs → ws ≡ vs ++ v ∷ [] → Fitted ns (bound (PVar T) (stands_as ns v.0)) vs ws true
  fitted_var T v vs ws l h e = (
    subst Values (sym e) (All-append (λ (x : Value). x.0 < length ns) vs (v ∷ []) h (all_one (λ (x : Value). x.0 < length ns) v l)),
    λ es. ap Some (sym (ap (λ (x : List Value). environment_with ns x es) e ∙ under_more vs v es)),
  )

  none_then : (g : MValue → Option MValue) (o : Option MValue) → ((es : MValue) → g es ≡ None) → option_and_then g o ≡ None
  none_then g None h = refl
  none_then g (Some e) h = h e

  -- one after another
  pub fitted_then : (f g : MValue → Option MValue) (us vs ws : List Value) (b : Bool) → Fitted ns f us vs true → Fitted ns g vs ws b → Fitted ns (λ es. option_and_then g (f es)) us ws b
  fitted_then f g us vs ws true h k = (k.0, λ es. ap (option_and_then g) (h.1 es) ∙ k.1 es)
  fitted_then f g us vs ws false h k = λ es. none_then g (f es) k

  -- the patterns from i on are still to be tried, where those before it fit
  pub record Left (ps : List Pat) (vs us ws : List Value) (i : ℕ) : Type 0 where
    pub fits : (es : MValue) → all_bound (patterns (map pattern_of ps)) (values_at (values ns) vs) (environment_with ns us es)
        ≡ all_bound (patterns (map pattern_of (drop i ps))) (values_at (values ns) (drop i vs)) (environment_with ns ws es)
    pub fails : ((es : MValue) → all_bound (patterns (map pattern_of (drop i ps))) (values_at (values ns) (drop i vs)) es ≡ None) →
        (es : MValue) → all_bound (patterns (map pattern_of ps)) (values_at (values ns) vs) es ≡ None

  module _ (ps : List Pat) (vs us ws : List Value) (i : ℕ) (p : Pat) (v : Value) (h : i < length ps) (k : i < length vs) (e : p ≡ get_or ps i p) (d : v ≡ get_or vs i v) (l : Left ps vs us ws i) where
    here : (es : MValue) → all_bound (patterns (map pattern_of (drop i ps))) (values_at (values ns) (drop i vs)) es
        ≡ option_and_then (all_bound (patterns (map pattern_of (drop (i + 1) ps))) (values_at (values ns) (drop (i + 1) vs))) (bound (pattern_of p) (stands_as ns v.0) es)
    here es =
        ap₂ (λ (x : List Pat) (y : List Value). all_bound (patterns (map pattern_of x)) (values_at (values ns) y) es)
        (next_at ps i p h ∙ ap (λ (x : Pat). x ∷ drop (i + 1) ps) (sym e)) (next_at vs i v k ∙ ap (λ (x : Value). x ∷ drop (i + 1) vs) (sym d))

    pub left_on : (xs : List Value) → Fitted ns (bound (pattern_of p) (stands_as ns v.0)) ws xs true → Left ps vs us xs (i + 1)
    left_on xs f = record {
      fits = λ es. l.fits es ∙ here (environment_with ns ws es) ∙ ap (option_and_then (all_bound (patterns (map pattern_of (drop (i + 1) ps))) (values_at (values ns) (drop (i + 1) vs)))) (f.1 es);
      fails = λ n es. l.fails (λ x. here x ∙ none_then (all_bound (patterns (map pattern_of (drop (i + 1) ps))) (values_at (values ns) (drop (i + 1) vs))) (bound (pattern_of p) (stands_as ns v.0) x) n) es;
    }

    pub left_not : (xs : List Value) → Fitted ns (bound (pattern_of p) (stands_as ns v.0)) ws xs false → (es : MValue) → all_bound (patterns (map pattern_of ps)) (values_at (values ns) vs) es ≡ None
    left_not xs f es = l.fails (λ x. here x ∙ ap (option_and_then (all_bound (patterns (map pattern_of (drop (i + 1) ps))) (values_at (values ns) (drop (i + 1) vs)))) (f x)) es

  pub other_lengths : (ps : List Pat) (vs : List Value) → length ps ≢ length vs → (es : MValue) → all_bound (patterns (map pattern_of ps)) (values_at (values ns) vs) es ≡ None
  other_lengths [] [] h es = absurd (h refl)
  other_lengths [] (v ∷ vs) h es = refl
  other_lengths (p ∷ ps) [] h es = refl
  other_lengths (p ∷ ps) (v ∷ vs) h es = none_then (all_bound (patterns (map pattern_of ps)) (values_at (values ns) vs)) (bound (pattern_of p) (stands_as ns v.0) es) (other_lengths ps vs (λ e. h (ap suc e)))

  module _ (p : Pattern) (v : Value) where
    pub no_tuple : (ps : Patterns) → p ≡ PTuple ps → tuple_in (stands_as ns v.0) ≡ None → (es : MValue) → bound p (stands_as ns v.0) es ≡ None
    no_tuple ps e f es = ap (λ q. bound q (stands_as ns v.0) es) e ∙ at_tuple ps (stands_as ns v.0) es ∙ ap (λ o. found_then o (λ ms. all_bound ps ms es)) f

    pub no_cons : (x y : Pattern) → p ≡ PCons x y → cons_in (stands_as ns v.0) ≡ None → (es : MValue) → bound p (stands_as ns v.0) es ≡ None
    no_cons x y e f es = ap (λ q. bound q (stands_as ns v.0) es) e ∙ at_cons x y (stands_as ns v.0) es ∙ ap (λ o. found_then o (λ c. option_and_then (bound y c.1) (bound x c.0 es))) f

    pub no_present : (x : Pattern) → p ≡ PPresent x → present_in (stands_as ns v.0) ≡ None → (es : MValue) → bound p (stands_as ns v.0) es ≡ None
    no_present x e f es = ap (λ q. bound q (stands_as ns v.0) es) e ∙ at_present x (stands_as ns v.0) es ∙ ap (λ o. found_then o (λ a. bound x a es)) f

    pub no_exn : (k : ℕ) (x : Pattern) → p ≡ PExnOf k x → exn_with (stands_as ns v.0) ≡ None → (es : MValue) → bound p (stands_as ns v.0) es ≡ None
    no_exn k x e f es = ap (λ q. bound q (stands_as ns v.0) es) e ∙ at_exn_of k x (stands_as ns v.0) es ∙ ap (λ o. found_then o (λ y. where_true (nat_eq k y.0) (bound x y.1 es))) f

    pub other_exn : (k j : ℕ) (x : Pattern) (a : Value) → p ≡ PExnOf k x → exn_with (stands_as ns v.0) ≡ Some (j, stands_as ns a.0) → nat_eq k j ≡ false → (es : MValue) → bound p (stands_as ns v.0) es ≡ None
    other_exn k j x a e f n es =
        ap (λ q. bound q (stands_as ns v.0) es) e ∙ at_exn_of k x (stands_as ns v.0) es ∙ ap (λ o. found_then o (λ y. where_true (nat_eq k y.0) (bound x y.1 es))) f
        ∙ ap (λ t. where_true t (bound x (stands_as ns a.0) es)) n

    module _ (us ws : List Value) (b : Bool) where
      pub tuple_fits : (ps as' : List Pat) (vs bs : List Value) → p ≡ PTuple (patterns (map pattern_of ps)) → as' ≡ ps → bs ≡ vs → tuple_in (stands_as ns v.0) ≡ Some (values_at (values ns) vs) →
          Fitted ns (all_bound (patterns (map pattern_of as')) (values_at (values ns) bs)) us ws b → Fitted ns (bound p (stands_as ns v.0)) us ws b
      tuple_fits ps as' vs bs e f g t h =
          fitted_as (bound p (stands_as ns v.0)) (all_bound (patterns (map pattern_of as')) (values_at (values ns) bs)) us ws b
          (λ es. ap (λ q. bound q (stands_as ns v.0) es) e ∙ at_tuple (patterns (map pattern_of ps)) (stands_as ns v.0) es ∙ ap (λ o. found_then o (λ ms. all_bound (patterns (map pattern_of ps)) ms es)) t
          ∙ sym (ap₂ (λ (x : List Pat) (y : List Value). all_bound (patterns (map pattern_of x)) (values_at (values ns) y) es) f g))
          h

      pub present_fits : (x : Pattern) (a : Value) → p ≡ PPresent x → present_in (stands_as ns v.0) ≡ Some (stands_as ns a.0) → Fitted ns (bound x (stands_as ns a.0)) us ws b → Fitted ns (bound p (stands_as ns v.0)) us ws b
      present_fits x a e f h =
          fitted_as (bound p (stands_as ns v.0)) (bound x (stands_as ns a.0)) us ws b
          (λ es. ap (λ q. bound q (stands_as ns v.0) es) e ∙ at_present x (stands_as ns v.0) es ∙ ap (λ o. found_then o (λ a. bound x a es)) f) h

      pub exn_fits : (k j : ℕ) (x : Pattern) (a : Value) → p ≡ PExnOf k x → exn_with (stands_as ns v.0) ≡ Some (j, stands_as ns a.0) → nat_eq k j ≡ true → Fitted ns (bound x (stands_as ns a.0)) us ws b → Fitted ns (bound p (stands_as ns v.0)) us ws b
      exn_fits k j x a e f n h =
          fitted_as (bound p (stands_as ns v.0)) (bound x (stands_as ns a.0)) us ws b
          (λ es. ap (λ q. bound q (stands_as ns v.0) es) e ∙ at_exn_of k x (stands_as ns v.0) es ∙ ap (λ o. found_then o (λ y. where_true (nat_eq k y.0) (bound x y.1 es))) f
          ∙ ap (λ t. where_true t (bound x (stands_as ns a.0) es)) n) h

    module _ (x y : Pattern) (a c : Value) (us vs : List Value) (e : p ≡ PCons x y) (f : cons_in (stands_as ns v.0) ≡ Some (stands_as ns a.0, stands_as ns c.0)) where
      both : (es : MValue) → bound p (stands_as ns v.0) es ≡ option_and_then (bound y (stands_as ns c.0)) (bound x (stands_as ns a.0) es)
      both es = ap (λ q. bound q (stands_as ns v.0) es) e ∙ at_cons x y (stands_as ns v.0) es ∙ ap (λ o. found_then o (λ z. option_and_then (bound y z.1) (bound x z.0 es))) f

      pub cons_fits : (ws : List Value) (b : Bool) → Fitted ns (bound x (stands_as ns a.0)) us vs true → Fitted ns (bound y (stands_as ns c.0)) vs ws b → Fitted ns (bound p (stands_as ns v.0)) us ws b
      cons_fits ws b h k =
          fitted_as (bound p (stands_as ns v.0)) (λ es. option_and_then (bound y (stands_as ns c.0)) (bound x (stands_as ns a.0) es)) us ws b both
          (fitted_then (bound x (stands_as ns a.0)) (bound y (stands_as ns c.0)) us vs ws b h k)

      pub cons_not : Fitted ns (bound x (stands_as ns a.0)) us vs false → (es : MValue) → bound p (stands_as ns v.0) es ≡ None
      cons_not h es = both es ∙ ap (option_and_then (bound y (stands_as ns c.0))) (h es)
