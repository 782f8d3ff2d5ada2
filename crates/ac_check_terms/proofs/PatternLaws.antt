-- The variables of patterns, form by form, and those of a list of patterns.
use Rattle.std.proofs.Common.{ℕ, ◌≡◌, ◌+◌, ◌<◌, suc, refl, sym, ap, ap₂, ◌∙◌, append_assoc, Bool, true, false, List, [], ◌∷◌, ◌++◌, length, map, reverse, get_or, drop, Option, Some, None}
use Rattle.std.specs.Prelude.{is_some}
use Rattle.std.proofs.lemmas.List.{reverse-append, map-append}
use Rattle.ac_types.specs.Partial.{given}
use Rattle.ac_types.specs.Types.{Typ, TStr, TExn, TTuple, TList, TOpt, same}
use Rattle.ac_types.specs.ReadTypes.{typ_of}
use Rattle.ac_types.specs.declared.ty.Ty.{Ty}
use Rattle.ac_terms.specs.Terms.{Home, Pattern, PTuple, PNil, PCons, PAbsent, PPresent, PExn, PExnOf, Patterns, patterns}
use Rattle.ac_terms.specs.Read.{pattern_of}
use Rattle.ac_types.specs.ReadNumbers.{bare_number, texted_number}
use Rattle.ac_types.specs.declared.exceptions.BareExn.{BareExn}
use Rattle.ac_types.specs.declared.exceptions.TextExn.{TextExn}
use Rattle.ac_types.proofs.NumberLaws.{texted_has_one}
use Rattle.ac_terms.proofs.ExceptionLaws.{bare_is}
use Rattle.ac_terms.specs.Defs.{Environment}
use Rattle.ac_terms.specs.declared.pat.Pat.{Pat}
use Rattle.ac_terms.specs.declared.pat.Pat.TheViews.{the_lemmas}
use Rattle.ac_terms.proofs.PatternForms.{pattern_out, pattern_of-Tuple}
use Rattle.ac_rules.specs.Views.{Coloured}
use Rattle.ac_rules.specs.Typing.{variables, variables_of_all, variables_joined, tuple_parts, list_item, option_item}
use Rattle.ac_check_views.specs.Sites.{typs_of}
use Rattle.ac_check_terms.specs.inner.Parts.{newest_first}
use Rattle.ac_check_views.proofs.PairLaws.{from_item}

-- what is joined to variables that are there

pub joined_given : (Ts : List Typ) (b : Bool) → variables_joined (Some Ts) (given b (Some [])) ≡ given b (Some Ts)
joined_given Ts true = refl
joined_given Ts false = refl

pub joined_none : (o : Option (List Typ)) → variables_joined o None ≡ None
joined_none (Some Ts) = refl
joined_none None = refl

pub joined_twice : (a b c : Option (List Typ)) → variables_joined (variables_joined a b) c ≡ variables_joined a (variables_joined b c)
joined_twice (Some Ts) (Some Us) (Some Vs) = ap Some (sym (append_assoc Vs Us Ts))
joined_twice (Some Ts) (Some Us) None = refl
joined_twice (Some Ts) None c = refl
joined_twice None b c = refl

pub newest_more : (ts : List Ty) (t : Ty) → newest_first (ts ++ t ∷ []) ≡ typ_of t ∷ newest_first ts
newest_more ts t = ap reverse (map-append typ_of ts (t ∷ [])) ∙ reverse-append (map typ_of ts) (typ_of t ∷ [])

module _ (E : Environment) (c : Home) where
  abbrev pub vars : Pattern → Typ → Option (List Typ)
  vars p T = variables Coloured true E c p T

  abbrev pub vars_of_all : List Pat → List Ty → Option (List Typ)
  vars_of_all ps ts = variables_of_all Coloured true E c (patterns (map pattern_of ps)) (typs_of ts)

  pub at_tuple : (ps : Patterns) (T : Typ) → vars (PTuple ps) T ≡ elim (tuple_parts T) [ None ↦ None | Some Ts ↦ variables_of_all Coloured true E c ps Ts ]
  at_tuple ps (TTuple Ts) = refl
  at_tuple ps T = refl

  pub at_nil : (T : Typ) → vars PNil T ≡ given (is_some (list_item T)) (Some [])
  at_nil (TList T) = refl
  at_nil T = refl

  pub at_cons : (p q : Pattern) (T : Typ) → vars (PCons p q) T ≡ elim (list_item T) [ None ↦ None | Some U ↦ variables_joined (vars p U) (vars q T) ]
  at_cons p q (TList T) = refl
  at_cons p q T = refl

  pub at_absent : (T : Typ) → vars PAbsent T ≡ given (is_some (option_item T)) (Some [])
  at_absent (TOpt T) = refl
  at_absent T = refl

  pub at_present : (p : Pattern) (T : Typ) → vars (PPresent p) T ≡ elim (option_item T) [ None ↦ None | Some U ↦ vars p U ]
  at_present p (TOpt T) = refl
  at_present p T = refl

  pub at_bare : (x : BareExn) (T : Typ) → vars (PExn (bare_number x)) T ≡ given (same TExn T) (Some [])
  at_bare x TExn = ap (λ (b : Bool). given b (Some [])) (bare_is x)
  at_bare x T = refl

  pub at_texted : (x : TextExn) (p : Pattern) (T : Typ) → vars (PExnOf (texted_number x) p) T ≡ given (same TExn T) (vars p TStr)
  at_texted x p TExn = ap (λ (b : Bool). given b (vars p TStr)) (texted_has_one x)
  at_texted x p T = refl

  -- the two parts of a list's pattern, one after the other
  cons_is : (p q : Pattern) (T U : Typ) (before : List Typ) → Some U ≡ list_item T → variables_joined (Some before) (vars (PCons p q) T) ≡ variables_joined (variables_joined (Some before) (vars p U)) (vars q T)
  cons_is p q T U before e =
      ap (variables_joined (Some before)) (at_cons p q T ∙ ap (λ (o : Option Typ). elim o as (λ x. Option (List Typ)) [ None ↦ None | Some V ↦ variables_joined (vars p V) (vars q T) ]) (sym e))
      ∙ sym (joined_twice (Some before) (vars p U) (vars q T))

  pub cons_none : (p q : Pattern) (T U : Typ) (before : List Typ) → Some U ≡ list_item T → None ≡ variables_joined (Some before) (vars p U) → None ≡ variables_joined (Some before) (vars (PCons p q) T)
  cons_none p q T U before e h = sym (cons_is p q T U before e ∙ ap (λ (o : Option (List Typ)). variables_joined o (vars q T)) (sym h))

  pub cons_some : (p q : Pattern) (T U : Typ) (before found : List Typ) → Some U ≡ list_item T → Some found ≡ variables_joined (Some before) (vars p U)
      → variables_joined (Some found) (vars q T) ≡ variables_joined (Some before) (vars (PCons p q) T)
  cons_some p q T U before found e h = ap (λ (o : Option (List Typ)). variables_joined o (vars q T)) h ∙ sym (cons_is p q T U before e)

  pub text_some : (x : TextExn) (p : Pattern) (T U : Typ) (before : List Typ) → U ≡ TStr → same TExn T ≡ true
      → variables_joined (Some before) (vars p U) ≡ variables_joined (Some before) (vars (PExnOf (texted_number x) p) T)
  text_some x p T U before s e =
      ap (variables_joined (Some before)) (ap (vars p) s ∙ sym (at_texted x p T ∙ ap (λ (b : Bool). given b (vars p TStr)) e))

  pub other_lengths : (ps : List Pat) (ts : List Ty) → (length ps ≡ length ts → ⊥) → vars_of_all ps ts ≡ None
  other_lengths [] [] h = absurd (h refl)
  other_lengths [] (t ∷ ts) h = refl
  other_lengths (p ∷ ps) [] h = refl
  other_lengths (p ∷ ps) (t ∷ ts) h = ap (variables_joined (vars (pattern_of p) (typ_of t))) (other_lengths ps ts (λ e. h (ap suc e))) ∙ joined_none (vars (pattern_of p) (typ_of t))

  next_pattern : (ps : List Pat) (ts : List Ty) (i : ℕ) (p : Pat) (t : Ty) → i < length ps → i < length ts → p ≡ get_or ps i p → t ≡ get_or ts i t
      → vars_of_all (drop i ps) (drop i ts) ≡ variables_joined (vars (pattern_of p) (typ_of t)) (vars_of_all (drop (i + 1) ps) (drop (i + 1) ts))
  next_pattern ps ts i p t h k e d = ap₂ vars_of_all (from_item ps i p h e) (from_item ts i t k d)

  module _ (ps : List Pat) (ts : List Ty) (i : ℕ) (p : Pat) (t : Ty) (h : i < length ps) (k : i < length ts) (e : p ≡ get_or ps i p) (d : t ≡ get_or ts i t)
      (all : Option (List Typ)) (before : List Ty) (so : all ≡ variables_joined (Some (newest_first before)) (vars_of_all (drop i ps) (drop i ts))) where
    step : all ≡ variables_joined (variables_joined (Some (newest_first before)) (vars (pattern_of p) (typ_of t))) (vars_of_all (drop (i + 1) ps) (drop (i + 1) ts))
    step =
        so ∙ ap (variables_joined (Some (newest_first before))) (next_pattern ps ts i p t h k e d)
        ∙ sym (joined_twice (Some (newest_first before)) (vars (pattern_of p) (typ_of t)) (vars_of_all (drop (i + 1) ps) (drop (i + 1) ts)))

    pub pattern_some : (us : List Ty) → Some (newest_first us) ≡ variables_joined (Some (newest_first before)) (vars (pattern_of p) (typ_of t))
        → all ≡ variables_joined (Some (newest_first us)) (vars_of_all (drop (i + 1) ps) (drop (i + 1) ts))
    pattern_some us q = step ∙ ap (λ (o : Option (List Typ)). variables_joined o (vars_of_all (drop (i + 1) ps) (drop (i + 1) ts))) (sym q)

    pub pattern_none : None ≡ variables_joined (Some (newest_first before)) (vars (pattern_of p) (typ_of t)) → all ≡ None
    pattern_none q = step ∙ ap (λ (o : Option (List Typ)). variables_joined o (vars_of_all (drop (i + 1) ps) (drop (i + 1) ts))) (sym q)

pub ruleset form_laws = (pattern_out, the_lemmas)

pub ruleset pattern_laws = (pattern_out, pattern_of-Tuple, the_lemmas, joined_given, joined_none, joined_twice, newest_more, at_tuple, at_nil, at_cons, at_absent, at_present, at_bare, at_texted)
