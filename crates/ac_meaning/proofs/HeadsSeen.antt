-- What a known type comes to, by what a home sees of it, in either mode.
use Rattle.std.proofs.Common.{◌≡◌, refl, sym, ap, ◌∙◌, ℕ, zero, suc, true, length}
use native.Mathlib.Omega.{arith}
use Rattle.ac_types.specs.Types.{Typ, TInt, TBool, TStr, TUnit, TExn, TTuple, TList, TOpt, TFun, TAbs, TMine, Typs, no_types, same}
use Rattle.ac_terms.specs.Terms.{Home}
use Rattle.ac_terms.specs.Defs.{Environment}
use Rattle.ac_rules.specs.Views.{Mode, Plain, Coloured, view, head, unsealed, rounds, are_known}
use Rattle.ac_rules.specs.Coherent.{IsCoherent}
use Rattle.ac_rules.proofs.KnownTypes.{IsConcrete, head_concrete, rounds_known}
use Rattle.ac_rules.proofs.HeadViews as coloured
use Rattle.ac_meaning.proofs.Homes.{all_seen, seen_tuple, seen_list, seen_opt, seen_fun, seen_int, seen_bool, seen_str, seen_unit, seen_exn, seen_mine, represented, view_open, opened_is}

-- which kind of type it is
abbrev kind : Typ → ℕ
kind TInt = 0
kind TBool = 1
kind TStr = 2
kind TUnit = 3
kind TExn = 4
kind (TTuple Ts) = 5
kind (TList T) = 6
kind (TOpt T) = 7
kind (TFun T U) = 8
kind (TAbs n t) = 9
kind (TMine t) = 10

abbrev parts : Typ → Typs
parts (TTuple Ts) = Ts
parts T = no_types

abbrev item : Typ → Typ
item (TList T) = T
item (TOpt T) = T
item T = T

is_int : (H : Typ) → kind H ≡ 0 → same H TInt ≡ true
is_int TInt q = refl
is_int _ q = absurd (omega (arith, q))

is_bool : (H : Typ) → kind H ≡ 1 → same H TBool ≡ true
is_bool TBool q = refl
is_bool _ q = absurd (omega (arith, q))

is_str : (H : Typ) → kind H ≡ 2 → same H TStr ≡ true
is_str TStr q = refl
is_str _ q = absurd (omega (arith, q))

is_unit : (H : Typ) → kind H ≡ 3 → same H TUnit ≡ true
is_unit TUnit q = refl
is_unit _ q = absurd (omega (arith, q))

is_exn : (H : Typ) → kind H ≡ 4 → same H TExn ≡ true
is_exn TExn q = refl
is_exn _ q = absurd (omega (arith, q))

module _ (E : Environment) (coherent : IsCoherent E) where
  abbrev C : Typ → Type 0
  C T = IsConcrete E coherent T

  -- in Plain mode an abstract type is seen as what it stands for
  plain_unsealed : (c : Home) (T : Typ) → are_known E T ≡ true → view Plain E c (unsealed E T) ≡ view Plain E c T
  plain_unsealed c (TAbs n t) h =
      let r = represented E coherent n t h in
      ap (view Plain E c) (opened_is E coherent n t r.0 r.1) ∙ sym (view_open E coherent Plain c n t r.0 r.1 h refl)
  plain_unsealed c TInt h = refl
  plain_unsealed c TBool h = refl
  plain_unsealed c TStr h = refl
  plain_unsealed c TUnit h = refl
  plain_unsealed c TExn h = refl
  plain_unsealed c (TTuple Ts) h = refl
  plain_unsealed c (TList T) h = refl
  plain_unsealed c (TOpt T) h = refl
  plain_unsealed c (TFun T U) h = refl
  plain_unsealed c (TMine t) h = refl

  plain_rounds : (k : ℕ) (c : Home) (T : Typ) → are_known E T ≡ true → view Plain E c (rounds k (unsealed E) T) ≡ view Plain E c T
  plain_rounds zero c T h = refl
  plain_rounds (suc k) c T h = plain_rounds k c (unsealed E T) (rounds_known E coherent (suc zero) T h) ∙ plain_unsealed c T h

  -- what a type is in the end, where the home sees no abstract type
  pub at_head : (mode : Mode) (c : Home) (T X : Typ) → are_known E T ≡ true → C X → view mode E c T ≡ X → C (head E T) × (view mode E c (head E T) ≡ X)
  at_head Coloured c T X h k e = coloured.at_head E coherent c T X h k e
  at_head Plain c T X h k e = (head_concrete E coherent T h, plain_rounds (length E) c T h ∙ e)

  module _ (mode : Mode) (c : Home) where
    kind_seen : (H : Typ) → C H → kind (view mode E c H) ≡ kind H
    kind_seen TInt k = ap kind (seen_int E mode c)
    kind_seen TBool k = ap kind (seen_bool E mode c)
    kind_seen TStr k = ap kind (seen_str E mode c)
    kind_seen TUnit k = ap kind (seen_unit E mode c)
    kind_seen TExn k = ap kind (seen_exn E mode c)
    kind_seen (TTuple Ts) k = ap kind (seen_tuple E mode c Ts)
    kind_seen (TList T) k = ap kind (seen_list E mode c T)
    kind_seen (TOpt T) k = ap kind (seen_opt E mode c T)
    kind_seen (TFun T U) k = ap kind (seen_fun E mode c T U)
    kind_seen (TAbs n t) k = absurd k
    kind_seen (TMine t) k = ap kind (seen_mine E mode c t)

    at_kind : (H X : Typ) → C H → view mode E c H ≡ X → kind H ≡ kind X
    at_kind H X k e = sym (kind_seen H k) ∙ ap kind e

    pub int_at : (H : Typ) → C H → view mode E c H ≡ TInt → same H TInt ≡ true
    int_at H k e = is_int H (at_kind H TInt k e)

    pub bool_at : (H : Typ) → C H → view mode E c H ≡ TBool → same H TBool ≡ true
    bool_at H k e = is_bool H (at_kind H TBool k e)

    pub str_at : (H : Typ) → C H → view mode E c H ≡ TStr → same H TStr ≡ true
    str_at H k e = is_str H (at_kind H TStr k e)

    pub unit_at : (H : Typ) → C H → view mode E c H ≡ TUnit → same H TUnit ≡ true
    unit_at H k e = is_unit H (at_kind H TUnit k e)

    pub exn_at : (H : Typ) → C H → view mode E c H ≡ TExn → same H TExn ≡ true
    exn_at H k e = is_exn H (at_kind H TExn k e)

    tuple_of : (H : Typ) (Us : Typs) → kind H ≡ 5 → view mode E c H ≡ TTuple Us → (Ts : Typs) × (H ≡ TTuple Ts) × (all_seen E mode c Ts ≡ Us)
    tuple_of (TTuple Ts) Us q e = (Ts, refl, ap parts (sym (seen_tuple E mode c Ts) ∙ e))
    tuple_of _ Us q e = absurd (omega (arith, q))

    list_of : (H U : Typ) → kind H ≡ 6 → view mode E c H ≡ TList U → (T : Typ) × (H ≡ TList T) × (view mode E c T ≡ U)
    list_of (TList T) U q e = (T, refl, ap item (sym (seen_list E mode c T) ∙ e))
    list_of _ U q e = absurd (omega (arith, q))

    option_of : (H U : Typ) → kind H ≡ 7 → view mode E c H ≡ TOpt U → (T : Typ) × (H ≡ TOpt T) × (view mode E c T ≡ U)
    option_of (TOpt T) U q e = (T, refl, ap item (sym (seen_opt E mode c T) ∙ e))
    option_of _ U q e = absurd (omega (arith, q))

    pub tuple_at : (H : Typ) (Us : Typs) → C H → view mode E c H ≡ TTuple Us → (Ts : Typs) × (H ≡ TTuple Ts) × (all_seen E mode c Ts ≡ Us)
    tuple_at H Us k e = tuple_of H Us (at_kind H (TTuple Us) k e) e

    pub list_at : (H U : Typ) → C H → view mode E c H ≡ TList U → (T : Typ) × (H ≡ TList T) × (view mode E c T ≡ U)
    list_at H U k e = list_of H U (at_kind H (TList U) k e) e

    pub option_at : (H U : Typ) → C H → view mode E c H ≡ TOpt U → (T : Typ) × (H ≡ TOpt T) × (view mode E c T ≡ U)
    option_at H U k e = option_of H U (at_kind H (TOpt U) k e) e
