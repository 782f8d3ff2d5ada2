-- How patterns, terms and packed values are read exactly, whatever reads types.
use Rattle.std.specs.Prelude.{ℕ, zero, suc, Bool, true, false, nat_le, List, [], ◌∷◌, Some, None}
use Rattle.ac_types.specs.Limits.{longest_string, most_arms}
use Rattle.ac_types.specs.Types.{Typ}
use Rattle.ac_terms.specs.Terms.{Pattern, PWild, PVar, PInt, PBool, PStr, PUnit, PTuple, PNil, PCons, PAbsent, PPresent, PExn, PExnOf, no_patterns, pattern', Expr, Int, Boolean, Str, Unit', Exn, ExnOf, Tuple, Nil, Empty, Present, Cons, Var, Own, Ref, Lam, Rec, App, Let, If, Seq, Match, Try, Raise, Prim, Marshal, Unmarshal, Val, no_exprs, expr, Arms, no_arms, arm, PValue, KInt, KBool, KStr, KUnit, KExn, KTuple, KList, KAbsent, KPresent, KFun, no_pvalues, pvalue, Home}
use Rattle.ac_types.specs.Exceptions.{has_text, resolve_failure}
use Rattle.ac_terms.specs.PrimitiveTypes.{primitives}
use Rattle.ac_terms.specs.Bounds.{takes, is_lambda}
use Rattle.ac_terms.specs.PacketReading.{ReadsPart, give, one, then_read, two_parts_read, three, pair, times, tagged, nothing, read_byte, read_with_text, argument_count, home_number}
use Rattle.ac_decode_pieces.specs.ExactReading.{passing, exact_two, exact_four, exact_eight, exact_truth, exact_lower, exact_text, exact_width, exact_long_count}

-- the number of an exception and of a primitive, and a home
abbrev pub is_exn : ℕ → Bool
is_exn k = nat_le k resolve_failure

unfoldable pub exact_exn : ReadsPart ℕ
exact_exn = passing is_exn read_byte

abbrev pub names_primitive : ℕ → Bool
names_primitive k = takes primitives k (argument_count primitives k)

unfoldable pub exact_primitive : ReadsPart ℕ
exact_primitive = passing names_primitive read_byte

unfoldable pub exact_home : ReadsPart Home
exact_home = one home_number exact_two

-- an exception, whose number says whether something follows
abbrev pub exact_with_text : {A B : Type 0} → (ℕ → A) → (ℕ → B → A) → ReadsPart B → ReadsPart A
exact_with_text bare of f = then_read exact_exn (λ k. read_with_text (has_text k) (bare k) (one (of k) f))

abbrev pub an_arm : Pattern × Expr → Arms → Arms
an_arm a rest = arm a.0 a.1 rest

-- of a tuple, of a sequence and of a list
abbrev pub several : ℕ → Bool
several n = nat_le 2 n

unfoldable pub exact_several : ReadsPart ℕ
exact_several = passing several exact_four

-- of a match or a try
abbrev pub exact_cases : ReadsPart Pattern → ReadsPart Expr → ReadsPart Arms
exact_cases p f = then_read (exact_long_count 1 most_arms) (times no_arms an_arm (pair p f))

abbrev pub exact_value_table : ReadsPart Expr → ReadsPart PValue → List (ReadsPart PValue)
exact_value_table f g =
    nothing ∷ one KInt exact_eight ∷ one KBool exact_truth ∷ one KStr (exact_text longest_string) ∷ give KUnit ∷
    exact_with_text (λ k. KExn k None) (λ k s. KExn k (Some s)) (exact_text longest_string) ∷
    one KTuple (then_read exact_width (times no_pvalues pvalue g)) ∷ one KList (then_read exact_four (times no_pvalues pvalue g)) ∷
    give KAbsent ∷ one KPresent g ∷ two_parts_read KFun exact_home (passing is_lambda f) ∷ []

module _ (read_type : Bool → ReadsPart Typ) where
  abbrev pub exact_pattern_table : ReadsPart Pattern → List (ReadsPart Pattern)
  exact_pattern_table f =
      nothing ∷ give PWild ∷ one PVar (read_type false) ∷ one PInt exact_eight ∷ one PBool exact_truth ∷ one PStr (exact_text longest_string) ∷ give PUnit ∷
      one PTuple (then_read exact_width (times no_patterns pattern' f)) ∷ give PNil ∷ two_parts_read PCons f f ∷ give PAbsent ∷ one PPresent f ∷
      exact_with_text PExn PExnOf f ∷ []

  -- a pattern of at most that nesting
  unfoldable pub exact_pattern : ℕ → ReadsPart Pattern
  exact_pattern zero bs = None
  exact_pattern (suc k) bs = tagged (exact_pattern_table (exact_pattern k)) bs

  -- a captured value stands only within a function of a packed value
  abbrev pub exact_captured : Bool → ReadsPart PValue → ReadsPart Expr
  exact_captured true g = two_parts_read Val (read_type false) g
  exact_captured false g = nothing

  abbrev pub exact_term_table : Bool → ReadsPart Pattern → ReadsPart Expr → ReadsPart PValue → List (ReadsPart Expr)
  exact_term_table within p f g =
      nothing ∷ one Int exact_eight ∷ one Boolean exact_truth ∷ one Str (exact_text longest_string) ∷ give Unit' ∷
      exact_with_text Exn ExnOf f ∷ one Tuple (then_read exact_width (times no_exprs expr f)) ∷
      one Nil (read_type false) ∷ one Empty (read_type false) ∷ one Present f ∷ two_parts_read Cons f f ∷
      one Var exact_two ∷ one Own exact_two ∷ two_parts_read Ref exact_two exact_lower ∷
      two_parts_read Lam (read_type false) f ∷ three Rec (read_type false) (read_type false) f ∷ two_parts_read App f f ∷
      three Let (read_type false) f f ∷ three If f f f ∷ one Seq (then_read exact_several (times no_exprs expr f)) ∷
      two_parts_read Match f (exact_cases p f) ∷ two_parts_read Try f (exact_cases p f) ∷ two_parts_read Raise (read_type false) f ∷
      then_read exact_primitive (λ k. one (Prim k) (times no_exprs expr f (argument_count primitives k))) ∷
      three Marshal (read_type false) f f ∷ two_parts_read Unmarshal (read_type false) f ∷ exact_captured within g ∷ []

  -- terms and packed values of at most that nesting
  unfoldable mutual
    pub exact_term : Bool → ℕ → ReadsPart Expr
    exact_term within zero bs = None
    exact_term within (suc k) bs = tagged (exact_term_table within (exact_pattern k) (exact_term within k) (exact_value k)) bs

    pub exact_value : ℕ → ReadsPart PValue
    exact_value zero bs = None
    exact_value (suc k) bs = tagged (exact_value_table (exact_term true k) (exact_value k)) bs
