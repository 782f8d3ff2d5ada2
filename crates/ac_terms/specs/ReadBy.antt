-- How patterns, terms, packed values and definitions are read, whatever reads types and references.
use Rattle.std.specs.Prelude.{ℕ, zero, suc, List, [], ◌∷◌, Option, Some, None}
use Rattle.ac_types.specs.Types.{Bytes, Typ}
use Rattle.ac_types.specs.Sigs.{Typed_name, Sig_type, Signature, Atom, Constraint, Resolve}
use Rattle.ac_terms.specs.Terms.{Pattern, PWild, PVar, PInt, PBool, PStr, PUnit, PTuple, PNil, PCons, PAbsent, PPresent, PExn, PExnOf, no_patterns, pattern', Expr, Int, Boolean, Str, Unit', Exn, ExnOf, Tuple, Nil, Empty, Present, Cons, Var, Own, Ref, Lam, Rec, App, Let, If, Seq, Match, Try, Raise, Prim, Marshal, Unmarshal, Val, no_exprs, expr, PValue, KInt, KBool, KStr, KUnit, KExn, KTuple, KList, KAbsent, KPresent, KFun, no_pvalues, pvalue}
use Rattle.ac_terms.specs.Defs.{Field, Def, AModule, AnImport}
use Rattle.ac_types.specs.Exceptions.{has_text}
use Rattle.ac_terms.specs.PrimitiveTypes.{primitives}
use Rattle.ac_terms.specs.Readers.{ReadsPart, give, one, then_read, two_parts_read, three, pair, times, read_list, tagged, nothing, read_byte, read_two, read_four, read_eight, read_truth, read_word, read_str, read_with_text, read_home, argument_count, many_arms, read_atom, read_constraint, read_resolve}

abbrev pub a_sig_type : Bytes → Option Typ → Sig_type
a_sig_type n m = record { name = n; manifest = m }

abbrev pub a_typed : Bytes → Typ → Typed_name
a_typed n T = record { name = n; ty = T }

abbrev pub a_signature : List Sig_type → List Typed_name → Signature
a_signature ts vs = record { types = ts; vals = vs }

abbrev pub a_field : Bytes → Typ → Expr → Field
a_field n T e = record { name = n; ty = T; term = e }

-- definitions
abbrev pub a_module : (((Bytes × List Atom) × Signature) × List Typed_name) × List Field → Def
a_module p = AModule (record { name = p.0.0.0.0; version = p.0.0.0.1; sig = p.0.0.1; types = p.0.1; fields = p.1 })

abbrev pub an_import : (((Bytes × Signature) × Constraint) × List Typed_name) × List Resolve → Def
an_import p = AnImport (record { name = p.0.0.0.0; sig = p.0.0.0.1; constraint = p.0.0.1; like = p.0.1; by = p.1 })

-- patterns of at most that nesting, signatures and imports
module _ (read_type : ReadsPart Typ) where
  abbrev pub pattern_table : ReadsPart Pattern → List (ReadsPart Pattern)
  pattern_table f =
      nothing ∷ give PWild ∷ one PVar read_type ∷ one PInt read_eight ∷ one PBool read_truth ∷ one PStr read_str ∷ give PUnit ∷
      one PTuple (then_read read_byte (times no_patterns pattern' f)) ∷ give PNil ∷ two_parts_read PCons f f ∷ give PAbsent ∷ one PPresent f ∷
      then_read read_byte (λ k. read_with_text (has_text k) (PExn k) (one (PExnOf k) f)) ∷ []

  abbrev pub read_pattern : ℕ → ReadsPart Pattern
  read_pattern zero bs = None
  read_pattern (suc k) bs = tagged (pattern_table (read_pattern k)) bs

  abbrev pub read_manifest : ReadsPart (Option Typ)
  read_manifest bs = tagged (give None ∷ one Some read_type ∷ []) bs

  abbrev pub read_sig_type : ReadsPart Sig_type
  read_sig_type = two_parts_read a_sig_type read_word read_manifest

  abbrev pub read_typed : ReadsPart Typed_name
  read_typed = two_parts_read a_typed read_word read_type

  abbrev pub read_sig : ReadsPart Signature
  read_sig = two_parts_read a_signature (read_list read_two read_sig_type) (read_list read_two read_typed)

  abbrev pub read_import : ReadsPart Def
  read_import =
      one an_import (pair (pair (pair (pair read_word read_sig) read_constraint) (read_list read_two read_typed)) (read_list read_byte read_resolve))

-- terms and packed values of at most that nesting, and definitions whose fields nest at most so far
module _ (read_type : ReadsPart Typ) (read_ref : ReadsPart ℕ) where
  abbrev pub term_table : ReadsPart Pattern → ReadsPart Expr → ReadsPart PValue → List (ReadsPart Expr)
  term_table p f g =
      nothing ∷ one Int read_eight ∷ one Boolean read_truth ∷ one Str read_str ∷ give Unit' ∷
      then_read read_byte (λ k. read_with_text (has_text k) (Exn k) (one (ExnOf k) f)) ∷
      one Tuple (then_read read_byte (times no_exprs expr f)) ∷ one Nil read_type ∷ one Empty read_type ∷ one Present f ∷ two_parts_read Cons f f ∷
      one Var read_two ∷ one Own read_two ∷ two_parts_read Ref read_ref read_word ∷
      two_parts_read Lam read_type f ∷ three Rec read_type read_type f ∷ two_parts_read App f f ∷ three Let read_type f f ∷ three If f f f ∷
      one Seq (then_read read_four (times no_exprs expr f)) ∷ two_parts_read Match f (then_read read_two (many_arms p f)) ∷ two_parts_read Try f (then_read read_two (many_arms p f)) ∷
      two_parts_read Raise read_type f ∷ then_read read_byte (λ k. one (Prim k) (times no_exprs expr f (argument_count primitives k))) ∷
      three Marshal read_type f f ∷ two_parts_read Unmarshal read_type f ∷ two_parts_read Val read_type g ∷ []

  abbrev pub value_table : ReadsPart Expr → ReadsPart PValue → List (ReadsPart PValue)
  value_table f g =
      nothing ∷ one KInt read_eight ∷ one KBool read_truth ∷ one KStr read_str ∷ give KUnit ∷
      then_read read_byte (λ k. read_with_text (has_text k) (KExn k None) (one (λ s. KExn k (Some s)) read_str)) ∷
      one KTuple (then_read read_byte (times no_pvalues pvalue g)) ∷ one KList (then_read read_four (times no_pvalues pvalue g)) ∷
      give KAbsent ∷ one KPresent g ∷ two_parts_read KFun read_home f ∷ []

  abbrev mutual
    pub read_term : ℕ → ReadsPart Expr
    read_term zero bs = None
    read_term (suc k) bs = tagged (term_table (read_pattern read_type k) (read_term k) (read_value k)) bs

    pub read_value : ℕ → ReadsPart PValue
    read_value zero bs = None
    read_value (suc k) bs = tagged (value_table (read_term k) (read_value k)) bs

  abbrev pub read_field : ℕ → ReadsPart Field
  read_field k = three a_field read_word read_type (read_term k)

  abbrev pub read_module : ℕ → ReadsPart Def
  read_module k =
      one a_module (pair (pair (pair (pair read_word (read_list read_byte read_atom)) (read_sig read_type)) (read_list read_two (read_typed read_type))) (read_list read_two (read_field k)))

  abbrev pub read_def : ℕ → ReadsPart Def
  read_def k bs = tagged (nothing ∷ read_module k ∷ read_import read_type ∷ []) bs
