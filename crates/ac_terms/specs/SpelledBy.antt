-- The bytes of patterns, terms, packed values, signatures and definitions, whatever spells types and references.
use Rattle.std.specs.Prelude.{ℕ, [], ◌∷◌, ◌++◌, Option, Some, None}
use Rattle.ac_types.specs.Types.{Bytes, Typ}
use Rattle.ac_types.specs.Sigs.{Typed_name, Sig_type, Signature}
use Rattle.ac_terms.specs.Terms.{Pattern, PWild, PVar, PInt, PBool, PStr, PUnit, PTuple, PNil, PCons, PAbsent, PPresent, PExn, PExnOf, Patterns, no_patterns, pattern', Expr, Int, Boolean, Str, Unit', Exn, ExnOf, Tuple, Nil, Empty, Present, Cons, Var, Own, Ref, Lam, Rec, App, Let, If, Seq, Match, Try, Raise, Prim, Marshal, Unmarshal, Val, Evaluated, Bracket, Exprs, no_exprs, expr, Arms, no_arms, arm, PValue, KInt, KBool, KStr, KUnit, KExn, KTuple, KList, KAbsent, KPresent, KFun, PValues, no_pvalues, pvalue}
use Rattle.ac_terms.specs.Defs.{Field, Module, Import, Def, AModule, AnImport, AMark, Packet}
use Rattle.ac_terms.specs.Pieces.{one_written, two_written, four_written, eight_written, truth, word, str, listed, home_bytes, exn_bytes, pattern_count, term_count, arm_count, value_count, atom_bytes, constraint_bytes, resolve_bytes}
use Rattle.ac_terms.specs.Tags as tag

-- patterns, signatures and imports
module _ (type_bytes : Typ → Bytes) where
  abbrev mutual
    pub pattern_bytes : Pattern → Bytes
    pattern_bytes PWild = tag.pattern_wild ∷ []
    pattern_bytes (PVar T) = tag.pattern_var ∷ type_bytes T
    pattern_bytes (PInt n) = tag.pattern_int ∷ eight_written n
    pattern_bytes (PBool b) = tag.pattern_bool ∷ truth b
    pattern_bytes (PStr s) = tag.pattern_str ∷ str s
    pattern_bytes PUnit = tag.pattern_unit ∷ []
    pattern_bytes (PTuple ps) = tag.pattern_tuple ∷ one_written (pattern_count ps) ++ all_pattern_bytes ps
    pattern_bytes PNil = tag.pattern_nil ∷ []
    pattern_bytes (PCons p q) = tag.pattern_cons ∷ pattern_bytes p ++ pattern_bytes q
    pattern_bytes PAbsent = tag.pattern_absent ∷ []
    pattern_bytes (PPresent p) = tag.pattern_present ∷ pattern_bytes p
    pattern_bytes (PExn k) = tag.pattern_exn ∷ k ∷ []
    pattern_bytes (PExnOf k p) = tag.pattern_exn ∷ k ∷ pattern_bytes p

    pub all_pattern_bytes : Patterns → Bytes
    all_pattern_bytes no_patterns = []
    all_pattern_bytes (pattern' p ps) = pattern_bytes p ++ all_pattern_bytes ps

  abbrev pub manifest_bytes : Option Typ → Bytes
  manifest_bytes None = tag.sig_abstract ∷ []
  manifest_bytes (Some T) = tag.sig_manifest ∷ type_bytes T

  abbrev pub sig_type_bytes : Sig_type → Bytes
  sig_type_bytes s = word s.name ++ manifest_bytes s.manifest

  abbrev pub typed_bytes : Typed_name → Bytes
  typed_bytes x = word x.name ++ type_bytes x.ty

  abbrev pub sig_bytes : Signature → Bytes
  sig_bytes s = listed two_written sig_type_bytes s.types ++ listed two_written typed_bytes s.vals

  -- an import without its resolvespec
  abbrev pub import_bytes : Import → Bytes
  import_bytes i = tag.def_import ∷ word i.name ++ sig_bytes i.sig ++ constraint_bytes i.constraint ++ listed two_written typed_bytes i.like

-- terms, packed values and modules, where a reference is spelled by `ref`; a term of the reduction alone has no spelling
module _ (type_bytes : Typ → Bytes) (ref : ℕ → Bytes) where
  abbrev mutual
    pub term_bytes : Expr → Bytes
    term_bytes (Int n) = tag.term_int ∷ eight_written n
    term_bytes (Boolean b) = tag.term_bool ∷ truth b
    term_bytes (Str s) = tag.term_str ∷ str s
    term_bytes Unit' = tag.term_unit ∷ []
    term_bytes (Exn k) = tag.term_exn ∷ k ∷ []
    term_bytes (ExnOf k e) = tag.term_exn ∷ k ∷ term_bytes e
    term_bytes (Tuple es) = tag.term_tuple ∷ one_written (term_count es) ++ all_term_bytes es
    term_bytes (Nil T) = tag.term_nil ∷ type_bytes T
    term_bytes (Empty T) = tag.term_empty ∷ type_bytes T
    term_bytes (Present e) = tag.term_present ∷ term_bytes e
    term_bytes (Cons a b) = tag.term_cons ∷ term_bytes a ++ term_bytes b
    term_bytes (Var i) = tag.term_var ∷ two_written i
    term_bytes (Own f) = tag.term_own ∷ two_written f
    term_bytes (Ref j x) = tag.term_ref ∷ ref j ++ word x
    term_bytes (Lam T e) = tag.term_lam ∷ type_bytes T ++ term_bytes e
    term_bytes (Rec T U e) = tag.term_rec ∷ type_bytes T ++ type_bytes U ++ term_bytes e
    term_bytes (App f a) = tag.term_app ∷ term_bytes f ++ term_bytes a
    term_bytes (Let T e b) = tag.term_let ∷ type_bytes T ++ term_bytes e ++ term_bytes b
    term_bytes (If c a b) = tag.term_if ∷ term_bytes c ++ term_bytes a ++ term_bytes b
    term_bytes (Seq es) = tag.term_seq ∷ four_written (term_count es) ++ all_term_bytes es
    term_bytes (Match e arms) = tag.term_match ∷ term_bytes e ++ two_written (arm_count arms) ++ arm_bytes arms
    term_bytes (Try e arms) = tag.term_try ∷ term_bytes e ++ two_written (arm_count arms) ++ arm_bytes arms
    term_bytes (Raise T e) = tag.term_raise ∷ type_bytes T ++ term_bytes e
    term_bytes (Prim k es) = tag.term_prim ∷ k ∷ all_term_bytes es
    term_bytes (Marshal T m e) = tag.term_marshal ∷ type_bytes T ++ term_bytes m ++ term_bytes e
    term_bytes (Unmarshal T e) = tag.term_unmarshal ∷ type_bytes T ++ term_bytes e
    term_bytes (Val T v) = tag.term_val ∷ type_bytes T ++ value_bytes v
    term_bytes (Evaluated T v) = []
    term_bytes (Bracket c T e) = []

    pub all_term_bytes : Exprs → Bytes
    all_term_bytes no_exprs = []
    all_term_bytes (expr e es) = term_bytes e ++ all_term_bytes es

    pub arm_bytes : Arms → Bytes
    arm_bytes no_arms = []
    arm_bytes (arm p e rest) = pattern_bytes type_bytes p ++ term_bytes e ++ arm_bytes rest

    pub value_bytes : PValue → Bytes
    value_bytes (KInt n) = tag.value_int ∷ eight_written n
    value_bytes (KBool b) = tag.value_bool ∷ truth b
    value_bytes (KStr s) = tag.value_str ∷ str s
    value_bytes KUnit = tag.value_unit ∷ []
    value_bytes (KExn k s) = tag.value_exn ∷ exn_bytes k s
    value_bytes (KTuple vs) = tag.value_tuple ∷ one_written (value_count vs) ++ all_value_bytes vs
    value_bytes (KList vs) = tag.value_list ∷ four_written (value_count vs) ++ all_value_bytes vs
    value_bytes KAbsent = tag.value_absent ∷ []
    value_bytes (KPresent v) = tag.value_present ∷ value_bytes v
    value_bytes (KFun h l) = tag.value_fun ∷ home_bytes h ++ term_bytes l

    pub all_value_bytes : PValues → Bytes
    all_value_bytes no_pvalues = []
    all_value_bytes (pvalue v vs) = value_bytes v ++ all_value_bytes vs

  abbrev pub field_bytes : Field → Bytes
  field_bytes f = word f.name ++ type_bytes f.ty ++ term_bytes f.term

  abbrev pub module_bytes : Module → Bytes
  module_bytes m =
      tag.def_module ∷ word m.name ++ listed one_written atom_bytes m.version ++ sig_bytes type_bytes m.sig ++ listed two_written (typed_bytes type_bytes) m.types ++ listed two_written field_bytes m.fields

-- the definitions, the type and the value of a packet; in a packet a reference is the number of its definition
module _ (type_bytes : Typ → Bytes) where
  abbrev pub def_bytes : Def → Bytes
  def_bytes (AModule m) = module_bytes type_bytes two_written m
  def_bytes (AnImport i) = import_bytes type_bytes i ++ listed one_written resolve_bytes i.by
  def_bytes (AMark t) = []

  abbrev pub body_bytes : Packet → Bytes
  body_bytes p = listed two_written def_bytes p.defs ++ type_bytes p.ty ++ value_bytes type_bytes two_written p.value
