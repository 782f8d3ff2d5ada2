-- The values that are rebuilt of packed values, computed: each kind of value, functions, and abstract types.
use Rattle.std.proofs.Common.{◌≡◌, refl}
use Rattle.std.specs.Prelude.{pos, true, [], ◌∷◌, ◌++◌, None, Some, codes}
use Rattle.ac_types.specs.Exceptions as exceptions
use Rattle.ac_types.specs.Types.{Typ, TInt, TBool, TStr, TUnit, TExn, TTuple, TList, TOpt, TFun, TAbs, typs}
use Rattle.ac_types.specs.Sigs.{MyName, Exact, HereAlready}
use Rattle.ac_terms.specs.Terms.{Home, Main, In, Var, Lam, Rec, App, Val, Evaluated, KInt, KBool, KStr, KUnit, KExn, KTuple, KList, KAbsent, KPresent, KFun, no_pvalues, pvalue, VInt, VBool, VStr, VUnit, VExn, VTuple, VNil, VCons, VAbsent, VPresent, VLam, VRec, VProxy, VSeal, no_values, value}
use Rattle.ac_terms.specs.Defs.{Environment, AModule, AnImport, Own'}
use Rattle.ac_rules.specs.Views.{Mode, Plain, Coloured}
use Rattle.ac_rules.proofs.Samples.{t, c_name, c_t, abstract_sig, one_entry}
use Rattle.ac_meaning.specs.Rebuilding.{rebuilt}

-- constants, tuples, lists and options, in each mode and home
module _ (mode : Mode) (c : Home) where
  pub an_integer : rebuilt mode [] c TInt (KInt (pos 5)) ≡ VInt (pos 5)
  an_integer = refl

  pub a_truth_value : rebuilt mode [] c TBool (KBool true) ≡ VBool true
  a_truth_value = refl

  pub a_string : rebuilt mode [] c TStr (KStr (codes "a")) ≡ VStr (codes "a")
  a_string = refl

  pub a_unit : rebuilt mode [] c TUnit KUnit ≡ VUnit
  a_unit = refl

  pub a_pair : rebuilt mode [] c (TTuple (typs (TInt ∷ TStr ∷ []))) (KTuple (pvalue (KInt (pos 5)) (pvalue (KStr (codes "a")) no_pvalues))) ≡ VTuple (value (VInt (pos 5)) (value (VStr (codes "a")) no_values))
  a_pair = refl

  -- the end of a list and a missing option have the type
  pub a_list : rebuilt mode [] c (TList TInt) (KList (pvalue (KInt (pos 5)) (pvalue (KInt (pos 6)) no_pvalues))) ≡ VCons (VInt (pos 5)) (VCons (VInt (pos 6)) (VNil (TList TInt)))
  a_list = refl

  pub no_items : rebuilt mode [] c (TList TInt) (KList no_pvalues) ≡ VNil (TList TInt)
  no_items = refl

  pub an_option : rebuilt mode [] c (TOpt TInt) (KPresent (KInt (pos 5))) ≡ VPresent (VInt (pos 5))
  an_option = refl

  pub a_missing_option : rebuilt mode [] c (TOpt TInt) KAbsent ≡ VAbsent (TOpt TInt)
  a_missing_option = refl

  -- an exception without and with a text
  pub an_exception : rebuilt mode [] c TExn (KExn exceptions.invalid_argument None) ≡ VExn exceptions.invalid_argument None
  an_exception = refl

  pub an_exception_with_text : rebuilt mode [] c TExn (KExn exceptions.marshal_failure (Some (codes "mark"))) ≡ VExn exceptions.marshal_failure (Some (codes "mark"))
  an_exception_with_text = refl

  -- a function is a proxy of its home, at the type of its position; what is captured is a value at its variable's type
  pub a_function : rebuilt mode [] c (TFun TInt TInt) (KFun Main (Lam TInt (Var 0))) ≡ VProxy Main TInt TInt (VLam TInt (Var 0))
  a_function = refl

  pub a_recursive_function : rebuilt mode [] c (TFun TInt TInt) (KFun Main (Rec TInt TInt (App (Var 1) (Var 0)))) ≡ VProxy Main TInt TInt (VRec TInt TInt (App (Var 1) (Var 0)))
  a_recursive_function = refl

  pub a_captured_value : rebuilt mode [] c (TFun TUnit TInt) (KFun Main (Lam TUnit (Val TInt (KInt (pos 2))))) ≡ VProxy Main TUnit TInt (VLam TUnit (Evaluated TInt (VInt (pos 2))))
  a_captured_value = refl

  pub a_captured_function :
      rebuilt mode [] c (TFun TUnit TInt) (KFun Main (Lam TUnit (App (Val (TFun TInt TInt) (KFun Main (Lam TInt (Var 0)))) (Val TInt (KInt (pos 2)))))) ≡
      VProxy Main TUnit TInt (VLam TUnit (App (Evaluated (TFun TInt TInt) (VProxy Main TInt TInt (VLam TInt (Var 0)))) (Evaluated TInt (VInt (pos 2)))))
  a_captured_function = refl

-- an abstract value is sealed where the home doesn't open its name, stands as it is where it does, and in Plain mode nowhere has a seal
pub sealed_in_main : rebuilt Coloured one_entry Main c_t (KInt (pos 5)) ≡ VSeal (In 0) c_name t (VInt (pos 5))
sealed_in_main = refl

pub open_at_home : rebuilt Coloured one_entry (In 0) c_t (KInt (pos 5)) ≡ VInt (pos 5)
open_at_home = refl

pub no_seal_in_plain_mode : rebuilt Plain one_entry Main c_t (KInt (pos 5)) ≡ VInt (pos 5)
no_seal_in_plain_mode = refl

-- what a function captures is rebuilt in the function's home: sealed in one that doesn't open the name, not in one that does
pub captured_at_home :
    rebuilt Coloured one_entry Main (TList (TFun TInt c_t)) (KList (pvalue (KFun (In 0) (Lam TInt (Val c_t (KInt (pos 2))))) no_pvalues)) ≡
    VCons (VProxy (In 0) TInt c_t (VLam TInt (Evaluated c_t (VInt (pos 2))))) (VNil (TList (TFun TInt c_t)))
captured_at_home = refl

pub captured_in_main :
    rebuilt Coloured one_entry (In 0) (TFun TInt c_t) (KFun Main (Lam TInt (Val c_t (KInt (pos 2))))) ≡
    VProxy Main TInt c_t (VLam TInt (Evaluated c_t (VSeal (In 0) c_name t (VInt (pos 2)))))
captured_in_main = refl

-- with an import of C by its exact name behind it, a seal's home is the least entry of the name, and the import opens the name too
abbrev named_twice : Environment
named_twice = one_entry ++ record {
  def = AnImport (record { name = codes "C"; sig = abstract_sig; constraint = Exact c_name; like = []; by = HereAlready ∷ [] });
  name = Some c_name;
  seen = Own';
  link = Some 0;
} ∷ []

pub home_is_the_least : rebuilt Coloured named_twice Main c_t (KInt (pos 5)) ≡ VSeal (In 0) c_name t (VInt (pos 5))
home_is_the_least = refl

pub open_at_the_import : rebuilt Coloured named_twice (In 1) c_t (KInt (pos 5)) ≡ VInt (pos 5)
open_at_the_import = refl

-- an abstract type that stands for another module's: a seal inside a seal
abbrev d_t : Typ
d_t = TAbs (codes "d") t

abbrev over_c : Environment
over_c = one_entry ++ record {
  def = AModule (record {
    name = codes "D";
    version = MyName ∷ [];
    sig = record { types = record { name = t; manifest = None } ∷ []; vals = [] };
    types = record { name = t; ty = c_t } ∷ [];
    fields = [];
  });
  name = Some (codes "d");
  seen = Own';
  link = None;
} ∷ []

pub sealed_twice : rebuilt Coloured over_c Main d_t (KInt (pos 5)) ≡ VSeal (In 1) (codes "d") t (VSeal (In 0) c_name t (VInt (pos 5)))
sealed_twice = refl

pub sealed_once : rebuilt Coloured over_c (In 1) d_t (KInt (pos 5)) ≡ VSeal (In 0) c_name t (VInt (pos 5))
sealed_once = refl
