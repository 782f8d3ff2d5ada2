-- The reading of each form of packed values.
use Rattle.std.proofs.Common.{◌≡◌, ◌∙◌, ap, ℤ, Bool, List, map}
use Rattle.ac_types.specs.declared.text.Text.{Text}
use Rattle.ac_types.specs.declared.exceptions.Exn as code_exn
use Rattle.ac_types.specs.ReadNumbers.{exn_number, exn_text}
use Rattle.ac_terms.specs.declared.term.Home as code_home
use Rattle.ac_terms.specs.declared.term.Term.{Term}
use Rattle.ac_terms.specs.declared.term.PVal.{PVal}
use Rattle.ac_terms.specs.declared.term.PVal.TheVariants as value
use Rattle.ac_terms.specs.declared.term.Arm.{Arm}
use Rattle.ac_terms.specs.declared.term.PVal.TheOpen.{PVal-F}
use Rattle.ac_terms.specs.declared.term.PVal.TheFolds.{map-PVal, fold_out-PVal}
use Rattle.ac_terms.specs.declared.term.PVal.TheViews.{out-PVal}
use Rattle.ac_terms.specs.Terms.{Pattern, Expr, PValue, KInt, KBool, KStr, KUnit, KExn, KTuple, KList, KAbsent, KPresent, KFun, pvalues}
use Rattle.ac_terms.specs.Read.{home_of, expr_of, value_of, value_layer, expr_layer, arm_layer}
use Rattle.ac_terms.proofs.ReadLaws.{read_arm}

abbrev pub pval_layer : PVal-F PVal Term Arm → PValue
pval_layer x = value_layer (map-PVal PVal Term Arm PValue Expr (Pattern × Expr) value_of expr_of read_arm x)

pub value_out : (v : PVal) → value_of v ≡ pval_layer (out-PVal v)
unfolding expr_of value_of read_arm
value_out v = fold_out-PVal PValue Expr (Pattern × Expr) value_layer expr_layer arm_layer v

pub value_of-Int : (n : ℤ) → value_of (value.Int n) ≡ KInt n
value_of-Int n = value_out (value.Int n) ∙ ap pval_layer (value.outs-Int n)

pub value_of-Bool : (b : Bool) → value_of (value.Bool b) ≡ KBool b
value_of-Bool b = value_out (value.Bool b) ∙ ap pval_layer (value.outs-Bool b)

pub value_of-Str : (s : Text) → value_of (value.Str s) ≡ KStr s.0
value_of-Str s = value_out (value.Str s) ∙ ap pval_layer (value.outs-Str s)

pub value_of-Unit : value_of value.Unit ≡ KUnit
value_of-Unit = value_out value.Unit ∙ ap pval_layer value.outs-Unit

pub value_of-Exn : (x : code_exn.Exn) → value_of (value.Exn x) ≡ KExn (exn_number x) (exn_text x)
value_of-Exn x = value_out (value.Exn x) ∙ ap pval_layer (value.outs-Exn x)

pub value_of-Tuple : (vs : List PVal) → value_of (value.Tuple vs) ≡ KTuple (pvalues (map value_of vs))
value_of-Tuple vs = value_out (value.Tuple vs) ∙ ap pval_layer (value.outs-Tuple vs)

pub value_of-List : (vs : List PVal) → value_of (value.List vs) ≡ KList (pvalues (map value_of vs))
value_of-List vs = value_out (value.List vs) ∙ ap pval_layer (value.outs-List vs)

pub value_of-Absent : value_of value.Absent ≡ KAbsent
value_of-Absent = value_out value.Absent ∙ ap pval_layer value.outs-Absent

pub value_of-Present : (v : PVal) → value_of (value.Present v) ≡ KPresent (value_of v)
value_of-Present v = value_out (value.Present v) ∙ ap pval_layer (value.outs-Present v)

pub value_of-Fun : (h : code_home.Home) (e : Term) → value_of (value.Fun h e) ≡ KFun (home_of h) (expr_of e)
value_of-Fun h e = value_out (value.Fun h e) ∙ ap pval_layer (value.outs-Fun h e)

pub ruleset value_forms = (value_of-Int, value_of-Bool, value_of-Str, value_of-Unit, value_of-Exn, value_of-Tuple, value_of-List, value_of-Absent, value_of-Present, value_of-Fun)
