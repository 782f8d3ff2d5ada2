-- What the reading of packed values rests on, and a function whose parts are known by equations.
use Rattle.std.proofs.Common.{◌≡◌, ◌∙◌, sym, ap}
use Rattle.ac_terms.specs.declared.term.Home as code_home
use Rattle.ac_terms.specs.declared.term.Term.{Term}
use Rattle.ac_terms.specs.declared.term.PVal.{PVal}
use Rattle.ac_terms.specs.declared.term.PVal.TheVariants as value
use Rattle.ac_terms.specs.declared.term.PVal.TheViews.{the_lemmas}
use Rattle.ac_terms.specs.Terms.{KFun}
use Rattle.ac_terms.specs.Read.{home_of, expr_of, value_of}
use Rattle.ac_terms.proofs.ExceptionLaws.{exception_laws}
use Rattle.ac_terms.proofs.ValueForms.{value_out, value_of-Tuple, value_of-List, value_of-Fun}

pub fun_form : (v : PVal) (h : code_home.Home) (l x : Term) → v ≡ value.Fun h l → x ≡ l → value_of v ≡ KFun (home_of h) (expr_of x)
fun_form v h l x e p = ap value_of e ∙ value_of-Fun h l ∙ ap (λ (u : Term). KFun (home_of h) (expr_of u)) (sym p)

pub ruleset value_laws = (value_out, value_of-Tuple, value_of-List, the_lemmas, exception_laws)
