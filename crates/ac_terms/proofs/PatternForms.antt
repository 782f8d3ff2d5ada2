-- The reading of each form of patterns.
use Rattle.std.proofs.Common.{◌≡◌, ◌∙◌, ap, ℤ, Bool, List, map}
use Rattle.ac_types.specs.ReadTypes.{typ_of}
use Rattle.ac_types.specs.ReadNumbers.{bare_number, texted_number}
use Rattle.ac_types.specs.declared.exceptions.BareExn.{BareExn}
use Rattle.ac_types.specs.declared.exceptions.TextExn.{TextExn}
use Rattle.ac_types.specs.declared.text.Text.{Text}
use Rattle.ac_types.specs.declared.ty.Ty.{Ty}
use Rattle.ac_terms.specs.declared.pat.Pat.{Pat, out-Pat, map-Pat, fold_out-Pat}
use Rattle.ac_terms.specs.declared.pat.Pat.TheVariants as pat
use Rattle.ac_terms.specs.declared.pat.Pat.TheOpen.{Pat-F}
use Rattle.ac_terms.specs.Terms.{Pattern, PWild, PVar, PInt, PBool, PStr, PUnit, PTuple, PNil, PCons, PAbsent, PPresent, PExn, PExnOf, patterns}
use Rattle.ac_terms.specs.Read.{pattern_of, pattern_layer}

abbrev pat_layer : Pat-F Pat → Pattern
pat_layer x = pattern_layer (map-Pat Pat Pattern pattern_of x)

pub pattern_out : (p : Pat) → pattern_of p ≡ pattern_layer (map-Pat Pat Pattern pattern_of (out-Pat p))
unfolding pattern_of
pattern_out p = fold_out-Pat Pattern pattern_layer p

pub pattern_of-Wild : pattern_of pat.Wild ≡ PWild
pattern_of-Wild = pattern_out pat.Wild ∙ ap pat_layer pat.outs-Wild

pub pattern_of-Var : (t : Ty) → pattern_of (pat.Var t) ≡ PVar (typ_of t)
pattern_of-Var t = pattern_out (pat.Var t) ∙ ap pat_layer (pat.outs-Var t)

pub pattern_of-Int : (n : ℤ) → pattern_of (pat.Int n) ≡ PInt n
pattern_of-Int n = pattern_out (pat.Int n) ∙ ap pat_layer (pat.outs-Int n)

pub pattern_of-Bool : (b : Bool) → pattern_of (pat.Bool b) ≡ PBool b
pattern_of-Bool b = pattern_out (pat.Bool b) ∙ ap pat_layer (pat.outs-Bool b)

pub pattern_of-Str : (s : Text) → pattern_of (pat.Str s) ≡ PStr s.0
pattern_of-Str s = pattern_out (pat.Str s) ∙ ap pat_layer (pat.outs-Str s)

pub pattern_of-Unit : pattern_of pat.Unit ≡ PUnit
pattern_of-Unit = pattern_out pat.Unit ∙ ap pat_layer pat.outs-Unit

pub pattern_of-Tuple : (ps : List Pat) → pattern_of (pat.Tuple ps) ≡ PTuple (patterns (map pattern_of ps))
pattern_of-Tuple ps = pattern_out (pat.Tuple ps) ∙ ap pat_layer (pat.outs-Tuple ps)

pub pattern_of-Nil : pattern_of pat.Nil ≡ PNil
pattern_of-Nil = pattern_out pat.Nil ∙ ap pat_layer pat.outs-Nil

pub pattern_of-Cons : (p q : Pat) → pattern_of (pat.Cons p q) ≡ PCons (pattern_of p) (pattern_of q)
pattern_of-Cons p q = pattern_out (pat.Cons p q) ∙ ap pat_layer (pat.outs-Cons p q)

pub pattern_of-Absent : pattern_of pat.Absent ≡ PAbsent
pattern_of-Absent = pattern_out pat.Absent ∙ ap pat_layer pat.outs-Absent

pub pattern_of-Present : (p : Pat) → pattern_of (pat.Present p) ≡ PPresent (pattern_of p)
pattern_of-Present p = pattern_out (pat.Present p) ∙ ap pat_layer (pat.outs-Present p)

pub pattern_of-Exn : (x : BareExn) → pattern_of (pat.Exn x) ≡ PExn (bare_number x)
pattern_of-Exn x = pattern_out (pat.Exn x) ∙ ap pat_layer (pat.outs-Exn x)

pub pattern_of-ExnOf : (x : TextExn) (p : Pat) → pattern_of (pat.ExnOf x p) ≡ PExnOf (texted_number x) (pattern_of p)
pattern_of-ExnOf x p = pattern_out (pat.ExnOf x p) ∙ ap pat_layer (pat.outs-ExnOf x p)

pub ruleset pattern_forms = (pattern_of-Wild, pattern_of-Var, pattern_of-Int, pattern_of-Bool, pattern_of-Str, pattern_of-Unit, pattern_of-Tuple, pattern_of-Nil, pattern_of-Cons, pattern_of-Absent, pattern_of-Present, pattern_of-Exn, pattern_of-ExnOf)
