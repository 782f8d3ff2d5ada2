-- The equations of the reading of terms: one for all layers, and one for each form that holds a list.
use Rattle.std.proofs.Common.{◌≡◌, ◌∙◌, ap, List, map}
use Rattle.ac_types.specs.ReadNumbers.{primitive_number}
use Rattle.ac_types.specs.declared.primitives.Primitive.{Primitive}
use Rattle.ac_terms.specs.declared.term.Term.{Term, Tuple, Seq, Prim}
use Rattle.ac_terms.specs.declared.term.PVal.{PVal}
use Rattle.ac_terms.specs.declared.term.Arm.{Arm}
use Rattle.ac_terms.specs.declared.term.PVal.TheOpen.{Term-F}
use Rattle.ac_terms.specs.declared.term.PVal.TheFolds.{map-Term, fold_out-Term, fold-Arm}
use Rattle.ac_terms.specs.declared.term.PVal.TheViews.{out-Term, the_lemmas}
use Rattle.ac_terms.specs.declared.term.Term.TheVariants as term
use Rattle.ac_terms.specs.Terms.{Expr, PValue, Pattern, Tuple as TupleOf, Seq as SeqOf, Prim as PrimOf, exprs}
use Rattle.ac_terms.specs.Read.{expr_of, value_of, value_layer, expr_layer, arm_layer}

-- an arm, read
unfoldable pub read_arm : Arm → Pattern × Expr
read_arm = fold-Arm PValue Expr (Pattern × Expr) value_layer expr_layer arm_layer

-- the parts of one layer, read
abbrev pub read_parts : Term-F PVal Term Arm → Term-F PValue Expr (Pattern × Expr)
read_parts = map-Term PVal Term Arm PValue Expr (Pattern × Expr) value_of expr_of read_arm

pub expr_out : (t : Term) → expr_of t ≡ expr_layer (read_parts (out-Term t))
unfolding expr_of value_of read_arm
expr_out t = fold_out-Term PValue Expr (Pattern × Expr) value_layer expr_layer arm_layer t

pub expr_of-Tuple : (ts : List Term) → expr_of (Tuple ts) ≡ TupleOf (exprs (map expr_of ts))
expr_of-Tuple ts = expr_out (Tuple ts) ∙ ap (λ x. expr_layer (read_parts x)) (term.outs-Tuple ts)

pub expr_of-Seq : (ts : List Term) → expr_of (Seq ts) ≡ SeqOf (exprs (map expr_of ts))
expr_of-Seq ts = expr_out (Seq ts) ∙ ap (λ x. expr_layer (read_parts x)) (term.outs-Seq ts)

pub expr_of-Prim : (p : Primitive) (ts : List Term) → expr_of (Prim p ts) ≡ PrimOf (primitive_number p) (exprs (map expr_of ts))
expr_of-Prim p ts = expr_out (Prim p ts) ∙ ap (λ x. expr_layer (read_parts x)) (term.outs-Prim p ts)

pub ruleset term_laws = (expr_out, expr_of-Tuple, expr_of-Seq, expr_of-Prim, the_lemmas)
