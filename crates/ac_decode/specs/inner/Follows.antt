-- What stands behind the head of a pattern, of a term and of a packed value.
use Rattle.ac_types.specs.ReadNumbers.{primitive_number, texted_number}
use Rattle.ac_types.specs.ReadTypes.{typ_of}
use Rattle.ac_terms.specs.Terms.{Pattern, PTuple, PCons, PPresent, PExnOf, no_patterns, pattern', Expr, ExnOf, Tuple, Present, Cons, Lam, Rec, App, Let, If, Seq, Match, Try, Raise, Prim, Marshal, Unmarshal, Val, Exprs, no_exprs, expr, Arms, PValue, KTuple, KList, KPresent, KFun, no_pvalues, pvalue}
use Rattle.ac_terms.specs.Read.{pattern_of, expr_of, value_of, home_of}
use Rattle.ac_terms.specs.Bounds.{is_lambda}
use Rattle.ac_terms.specs.PacketReading.{ReadsPart, give, one, two_parts_read, three, times}
use Rattle.ac_decode_pieces.specs.ExactReading.{passing}
use Rattle.ac_decode.specs.declared.heads.PatHead.{PatHead}
use Rattle.ac_decode.specs.declared.heads.PatHead.TheVariants as pat
use Rattle.ac_decode.specs.declared.heads.Wrapper.{Wrapper}
use Rattle.ac_decode.specs.declared.heads.Wrapper.TheVariants as around
use Rattle.ac_decode.specs.declared.heads.Joint.{Joint}
use Rattle.ac_decode.specs.declared.heads.Joint.TheVariants as joint
use Rattle.ac_decode.specs.declared.heads.Row.{Row}
use Rattle.ac_decode.specs.declared.heads.Row.TheVariants as row
use Rattle.ac_decode.specs.declared.heads.Cases.{Cases}
use Rattle.ac_decode.specs.declared.heads.Cases.TheVariants as cases
use Rattle.ac_decode.specs.declared.heads.TermHead.{TermHead}
use Rattle.ac_decode.specs.declared.heads.TermHead.TheVariants as head
use Rattle.ac_decode.specs.declared.heads.ValueHead.{ValueHead}
use Rattle.ac_decode.specs.declared.heads.ValueHead.TheVariants as value
use Rattle.ac_decode.specs.inner.ExactTerms.{exact_cases}

abbrev pub pattern_follows : ReadsPart Pattern → PatHead → ReadsPart Pattern
pattern_follows f (pat.Leaf p) = give (pattern_of p)
pattern_follows f (pat.Tuple n) = one PTuple (times no_patterns pattern' f n)
pattern_follows f pat.Cons = two_parts_read PCons f f
pattern_follows f pat.Present = one PPresent f
pattern_follows f (pat.Exn x) = one (PExnOf (texted_number x)) f

-- a term around one, of two, and of several
abbrev pub put_around : Wrapper → Expr → Expr
put_around (around.Exn x) = ExnOf (texted_number x)
put_around around.Present = Present
put_around (around.Lam ty) = Lam (typ_of ty)
put_around (around.Rec from to) = Rec (typ_of from) (typ_of to)
put_around (around.Raise ty) = Raise (typ_of ty)
put_around (around.Unmarshal ty) = Unmarshal (typ_of ty)

abbrev pub put_joint : Joint → Expr → Expr → Expr
put_joint joint.Cons = Cons
put_joint joint.App = App
put_joint (joint.Let ty) = Let (typ_of ty)
put_joint (joint.Marshal ty) = Marshal (typ_of ty)

abbrev pub put_row : Row → Exprs → Expr
put_row row.Tuple = Tuple
put_row row.Seq = Seq
put_row (row.Prim p) = Prim (primitive_number p)

abbrev pub put_cases : Cases → Expr → Arms → Expr
put_cases cases.Match = Match
put_cases cases.Try = Try

abbrev pub term_follows : ReadsPart Pattern → ReadsPart Expr → ReadsPart PValue → TermHead → ReadsPart Expr
term_follows p f g (head.Leaf t) = give (expr_of t)
term_follows p f g (head.Around a) = one (put_around a) f
term_follows p f g (head.Joint j) = two_parts_read (put_joint j) f f
term_follows p f g head.Choice = three If f f f
term_follows p f g (head.Row r n) = one (put_row r) (times no_exprs expr f n)
term_follows p f g (head.Cases c) = two_parts_read (put_cases c) f (exact_cases p f)
term_follows p f g (head.Captured ty) = one (Val (typ_of ty)) g

abbrev pub value_follows : ReadsPart Expr → ReadsPart PValue → ValueHead → ReadsPart PValue
value_follows f g (value.Leaf v) = give (value_of v)
value_follows f g (value.Tuple n) = one KTuple (times no_pvalues pvalue g n)
value_follows f g (value.List n) = one KList (times no_pvalues pvalue g n)
value_follows f g value.Present = one KPresent g
value_follows f g (value.Fun c) = one (KFun (home_of c)) (passing is_lambda f)
