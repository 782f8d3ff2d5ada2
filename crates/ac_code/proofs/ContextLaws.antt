-- The equations of the reading of contexts.
use Rattle.std.proofs.Common.{◌≡◌, ◌∙◌, refl, ap, List, [], ◌∷◌, ◌++◌, length, map, arith}
use Rattle.ac_types.specs.Types.{Typ}
use Rattle.ac_types.specs.ReadTypes.{typ_of}
use Rattle.ac_types.specs.declared.ty.Ty.{Ty}
use Rattle.ac_code.specs.declared.context.Context.{Context}
use Rattle.ac_code.specs.declared.context.Bound.{Bound}
use Rattle.ac_code.specs.declared.context.Context.TheOpen.{Context-F, Bound-F}
use Rattle.ac_code.specs.declared.context.Context.TheFolds.{map-Context, map-Bound, fold_out-Context, fold_out-Bound}
use Rattle.ac_code.specs.declared.context.Context.TheViews.{out-Context, out-Bound, the_lemmas}
use Rattle.ac_code.specs.declared.context.Context.TheVariants as context
use Rattle.ac_code.specs.Contexts.{context_of, bound_of, context_layer, bound_layer}

-- one layer, read
abbrev pub read_context : Context-F Context Bound → Context-F (List Typ) (List Typ)
read_context = map-Context Context Bound (List Typ) (List Typ) context_of bound_of

abbrev pub read_bound : Bound-F Context Bound → Bound-F (List Typ) (List Typ)
read_bound = map-Bound Context Bound (List Typ) (List Typ) context_of bound_of

pub context_out : (c : Context) → context_of c ≡ context_layer (read_context (out-Context c))
unfolding context_of bound_of
context_out c = fold_out-Context (List Typ) (List Typ) context_layer bound_layer c

pub bound_out : (b : Bound) → bound_of b ≡ bound_layer (read_bound (out-Bound b))
unfolding context_of bound_of
bound_out b = fold_out-Bound (List Typ) (List Typ) context_layer bound_layer b

pub context_of-Empty : context_of context.Empty ≡ []
context_of-Empty = context_out context.Empty ∙ ap (λ x. context_layer (read_context x)) context.outs-Empty

-- no types in front of others
pub no_types : (ts : List Ty) (Ts : List Typ) → length ts ≡ 0 → map typ_of ts ++ Ts ≡ Ts
no_types [] Ts e = refl
no_types (t ∷ ts) Ts e = absurd (omega arith)

pub ruleset context_laws = (context_out, bound_out, no_types, the_lemmas)
