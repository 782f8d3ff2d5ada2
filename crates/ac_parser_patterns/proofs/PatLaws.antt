-- The equations of the reading of patterns.
use Rattle.std.proofs.Common.{◌≡◌, ◌∙◌, ap, ℕ, List, map, ℤ}
use Rattle.ac_types.specs.ReadNumbers.{texted_number}
use Rattle.ac_types.specs.declared.exceptions.TextExn.{TextExn}
use Rattle.ac_types.specs.declared.text.Text.{Text}
use Rattle.ac_syntax.specs.declared.surface.SPat.{SPat}
use Rattle.ac_syntax.specs.declared.surface.SPatKind.{SPatKind, Unit, Tuple, Int, Str, Nil, ExnOf}
use Rattle.ac_syntax.specs.declared.surface.SPatKind.TheOpen.{SPatKind-F, SPat-F}
use Rattle.ac_syntax.specs.declared.surface.SPatKind.TheFolds.{map-SPat, map-SPatKind, fold_out-SPat, fold_out-SPatKind, fold-roll-SPat}
use Rattle.ac_syntax.specs.declared.surface.SPatKind.TheViews.{out-SPat, out-SPatKind, roll-SPat, the_lemmas}
use Rattle.ac_syntax.specs.declared.surface.SPatKind.TheVariants as variants
use Rattle.ac_syntax.specs.Trees.{PatTree, PatTuple, PatInt, PatStr, PatNil, PatUnit, PatExnOf, pat_trees}
use Rattle.ac_syntax.specs.ReadTrees.{pat_of, pat_kind_of, pat_kind_layer, pat_layer}

-- one layer, read
abbrev pub read_pat : SPat-F SPatKind SPat → SPat-F (ℕ → PatTree) PatTree
read_pat = map-SPat SPatKind SPat (ℕ → PatTree) PatTree pat_kind_of pat_of

abbrev pub read_pat_kind : SPatKind-F SPatKind SPat → SPatKind-F (ℕ → PatTree) PatTree
read_pat_kind = map-SPatKind SPatKind SPat (ℕ → PatTree) PatTree pat_kind_of pat_of

pub pat_out : (p : SPat) → pat_of p ≡ pat_layer (read_pat (out-SPat p))
unfolding pat_of pat_kind_of
pat_out p = fold_out-SPat (ℕ → PatTree) PatTree pat_kind_layer pat_layer p

pub pat_kind_out : (k : SPatKind) → pat_kind_of k ≡ pat_kind_layer (read_pat_kind (out-SPatKind k))
unfolding pat_of pat_kind_of
pat_kind_out k = fold_out-SPatKind (ℕ → PatTree) PatTree pat_kind_layer pat_layer k

pub pat_kind_of-Tuple : (ps : List SPat) (at : ℕ) → pat_kind_of (Tuple ps) at ≡ PatTuple at (pat_trees (map pat_of ps))
pat_kind_of-Tuple ps at = ap (λ f. f at) (pat_kind_out (Tuple ps) ∙ ap (λ x. pat_kind_layer (read_pat_kind x)) (variants.outs-Tuple ps))

pub ruleset pat_laws = (pat_out, pat_kind_out, pat_kind_of-Tuple, the_lemmas)

-- a pattern that the code makes
pub pat_of-kind : (at : ℕ) (k : SPatKind) → pat_of (roll-SPat (record { at = at; kind = k })) ≡ pat_kind_of k at
unfolding pat_of pat_kind_of
pat_of-kind at k = fold-roll-SPat (ℕ → PatTree) PatTree pat_kind_layer pat_layer (record { at = at; kind = k })

pub pat_of-Tuple : (at : ℕ) (ps : List SPat) → pat_of (roll-SPat (record { at = at; kind = Tuple ps })) ≡ PatTuple at (pat_trees (map pat_of ps))
pat_of-Tuple at ps = pat_of-kind at (Tuple ps) ∙ pat_kind_of-Tuple ps at

abbrev kind_at : ℕ → SPatKind-F SPatKind SPat → PatTree
kind_at at x = pat_kind_layer (read_pat_kind x) at

pub pat_of-Int : (at : ℕ) (n : ℤ) → pat_of (roll-SPat (record { at = at; kind = Int n })) ≡ PatInt at n
pat_of-Int at n = pat_of-kind at (Int n) ∙ ap (λ f. f at) (pat_kind_out (Int n)) ∙ ap (kind_at at) (variants.outs-Int n)

pub pat_of-Str : (at : ℕ) (text : Text) → pat_of (roll-SPat (record { at = at; kind = Str text })) ≡ PatStr at text.0
pat_of-Str at text = pat_of-kind at (Str text) ∙ ap (λ f. f at) (pat_kind_out (Str text)) ∙ ap (kind_at at) (variants.outs-Str text)

pub pat_of-Nil : (at : ℕ) → pat_of (roll-SPat (record { at = at; kind = Nil })) ≡ PatNil at
pat_of-Nil at = pat_of-kind at Nil ∙ ap (λ f. f at) (pat_kind_out Nil) ∙ ap (kind_at at) variants.outs-Nil

pub pat_of-Unit : (at : ℕ) → pat_of (roll-SPat (record { at = at; kind = Unit })) ≡ PatUnit at
pat_of-Unit at = pat_of-kind at Unit ∙ ap (λ f. f at) (pat_kind_out Unit) ∙ ap (kind_at at) variants.outs-Unit

pub pat_of-ExnOf : (at : ℕ) (x : TextExn) (p : SPat) → pat_of (roll-SPat (record { at = at; kind = ExnOf x p })) ≡ PatExnOf at (texted_number x) (pat_of p)
pat_of-ExnOf at x p = pat_of-kind at (ExnOf x p) ∙ ap (λ f. f at) (pat_kind_out (ExnOf x p)) ∙ ap (kind_at at) (variants.outs-ExnOf x p)
