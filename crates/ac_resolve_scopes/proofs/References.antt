-- What is elaborated refers to entries in front of it that have a signature.
use Rattle.std.proofs.Common.{◌≡◌, ◌∙◌, ap, refl, ℕ, Bool, true, false, List, [], ◌∷◌, ◌++◌, map, Option, Some, None}
use Rattle.std.specs.Prelude.{not, is_some, flat_map, option_map, option_and_then, unwrap_or}
use Rattle.std.specs.List.{list_all}
use Rattle.std.specs.Option.{option_or}
use Rattle.ac_types.specs.Partial.{given}
use Rattle.ac_types.specs.Types.{Bytes, Typ}
use Rattle.ac_types.specs.Sigs.{Typed_name, Signature, named_type}
use Rattle.ac_types.proofs.Same.{and_true, both_true}
use Rattle.ac_terms.specs.Terms.{Expr, Unit', Var, Own, Ref}
use Rattle.ac_terms.specs.Defs.{Environment, Field, signature_at}
use Rattle.ac_terms.specs.Parts.{Portion, OfType, OfRef, OfHome, Captured, part_refs, pattern_types, sig_types, term_parts, all_term_parts, arm_parts, def_parts}
use Rattle.ac_syntax.specs.Trees.{Tree, ExExnOf, ExTuple, ExPresent, ExCons, ExVar, ExOf, ExFun, ExRec, ExApp, ExLet, ExLetRec, ExIf, ExSeq, ExMatch, ExTry, ExRaise, ExAnd, ExOr, ExOp, ExMarshal, ExUnmarshal, Trees, no_trees, tree, ArmTrees, no_arm_trees, arm_tree, FieldTree, AbbrevField, ValField, DefTree, ModuleDef, ImportDef, MarkDef}
use Rattle.ac_resolve_scopes.specs.Standard.{NamedPrimitive, is_standard, primitive_named}
use Rattle.ac_resolve_scopes.specs.Scopes.{NameScope, definition, own_number, binders_to, value_outside, primitive_function, with_variables, each_in}
use Rattle.ac_resolve_scopes.specs.Written.{in_function, in_arm, pattern_in, primitive_at, applied_tree, term_in, terms_in, arms_in}
use Rattle.ac_resolve_scopes.specs.Definitions.{after_abbrev, after_field, signature_in, abbrev_type, item_type, item_field, def_in}
use Rattle.ac_resolve_scopes.specs.Added.{refer_into}

refs_append : (ps qs : List Portion) → part_refs (ps ++ qs) ≡ part_refs ps ++ part_refs qs
refs_append [] qs = refl
refs_append (OfType T ∷ ps) qs = refs_append ps qs
refs_append (OfRef j x ∷ ps) qs = ap (λ l. j ∷ l) (refs_append ps qs)
refs_append (OfHome h ∷ ps) qs = refs_append ps qs
refs_append (Captured ∷ ps) qs = refs_append ps qs

all_both : (test : ℕ → Bool) (xs ys : List ℕ) → list_all test xs ≡ true → list_all test ys ≡ true → list_all test (xs ++ ys) ≡ true
all_both test [] ys h k = k
all_both test (x ∷ xs) ys h k = let r = both_true (test x) (list_all test xs) h in and_true r.0 (all_both test xs ys r.1 k)

module _ (E : Environment) where
  abbrev Into : List Portion → Type 0
  Into ps = refer_into E ps ≡ true

  both_into : (ps qs : List Portion) → Into ps → Into qs → Into (ps ++ qs)
  both_into ps qs h k = ap (list_all (λ j. is_some (signature_at E j))) (refs_append ps qs) ∙ all_both (λ j. is_some (signature_at E j)) (part_refs ps) (part_refs qs) h k

  three_into : (ps qs rs : List Portion) → Into ps → Into qs → Into rs → Into (ps ++ qs ++ rs)
  three_into ps qs rs h k l = both_into (ps ++ qs) rs (both_into ps qs h k) l

  types_into : (Ts : List Typ) (ps : List Portion) → Into ps → Into (map OfType Ts ++ ps)
  types_into [] ps h = h
  types_into (T ∷ Ts) ps h = types_into Ts ps h

  types_alone : (Ts : List Typ) → Into (map OfType Ts)
  types_alone [] = refl
  types_alone (T ∷ Ts) = types_alone Ts

  typed_alone : (xs : List Typed_name) → Into (map (λ (t : Typed_name). OfType t.ty) xs)
  typed_alone [] = refl
  typed_alone (x ∷ xs) = typed_alone xs

  -- what a name means
  plain_into : (i f : Option ℕ) → Into (term_parts (unwrap_or (option_or (option_map Var i) (option_map Own f)) (Var 0)))
  plain_into None None = refl
  plain_into None (Some f) = refl
  plain_into (Some i) f = refl

  outside_into : (x : Bytes) (j : ℕ) (s : Option Signature) → signature_at E j ≡ s
      → Into (term_parts (unwrap_or (option_and_then (λ (s : Signature). option_map (λ (T : Typ). Ref j x) (named_type x s.vals)) s) Unit'))
  outside_into x j None is = refl
  outside_into x j (Some s) is = on (named_type x s.vals) where
    on : (T : Option Typ) → Into (term_parts (unwrap_or (option_map (λ (T : Typ). Ref j x) T) Unit'))
    on None = refl
    on (Some T) = and_true (ap is_some is) refl

  dotted_into : (x : Bytes) (p : Option NamedPrimitive) (b : Bool) (d : Option ℕ)
      → Into (term_parts (unwrap_or (option_or (option_map primitive_function p) (option_and_then (value_outside E x) (given b d))) Unit'))
  dotted_into x (Some p) b d = refl
  dotted_into x None false d = refl
  dotted_into x None true None = refl
  dotted_into x None true (Some j) = outside_into x j (signature_at E j) refl

  applied_into : (p : Option NamedPrimitive) (f a : Expr) → Into (term_parts f) → Into (term_parts a) → Into (term_parts (applied_tree p f a))
  applied_into None f a h k = both_into (term_parts f) (term_parts a) h k
  applied_into (Some p) f a h k = both_into (term_parts a) [] k refl

mutual
  pub term_into : (S : NameScope) (e : Tree) → refer_into S.entries (term_parts (term_in S e)) ≡ true
  term_into S (ExExnOf at number a) = term_into S a
  term_into S (ExTuple at parts) = terms_into S parts
  term_into S (ExPresent at a) = term_into S a
  term_into S (ExCons at a b) = both_into S.entries (term_parts (term_in S a)) _ (term_into S a) (term_into S b)
  term_into S (ExVar at x) = plain_into S.entries (binders_to x S.variables) (own_number x S.fields)
  term_into S (ExOf at m x) = dotted_into S.entries x.word (primitive_named m.word x.word) (not (is_standard m.word)) (definition S m.word)
  term_into S (ExFun at x T b) = term_into (with_variables (x ∷ []) S) b
  term_into S (ExRec at f x T U b) = term_into (in_function f x S) b
  term_into S (ExApp at f a) = applied_into S.entries (primitive_at f) (term_in S f) (term_in S a) (term_into S f) (term_into S a)
  term_into S (ExLet at x T a b) = both_into S.entries (term_parts (term_in S a)) _ (term_into S a) (term_into (with_variables (x ∷ []) S) b)
  term_into S (ExLetRec at f x T U a b) = both_into S.entries (term_parts (term_in (in_function f x S) a)) _ (term_into (in_function f x S) a) (term_into (with_variables (f ∷ []) S) b)
  term_into S (ExIf at c a b) =
      three_into S.entries (term_parts (term_in S c)) (term_parts (term_in S a)) (term_parts (term_in S b)) (term_into S c) (term_into S a) (term_into S b)
  term_into S (ExSeq at parts) = terms_into S parts
  term_into S (ExMatch at a arms) = both_into S.entries (term_parts (term_in S a)) _ (term_into S a) (arms_into S arms)
  term_into S (ExTry at a arms) = both_into S.entries (term_parts (term_in S a)) _ (term_into S a) (arms_into S arms)
  term_into S (ExRaise at a T) = term_into S a
  term_into S (ExAnd at a b) = three_into S.entries (term_parts (term_in S a)) (term_parts (term_in S b)) [] (term_into S a) (term_into S b) refl
  term_into S (ExOr at a b) = three_into S.entries (term_parts (term_in S a)) [] (term_parts (term_in S b)) (term_into S a) refl (term_into S b)
  term_into S (ExOp at number parts) = terms_into S parts
  term_into S (ExMarshal at a b T) = both_into S.entries (term_parts (term_in S a)) _ (term_into S a) (term_into S b)
  term_into S (ExUnmarshal at a T) = term_into S a
  term_into S _ = refl

  terms_into : (S : NameScope) (es : Trees) → refer_into S.entries (all_term_parts (terms_in S es)) ≡ true
  terms_into S no_trees = refl
  terms_into S (tree t ts) = both_into S.entries (term_parts (term_in S t)) _ (term_into S t) (terms_into S ts)

  arms_into : (S : NameScope) (arms : ArmTrees) → refer_into S.entries (arm_parts (arms_in S arms)) ≡ true
  arms_into S no_arm_trees = refl
  arms_into S (arm_tree p b arms) =
      let body = term_into (in_arm p S) b in
      both_into S.entries (map OfType (pattern_types (pattern_in S p)) ++ term_parts (term_in (in_arm p S) b)) _
      (types_into S.entries (pattern_types (pattern_in S p)) _ body) (arms_into S arms)

fields_into : (S : NameScope) (fields : List FieldTree) → refer_into S.entries (flat_map (λ (f : Field). OfType f.ty ∷ term_parts f.term) (each_in after_field item_field S fields)) ≡ true
fields_into S [] = refl
fields_into S (AbbrevField a ∷ fields) = fields_into (after_field S (AbbrevField a)) fields
fields_into S (ValField name ty body ∷ fields) = both_into S.entries (term_parts (term_in S body)) _ (term_into S body) (fields_into (after_field S (ValField name ty body)) fields)

pub def_into : (S : NameScope) (d : DefTree) → refer_into S.entries (def_parts (def_in S d)) ≡ true
def_into S (ModuleDef at name σ version fields) =
    let types = each_in after_field item_type S fields in
    three_into S.entries (map OfType (sig_types (signature_in S σ))) (map (λ (t : Typed_name). OfType t.ty) types)
    (flat_map (λ (f : Field). OfType f.ty ∷ term_parts f.term) (each_in after_field item_field S fields))
    (types_alone S.entries (sig_types (signature_in S σ))) (typed_alone S.entries types) (fields_into S fields)
def_into S (ImportDef at name σ wants like by) =
    let likes = each_in after_abbrev abbrev_type S (unwrap_or like []) in
    both_into S.entries (map OfType (sig_types (signature_in S σ))) (map (λ (t : Typed_name). OfType t.ty) likes)
    (types_alone S.entries (sig_types (signature_in S σ))) (typed_alone S.entries likes)
def_into S (MarkDef at text_at text) = refl
