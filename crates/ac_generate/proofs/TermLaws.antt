-- What the writing of terms needs: the readings of the forms, and the equations that their writing follows.
use Rattle.std.proofs.Common.{◌≡◌, ℕ, suc, List, [], ◌∷◌, map, length, None, Some, refl, sym, ap, ◌∙◌}
use Rattle.std.proofs.lemmas.Grind.{common_steps}
use Rattle.std.proofs.lemmas.List.{length-map}
use Rattle.ac_types.specs.declared.ty.Ty.{Ty}
use Rattle.ac_types.specs.Types.{Typ}
use Rattle.ac_types.specs.ReadTypes.{typ_of}
use Rattle.ac_terms.specs.declared.term.Term.{Term}
use Rattle.ac_terms.specs.declared.term.Term.TheVariants as term
use Rattle.ac_terms.specs.declared.term.Arm.{Arm}
use Rattle.ac_terms.specs.declared.term.PVal.TheOpen as code
use Rattle.ac_terms.specs.declared.term.PVal.TheOpen.{Term-F}
use Rattle.ac_terms.specs.declared.term.PVal.TheViews.{out-Term}
use Rattle.ac_terms.specs.declared.term.PVal.{PVal}
use Rattle.ac_terms.specs.Terms.{Home, exprs, pvalues, KFun}
use Rattle.ac_terms.specs.Read.{expr_of, value_of, expr_layer}
use Rattle.ac_terms.proofs.ReadLaws.{read_parts, expr_out}
use Rattle.ac_terms.proofs.TermReading.{expr_of-injective}
use Rattle.ac_terms.specs.Spelling.{term_count, value_count}
use Rattle.ac_generate.specs.inner.Drafts.{Draft, wrote_value}
use Rattle.ac_terms.proofs.TermForms.{expr_of-Lam, expr_of-Rec}
use Rattle.ac_terms.proofs.ValueForms.{value_forms}
use Rattle.ac_terms.proofs.TermForms.{term_forms}
use Rattle.ac_generate.proofs.DraftLaws as draft
use Rattle.ac_generate.proofs.JumpLaws.{wrote_no_arms, wrote_more_arms, arm_address, after_arm}

pub count_terms : (ts : List Term) → term_count (exprs (map expr_of ts)) ≡ length ts
count_terms [] = refl
count_terms (t ∷ ts) = ap suc (count_terms ts)

pub count_values : (vs : List PVal) → value_count (pvalues (map value_of vs)) ≡ length vs
count_values [] = refl
count_values (v ∷ vs) = ap suc (count_values vs)

pub count_types : (n : ℕ) (ts : List Ty) (Ts : List Typ) → n ≡ length ts → map typ_of ts ≡ Ts → n ≡ length Ts
count_types n ts Ts e h = e ∙ sym (length-map ts typ_of) ∙ ap length h

-- a packed function that is no lambda has no code
not_lambda : (h : Home) (t : Term) (d : Draft) → ((ty : Ty) (b : Term) → t ≡ term.Lam ty b → ⊥) → ((ty u : Ty) (b : Term) → t ≡ term.Rec ty u b → ⊥) → (x : Term-F PVal Term Arm) → out-Term t ≡ x → wrote_value (KFun h (expr_layer (read_parts x))) d ≡ d
unfolding wrote_value
not_lambda h t d nl nr (code.Lam ty b) is = absurd (nl ty b (expr_of-injective t (term.Lam ty b) (expr_out t ∙ ap (λ x. expr_layer (read_parts x)) is ∙ sym (expr_of-Lam ty b))))
not_lambda h t d nl nr (code.Rec ty u b) is = absurd (nr ty u b (expr_of-injective t (term.Rec ty u b) (expr_out t ∙ ap (λ x. expr_layer (read_parts x)) is ∙ sym (expr_of-Rec ty u b))))
not_lambda h t d nl nr x is = draft.nothing_more d

pub plain_written : (h : Home) (t : Term) (d : Draft) → ((ty : Ty) (b : Term) → t ≡ term.Lam ty b → ⊥) → ((ty u : Ty) (b : Term) → t ≡ term.Rec ty u b → ⊥) → d ≡ wrote_value (KFun h (expr_of t)) d
plain_written h t d nl nr = sym (ap (λ e. wrote_value (KFun h e) d) (expr_out t) ∙ not_lambda h t d nl nr (out-Term t) refl)

pub ruleset term_laws = (term_forms, draft.draft_laws, count_terms)

pub ruleset all_laws = (draft.list_laws, common_steps)

pub ruleset arm_laws = (wrote_no_arms, wrote_more_arms, arm_address, after_arm, common_steps)

pub ruleset value_laws = (term_forms, value_forms, draft.value_laws, count_values, common_steps)
