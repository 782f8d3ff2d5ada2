-- How a set grows by the parts of a definition.
use Rattle.std.proofs.Common.{◌≡◌, ◌∙◌, refl, ap, ℕ, Bool, List, [], ◌∷◌, ◌++◌, map, Option}
use Rattle.std.proofs.lemmas.Grind.{common_steps}
use Rattle.ac_types.specs.Types.{Bytes}
use Rattle.ac_types.specs.Sigs.{Typed_name}
use Rattle.ac_terms.specs.Defs.{Module, Import, AModule, AnImport}
use Rattle.ac_terms.specs.Parts.{Portion, OfType, sig_types, def_parts}
use Rattle.ac_closure.specs.inner.Chosen.{with_type, with_types, with_parts}
use Rattle.ac_closure.specs.inner.Forms.{types_beside, field_parts}
use Rattle.ac_closure.proofs.WalkLaws.{with_types-append, with_parts-append, with_parts-types}

module _ (find : Bytes → Option ℕ) where
  beside : (set : List Bool) (xs : List Typed_name) → with_parts find set (map (λ (t : Typed_name). OfType t.ty) xs) ≡ with_types find set (types_beside xs)
  beside set [] = refl
  beside set (x ∷ xs) = beside (with_type find set x.ty) xs

  pub import_parts : (set : List Bool) (i : Import) → with_parts find set (def_parts (AnImport i)) ≡ with_types find (with_types find set (sig_types i.sig)) (types_beside i.like)
  import_parts set i =
      with_parts-append find set (map OfType (sig_types i.sig)) (map (λ (t : Typed_name). OfType t.ty) i.like)
      ∙ ap (λ s. with_parts find s (map (λ (t : Typed_name). OfType t.ty) i.like)) (with_parts-types find set (sig_types i.sig))
      ∙ beside (with_types find set (sig_types i.sig)) i.like

  pub module_parts : (set : List Bool) (m : Module) → with_parts find set (def_parts (AModule m)) ≡ with_parts find (with_types find (with_types find set (sig_types m.sig)) (types_beside m.types)) (field_parts m.fields)
  module_parts set m =
      let types : List Portion = map OfType (sig_types m.sig) in
      let own : List Portion = map (λ (t : Typed_name). OfType t.ty) m.types in
      with_parts-append find set (types ++ own) (field_parts m.fields)
      ∙ ap (λ s. with_parts find s (field_parts m.fields))
      (with_parts-append find set types own
      ∙ ap (λ s. with_parts find s own) (with_parts-types find set (sig_types m.sig))
      ∙ beside (with_types find set (sig_types m.sig)) m.types)

pub ruleset form_laws = (with_types-append, with_parts-append, with_parts-types, common_steps)
