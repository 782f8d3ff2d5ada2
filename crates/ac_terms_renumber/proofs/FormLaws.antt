-- Tests of the parts of definitions, list by list.
use Rattle.std.proofs.Common.{◌≡◌, ◌∙◌, refl, ap, ap₂, Bool, true, false, ◌&&◌, List, [], ◌∷◌, ◌++◌, map, flat_map, option_to_list, Option, Some, None}
use Rattle.std.specs.List.{list_all}
use Rattle.std.specs.Option.{option_map_or}
use Rattle.std.proofs.lemmas.List.Folds.{list_all-append}
use Rattle.ac_types.specs.Types.{Typ}
use Rattle.ac_types.specs.Sigs.{Typed_name, Sig_type, Signature}
use Rattle.ac_terms.specs.Defs.{Field, Module, Import, AModule, AnImport}
use Rattle.ac_terms.specs.Parts.{Portion, OfType, sig_types, term_parts, def_parts}

module _ (p : Portion → Bool) where
  abbrev of_spec : Sig_type → Bool
  of_spec t = option_map_or (λ (U : Typ). p (OfType U)) t.manifest true

  abbrev of_typed : Typed_name → Bool
  of_typed t = p (OfType t.ty)

  abbrev of_field : Field → Bool
  of_field f = p (OfType f.ty) && list_all p (term_parts f.term)

  typed : (xs : List Typed_name) → list_all p (map (λ (t : Typed_name). OfType t.ty) xs) ≡ list_all of_typed xs
  typed [] = refl
  typed (x ∷ xs) = ap (λ b. p (OfType x.ty) && b) (typed xs)

  fields : (fs : List Field) → list_all p (flat_map (λ (f : Field). OfType f.ty ∷ term_parts f.term) fs) ≡ list_all of_field fs
  fields [] = refl
  fields (f ∷ fs) = list_all-append p (OfType f.ty ∷ term_parts f.term) (flat_map (λ (g : Field). OfType g.ty ∷ term_parts g.term) fs) ∙ ap (λ b. of_field f && b) (fields fs)

  vals : (xs : List Typed_name) → list_all p (map OfType (map (λ (v : Typed_name). v.ty) xs)) ≡ list_all of_typed xs
  vals [] = refl
  vals (x ∷ xs) = ap (λ b. p (OfType x.ty) && b) (vals xs)

  one : (o : Option Typ) (Us Ts : List Typ) → list_all p (map OfType ((option_to_list o ++ Us) ++ Ts)) ≡ (option_map_or (λ (U : Typ). p (OfType U)) o true && list_all p (map OfType (Us ++ Ts)))
  one None Us Ts = refl
  one (Some U) Us Ts = refl

  abbrev manifests : List Sig_type → List Typ
  manifests ts = flat_map (λ (t : Sig_type). option_to_list t.manifest) ts

  specs : (ts : List Sig_type) (xs : List Typed_name) → list_all p (map OfType (manifests ts ++ map (λ (v : Typed_name). v.ty) xs)) ≡ (list_all of_spec ts && list_all of_typed xs)
  specs [] xs = vals xs
  specs (t ∷ ts) xs = one t.manifest (manifests ts) (map (λ (v : Typed_name). v.ty) xs) ∙ ap (λ b. of_spec t && b) (specs ts xs) ∙ joined (of_spec t) (list_all of_spec ts) (list_all of_typed xs)
    where
      joined : (a b c : Bool) → (a && (b && c)) ≡ ((a && b) && c)
      joined true b c = refl
      joined false b c = refl

  pub sig_parts : (s : Signature) → list_all p (map OfType (sig_types s)) ≡ (list_all of_spec s.types && list_all of_typed s.vals)
  sig_parts s = specs s.types s.vals

  pub import_parts : (i : Import) → list_all p (def_parts (AnImport i)) ≡ (list_all p (map OfType (sig_types i.sig)) && list_all of_typed i.like)
  import_parts i = list_all-append p (map OfType (sig_types i.sig)) (map (λ (t : Typed_name). OfType t.ty) i.like) ∙ ap (λ b. list_all p (map OfType (sig_types i.sig)) && b) (typed i.like)

  pub module_parts : (m : Module) → list_all p (def_parts (AModule m)) ≡ ((list_all p (map OfType (sig_types m.sig)) && list_all of_typed m.types) && list_all of_field m.fields)
  module_parts m =
      let types : List Portion = map (λ (t : Typed_name). OfType t.ty) m.types in
      list_all-append p (map OfType (sig_types m.sig) ++ types) (flat_map (λ (f : Field). OfType f.ty ∷ term_parts f.term) m.fields)
      ∙ ap₂ (λ a b. a && b) (list_all-append p (map OfType (sig_types m.sig)) types ∙ ap (λ b. list_all p (map OfType (sig_types m.sig)) && b) (typed m.types)) (fields m.fields)
