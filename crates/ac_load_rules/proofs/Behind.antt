-- The entries that a part adds: each is linked as it asks for, and to what stands in front of it.
use Rattle.std.proofs.Common.{◌≡◌, refl, sym, ap, ◌∙◌, ℕ, suc, List, [], ◌∷◌, ◌++◌, length, Option, Some, None}
use Rattle.std.specs.Prelude.{option_and_then}
use Rattle.ac_types.proofs.FirstLaws.{none≢some}
use Rattle.ac_terms.specs.Defs.{Environment, Entry, Import, Def, AModule, AnImport, AMark, Seen}
use Rattle.ac_rules.specs.Links.{AtLoad}
use Rattle.ac_rules.specs.Coherent.{IsLinked, link_at}
use Rattle.ac_rules.proofs.LinkLaws.{linked_fits}
use Rattle.ac_rules.proofs.ListLaws.{get_new}
use Rattle.ac_rules.proofs.Grown.{may_link_old}
use Rattle.ac_load_rules.specs.Causes.{link_of, linked_entry, linked_behind, unlinked}

-- one a definition
pub linked_length : (seen : Seen) (E : Environment) (es : List Entry) → length (linked_behind seen E es) ≡ length es
linked_length seen E [] = refl
linked_length seen E (e ∷ es) = ap suc (linked_length seen (E ++ linked_entry seen E e ∷ []) es)

-- an entry that isn't left unlinked is linked among those in front of it
module _ (seen : Seen) (E : Environment) (e : Entry) (k : ℕ) (there : unlinked k (linked_entry seen E e) ≡ None) where
  abbrev New : Entry
  New = linked_entry seen E e

  at_last : link_at (E ++ New ∷ []) (length E) ≡ link_of E e.def
  at_last = ap (option_and_then (λ (x : Entry). x.link)) (get_new E New [])

  on_link : (i : Import) (o : Option ℕ) → e.def ≡ AnImport i → link_of E (AnImport i) ≡ o → IsLinked (E ++ New ∷ []) (length E) (AnImport i)
  on_link i None is lost = absurd (some_left (ap (λ d. left d (link_of E d)) is ∙ ap (left (AnImport i)) lost))
    where
      left : Def → Option ℕ → Option ℕ
      left d o = elim (unlinked k (record { def = d; name = None; seen = seen; link = o })) [ None ↦ None | Some c ↦ Some 0 ]

      some_left : left e.def (link_of E e.def) ≡ Some 0 → ⊥
      some_left h = none≢some (sym (ap (λ c. elim c [ None ↦ None | Some x ↦ Some 0 ]) there) ∙ h)
  on_link i (Some j) is found =
      let r = linked_fits E i AtLoad j found in
      (j, at_last ∙ ap (link_of E) is ∙ found, r.0, may_link_old E (New ∷ []) i j r.0 ∙ r.1)

  pub is_linked : (d : Def) → e.def ≡ d → IsLinked (E ++ New ∷ []) (length E) d
  is_linked (AModule m) is = at_last ∙ ap (link_of E) is
  is_linked (AMark t) is = at_last ∙ ap (link_of E) is
  is_linked (AnImport i) is = on_link i (link_of E (AnImport i)) is refl
