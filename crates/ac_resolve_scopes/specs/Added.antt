-- What each entry of a surface is, behind the entries in front of it.
use Rattle.std.specs.Prelude.{◌≡◌, Bool, is_some, List, [], ◌∷◌, ◌++◌, None, IsTrue}
use Rattle.std.specs.List.{list_all}
use Rattle.ac_types.specs.Types.{Bytes}
use Rattle.ac_terms.specs.Defs.{Environment, Entry, Own', signature_at}
use Rattle.ac_terms.specs.Names.{name_by}
use Rattle.ac_terms.specs.Parts.{Portion, part_refs, def_parts}

-- each reference goes to an entry that is there and has a signature
abbrev pub refer_into : Environment → List Portion → Bool
refer_into E ps = list_all (λ j. is_some (signature_at E j)) (part_refs ps)

-- an own entry without a link, under its name, that refers to entries in front of it alone
pub record IsAdded (digest : Bytes → Bytes) (E : Environment) (e : Entry) : Type 0 where
  pub own : e.seen ≡ Own'
  pub unlinked : e.link ≡ None
  pub named : e.name ≡ name_by digest E e.def
  pub refers : IsTrue (refer_into E (def_parts e.def))

abbrev pub AreAdded : (Bytes → Bytes) → Environment → List Entry → Type 0
AreAdded digest E [] = Unit {0}
AreAdded digest E (e ∷ es) = IsAdded digest E e × AreAdded digest (E ++ e ∷ []) es
