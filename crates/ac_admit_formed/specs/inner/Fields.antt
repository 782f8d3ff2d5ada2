-- What is asked of fields, where a type is looked at with the names that it mentions.
use Rattle.std.specs.Prelude.{ℕ, suc, Bool, true, false, ◌&&◌, is_none, List, [], ◌∷◌}
use Rattle.std.specs.List.{list_all}
use Rattle.std.specs.Option.{option_map_or}
use Rattle.ac_terms.specs.Terms.{In}
use Rattle.ac_terms.specs.Defs.{Environment, Field, Def, AModule, AnImport, AMark}
use Rattle.ac_types.specs.Partial.{has}
use Rattle.ac_rules.specs.Views.{Coloured}
use Rattle.ac_rules.specs.Typing.{type_of, type_seen, of_field}
use Rattle.ac_rules.specs.Modules.{is_valuable, uncovered}

-- field g of entry i has the type that it writes, whose names are known
abbrev pub is_seen_typed : Environment → ℕ → ℕ → Field → Bool
is_seen_typed E i g f = option_map_or (λ T. has (type_seen Coloured true E (In i) f.ty) T) (type_of Coloured false E (of_field i g) f.term) false

abbrev pub are_seen_typed : Environment → ℕ → ℕ → List Field → Bool
are_seen_typed E i g [] = true
are_seen_typed E i g (f ∷ fs) = is_seen_typed E i g f && are_seen_typed E i (suc g) fs

-- the fields of a module are valuable and typed, and cover its signature
abbrev pub has_seen_fields : Environment → ℕ → Def → Bool
has_seen_fields E i (AModule m) = (list_all (λ (f : Field). is_valuable f.term) m.fields && is_none (uncovered m)) && are_seen_typed E i 0 m.fields
has_seen_fields E i (AnImport m) = true
has_seen_fields E i (AMark t) = true
