-- Clashes: two entries of two programs have one name and two texts.
use Rattle.std.specs.Prelude.{ℕ, suc, ◌&&◌, Bool, false, [], ◌∷◌, length, Option, Some, None, option_map}
use Rattle.std.specs.Option.{option_map_or, option_or}
use Rattle.ac_types.specs.Partial.{given, differ}
use Rattle.ac_terms.specs.Defs.{Environment, name_at, names}
use Rattle.ac_terms.specs.Names.{text_of_entry}
use Rattle.ac_load_rules.specs.Causes.{first_below}
use Rattle.ac_colours.specs.Chains.{Programs}
use Rattle.ac_chain.specs.declared.chained.ChainFault.{ChainFault}
use Rattle.ac_chain.specs.declared.chained.ChainFault.TheVariants.{Clash}

-- entry i of E and entry j of F keep one name and have two texts; a mark and an import by exact name have no text
abbrev pub is_clash : Environment → ℕ → Environment → ℕ → Bool
is_clash E i F j = option_map_or (names (name_at E i)) (name_at F j) false && differ (text_of_entry E i) (text_of_entry F j)

-- the first entry of F that clashes with entry i of E
abbrev pub clash_in : Environment → ℕ → Environment → Option ℕ
clash_in E i F = first_below (length F) (λ j. given (is_clash E i F j) (Some j))

-- the first clash of entry i of program a, which has the entries E, with an entry of a later program; those are counted from b on
abbrev pub clash_behind : ℕ → Environment → ℕ → ℕ → Programs → Option ChainFault
clash_behind a E i b [] = None
clash_behind a E i b (q ∷ qs) = option_or (option_map (Clash a i b) (clash_in E i q.0)) (clash_behind a E i (suc b) qs)

-- the first clash of two programs, which are counted from a on: in the order of the first program, its entry, the second program and its entry
abbrev pub first_program_clash : ℕ → Programs → Option ChainFault
first_program_clash a [] = None
first_program_clash a (p ∷ ps) = option_or (first_below (length p.0) (λ i. clash_behind a p.0 i (suc a) ps)) (first_program_clash (suc a) ps)
