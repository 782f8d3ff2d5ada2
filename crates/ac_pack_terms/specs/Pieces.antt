-- What pieces that are still to be visited stand for.
use Rattle.std.specs.Prelude.{ℕ, suc, List, [], ◌∷◌, map, get_or, Option, Some, None}
use Rattle.ac_types.specs.Types.{Typ, Typs}
use Rattle.ac_types.specs.ReadTypes.{typ_of}
use Rattle.ac_terms.specs.Terms.{Expr, Exprs, Arms, PValue, PValues, exprs, patterns, arms, pvalues}
use Rattle.ac_terms.specs.Defs.{Environment}
use Rattle.ac_terms.specs.Read.{environment_of, home_of, pattern_of, expr_of, arm_of, value_of}
use Rattle.ac_terms.specs.Spelling.{two_written, arm_count}
use Rattle.ac_terms.specs.Heads.{Head, before, type_heads, pattern_heads, all_pattern_heads, term_heads, all_term_heads, arm_heads, value_heads, all_value_heads}
use Rattle.ac_terms.specs.Parts.{Portion, OfType, pattern_types, all_pattern_types, term_parts, all_term_parts, arm_parts, value_parts, all_value_parts}
use Rattle.ac_terms.specs.Renumbered.{renumbered, all_renumbered, arms_renumbered, value_renumbered, values_renumbered}
use Rattle.ac_check_views.specs.Sites.{typs_of}
use Rattle.ac_code.specs.Code.{Code}
use Rattle.ac_code.specs.Contexts.{types_left}
use Rattle.ac_code.specs.ReadCode.{table_code}
use Rattle.ac_values.specs.Values.{values, values_at, stands_as}
use Rattle.ac_values.specs.declared.node.Value.{Value}
use Rattle.ac_meaning.specs.BareTerms.{BareValue, bare_term, bare_all, bare_arms, unpacked, all_unpacked}
use Rattle.ac_meaning.specs.BareReduction.{BareWritten, inst, inst_all, inst_arms}
use Rattle.ac_meaning.specs.BarePacking.{bare_packed, bare_all_packed, bare_packed_term, bare_packed_terms, bare_packed_arms}
use Rattle.ac_machine_meaning.specs.Stands.{stands, all_stand, environment_values}
use Rattle.ac_meaning.specs.Substitution.{Slot, Free, Bound}
use Rattle.ac_pack_terms.specs.declared.around.Slot as code_slot
use Rattle.ac_pack_terms.specs.declared.around.Slot.TheVariants as slot
use Rattle.ac_pack_terms.specs.Spoken.{spoken_by_all}
use Rattle.ac_pack_terms.specs.Items.{items_packed, items_held}
use Rattle.ac_pack_terms.specs.declared.piece.PackContext.{PackContext}
use Rattle.ac_pack_terms.specs.declared.piece.Around.{Around}
use Rattle.ac_pack_terms.specs.declared.piece.Piece.{Piece}
use Rattle.ac_pack_terms.specs.declared.piece.Piece.TheVariants as piece

-- the definitions, the code and the numbers of a site
abbrev pub entries_at : PackContext → Environment
entries_at s = environment_of s.env.now

abbrev pub code_at : PackContext → Code
code_at s = table_code s.table.now

abbrev pub number_at : PackContext → ℕ → ℕ
number_at s k = get_or s.numbers.now k 0

-- the captured values around a term, each with its type
abbrev pub captured_in : PackContext → Option Value → List Typ → BareWritten
captured_in s None G = []
captured_in s (Some list) G = environment_values (code_at s) (stands_as s.store.now list.0) G

abbrev pub captured_at : PackContext → Around → BareWritten
captured_at s a = captured_in s a.held (types_left a.context)

-- what comes in the place of a variable
abbrev pub slot_at : PackContext → code_slot.Slot → Slot BareValue
slot_at s (slot.Free i) = Free i
slot_at s (slot.Bound v ty) = Bound (typ_of ty.now) (stands (code_at s) (stands_as s.store.now v.0))

-- terms and arms as they are packed there
abbrev pub term_at : PackContext → Around → Expr → Expr
term_at s a e = bare_packed_term (entries_at s) (inst a.binders (captured_at s a) (bare_term (home_of a.home) e))

abbrev pub terms_at : PackContext → Around → Exprs → Exprs
terms_at s a es = bare_packed_terms (entries_at s) (inst_all a.binders (captured_at s a) (bare_all (home_of a.home) es))

abbrev pub arms_at : PackContext → Around → Arms → Arms
arms_at s a cases = bare_packed_arms (entries_at s) (inst_arms a.binders (captured_at s a) (bare_arms (home_of a.home) cases))

-- packed values as they are packed there, and the parts of tuples and the items of lists
abbrev pub packed_at : PackContext → PValue → Typ → PValue
packed_at s v T = bare_packed (entries_at s) (unpacked v) T

abbrev pub packed_parts_at : PackContext → PValues → Typs → PValues
packed_parts_at s vs Ts = bare_all_packed (entries_at s) (all_unpacked vs) Ts

abbrev pub packed_items_at : PackContext → PValues → Typ → PValues
packed_items_at s vs T = items_packed (entries_at s) vs T

-- values of the store
abbrev pub held_at : PackContext → Value → Typ → PValue
held_at s v T = bare_packed (entries_at s) (stands (code_at s) (stands_as s.store.now v.0)) T

abbrev pub held_parts_at : PackContext → List Value → Typs → PValues
held_parts_at s vs Ts = bare_all_packed (entries_at s) (all_stand (code_at s) (values_at (values s.store.now) vs)) Ts

abbrev pub held_items_at : PackContext → Value → Typ → PValues
held_items_at s v T = items_held (entries_at s) (code_at s) (stands_as s.store.now v.0) T

-- the parts of terms and of packed values, each with the numbers that are written
abbrev pub term_written : PackContext → ℕ → Expr → List Head
term_written s d e = term_heads two_written d (renumbered (number_at s) e)

abbrev pub terms_written : PackContext → ℕ → Exprs → List Head
terms_written s d es = all_term_heads two_written d (all_renumbered (number_at s) es)

abbrev pub arms_written_at : PackContext → ℕ → Arms → List Head
arms_written_at s d cases = arm_heads two_written d (arms_renumbered (number_at s) cases)

abbrev pub value_written : PackContext → ℕ → PValue → List Head
value_written s d v = value_heads two_written d (value_renumbered (number_at s) v)

abbrev pub values_written : PackContext → ℕ → PValues → List Head
values_written s d vs = all_value_heads two_written d (values_renumbered (number_at s) vs)

-- arms behind their count
abbrev pub cases_written : PackContext → ℕ → Arms → List Head
cases_written s d cases = before (two_written (arm_count (arms_renumbered (number_at s) cases))) (arms_written_at s d cases)

-- the parts of a piece
abbrev pub heads_at : PackContext → Piece → List Head
heads_at s (piece.Type ty) = type_heads (typ_of ty.now)
heads_at s (piece.Pattern p d) = pattern_heads (suc d) (pattern_of p.now)
heads_at s (piece.Patterns ps d) = all_pattern_heads (suc d) (patterns (map pattern_of ps.now))
heads_at s (piece.Term t a d) = term_written s (suc d) (term_at s a (expr_of t.now))
heads_at s (piece.Terms ts a d) = terms_written s (suc d) (terms_at s a (exprs (map expr_of ts.now)))
heads_at s (piece.Cases cs a d) = cases_written s (suc d) (arms_at s a (arms (map arm_of cs.now)))
heads_at s (piece.Arms cs a d) = arms_written_at s (suc d) (arms_at s a (arms (map arm_of cs.now)))
heads_at s (piece.Packed v ty d) = value_written s (suc d) (packed_at s (value_of v.now) (typ_of ty.now))
heads_at s (piece.PackedParts vs tys d) = values_written s (suc d) (packed_parts_at s (pvalues (map value_of vs.now)) (typs_of tys.now))
heads_at s (piece.PackedItems vs ty d) = values_written s (suc d) (packed_items_at s (pvalues (map value_of vs.now)) (typ_of ty.now))
heads_at s (piece.Held v ty d) = value_written s (suc d) (held_at s v (typ_of ty.now))
heads_at s (piece.HeldParts vs tys d) = values_written s (suc d) (held_parts_at s vs.now (typs_of tys.now))
heads_at s (piece.HeldItems v ty d) = values_written s (suc d) (held_items_at s v (typ_of ty.now))

-- what they speak of, by the numbers of the definitions themselves
abbrev pub parts_at : PackContext → Piece → List Portion
parts_at s (piece.Type ty) = OfType (typ_of ty.now) ∷ []
parts_at s (piece.Pattern p d) = map OfType (pattern_types (pattern_of p.now))
parts_at s (piece.Patterns ps d) = map OfType (all_pattern_types (patterns (map pattern_of ps.now)))
parts_at s (piece.Term t a d) = term_parts (term_at s a (expr_of t.now))
parts_at s (piece.Terms ts a d) = all_term_parts (terms_at s a (exprs (map expr_of ts.now)))
parts_at s (piece.Cases cs a d) = arm_parts (arms_at s a (arms (map arm_of cs.now)))
parts_at s (piece.Arms cs a d) = arm_parts (arms_at s a (arms (map arm_of cs.now)))
parts_at s (piece.Packed v ty d) = value_parts (packed_at s (value_of v.now) (typ_of ty.now))
parts_at s (piece.PackedParts vs tys d) = all_value_parts (packed_parts_at s (pvalues (map value_of vs.now)) (typs_of tys.now))
parts_at s (piece.PackedItems vs ty d) = all_value_parts (packed_items_at s (pvalues (map value_of vs.now)) (typ_of ty.now))
parts_at s (piece.Held v ty d) = value_parts (held_at s v (typ_of ty.now))
parts_at s (piece.HeldParts vs tys d) = all_value_parts (held_parts_at s vs.now (typs_of tys.now))
parts_at s (piece.HeldItems v ty d) = all_value_parts (held_items_at s v (typ_of ty.now))

abbrev pub spoken_at : PackContext → List Portion → List ℕ
spoken_at s ps = spoken_by_all (entries_at s) ps

abbrev pub roots_at : PackContext → Piece → List ℕ
roots_at s p = spoken_at s (parts_at s p)
