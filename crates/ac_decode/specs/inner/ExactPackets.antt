-- How definitions and packets are read exactly, whatever reads types.
use Rattle.std.specs.Prelude.{ℕ, Bool, false, nat_eq, List, [], ◌∷◌}
use Rattle.ac_types.specs.Limits.{deepest_nesting, most_items}
use Rattle.ac_types.specs.Types.{Bytes, Typ}
use Rattle.ac_terms.specs.Terms.{Expr}
use Rattle.ac_terms.specs.Defs.{Field, Def, Packet}
use Rattle.ac_terms.specs.PacketReading.{ReadsPart, one, then_read, pair, read_list, tagged, nothing, read_byte, a_field, a_module, an_import, a_packet}
use Rattle.ac_terms.specs.Tags.{packet_mark, packet_in_full}
use Rattle.ac_decode_pieces.specs.ExactReading.{passing, exact_two, exact_four, exact_lower, exact_upper, exact_long_count, exact_version, exact_constraint, exact_resolves}
use Rattle.ac_decode_pieces.specs.ExactTypes.{exact_all_typed, exact_sig}
use Rattle.ac_decode.specs.inner.ExactTerms.{exact_term, exact_value}

-- what a packet begins with, and a version
unfoldable pub exact_mark : ReadsPart ℕ
exact_mark = passing (nat_eq packet_mark) exact_four

unfoldable pub exact_first : ReadsPart ℕ
exact_first = passing (nat_eq packet_in_full) read_byte

abbrev pub exact_head : ReadsPart (ℕ × ℕ)
exact_head = pair exact_mark exact_first

abbrev pub field_made : (Bytes × Typ) × Expr → Field
field_made p = a_field p.0.0 p.0.1 p.1

module _ (read_type : Bool → ReadsPart Typ) where
  unfoldable pub exact_field : ReadsPart Field
  exact_field = one field_made (pair (pair exact_lower (read_type false)) (exact_term read_type false deepest_nesting))

  unfoldable pub exact_fields : ReadsPart (List Field)
  exact_fields = read_list (exact_long_count 0 most_items) exact_field

  unfoldable pub exact_module : ReadsPart Def
  exact_module = one a_module (pair (pair (pair (pair exact_upper exact_version) (exact_sig read_type)) (exact_all_typed read_type false)) exact_fields)

  unfoldable pub exact_import : ReadsPart Def
  exact_import = one an_import (pair (pair (pair (pair exact_upper (exact_sig read_type)) exact_constraint) (exact_all_typed read_type false)) exact_resolves)

  abbrev pub def_table : List (ReadsPart Def)
  def_table = nothing ∷ exact_module ∷ exact_import ∷ []

  unfoldable pub exact_def : ReadsPart Def
  exact_def bs = tagged def_table bs

  unfoldable pub exact_defs : ReadsPart (List Def)
  exact_defs = read_list exact_two exact_def

  -- a packet, and what is left behind it
  unfoldable pub exact_packet : ReadsPart Packet
  exact_packet = then_read exact_head (λ head. one a_packet (pair (pair exact_defs (read_type false)) (exact_value read_type deepest_nesting)))
