-- Values, form by form.
use Rattle.std.proofs.lemmas.List.Concat.{flat_map-append}
use Rattle.ac_canon.proofs.ValueForms.{value_laws as read_values}
use Rattle.ac_pack_terms.proofs.WalkLaws.{wants_memory}
use Rattle.ac_pack_values.proofs.ListLaws.{there_none, there_some}

pub ruleset packed_laws = (wants_memory, read_values, there_none, there_some, flat_map-append)

pub ruleset held_laws = (wants_memory, there_none, there_some, flat_map-append)
