-- What the bounds of a module, of an import and of a packet say of their parts.
use Rattle.std.proofs.Common.{◌≡◌, Bool, true, ◌&&◌, length, false}
use Rattle.std.specs.Prelude.{nat_le}
use Rattle.std.specs.List.{list_all}
use Rattle.ac_types.proofs.Same.{both_true}
use Rattle.ac_types.specs.Types.{is_small}
use Rattle.ac_terms.specs.Defs.{Field, Module, Import, Def, AModule, AnImport, Packet}
use Rattle.ac_terms.specs.Nesting.{value_nesting}
use Rattle.ac_terms.specs.Parts.{def_parts, value_parts}
use Rattle.ac_terms.specs.Bounds.{is_two, is_upper, is_lower, fits_type, fits_term, fits_value, fits_atom, fits_constraint, fits_resolve, fits_typed, fits_sig, fits_def, is_module_or_import, nests_little, has_small_types, fits_packet}

abbrev pub fits_field : Field → Bool
fits_field f = is_lower f.name && fits_type false f.ty && fits_term false f.term

pub record ModuleBounds (m : Module) : Type 0 where
  pub upper : is_upper m.name ≡ true
  pub few_atoms : nat_le (length m.version) 8 ≡ true
  pub atoms : list_all fits_atom m.version ≡ true
  pub sig : fits_sig m.sig ≡ true
  pub few_types : nat_le (length m.types) 1024 ≡ true
  pub types : list_all (fits_typed false) m.types ≡ true
  pub few_fields : nat_le (length m.fields) 1024 ≡ true
  pub fields : list_all fits_field m.fields ≡ true

pub module_bounds : (m : Module) → fits_def (AModule m) ≡ true → ModuleBounds m
module_bounds m w =
    let a = both_true _ _ w in
    let b = both_true _ _ a.0 in
    let c = both_true _ _ b.0 in
    let d = both_true _ _ c.0 in
    let s = both_true _ _ d.0 in
    let v = both_true _ _ s.0 in
    let l = both_true _ _ v.0 in
    record { upper = (both_true _ _ l.0).0; few_atoms = l.1; atoms = v.1; sig = s.1; few_types = d.1; types = c.1; few_fields = b.1; fields = a.1 }

pub record ImportBounds (i : Import) : Type 0 where
  pub upper : is_upper i.name ≡ true
  pub sig : fits_sig i.sig ≡ true
  pub constraint : fits_constraint i.constraint ≡ true
  pub few_likes : nat_le (length i.like) 1024 ≡ true
  pub likes : list_all (fits_typed false) i.like ≡ true
  pub few_resolves : nat_le (length i.by) 16 ≡ true
  pub resolves : list_all fits_resolve i.by ≡ true

pub import_bounds : (i : Import) → fits_def (AnImport i) ≡ true → ImportBounds i
import_bounds i w =
    let a = both_true _ _ w in
    let b = both_true _ _ a.0 in
    let c = both_true _ _ b.0 in
    let d = both_true _ _ c.0 in
    let l = both_true _ _ d.0 in
    let n = both_true _ _ l.0 in
    let s = both_true _ _ n.0 in
    record { upper = s.0; sig = s.1; constraint = n.1; few_likes = l.1; likes = d.1; few_resolves = b.1; resolves = a.1 }

pub record PacketBounds (p : Packet) : Type 0 where
  pub few : is_two (length p.defs) ≡ true
  pub kinds : list_all is_module_or_import p.defs ≡ true
  pub defs : list_all fits_def p.defs ≡ true
  pub defs_nest : list_all nests_little p.defs ≡ true
  pub def_types : list_all (λ (d : Def). has_small_types (def_parts d)) p.defs ≡ true
  pub ty : fits_type false p.ty ≡ true
  pub small : is_small p.ty ≡ true
  pub value : fits_value p.value ≡ true
  pub nests : nat_le (value_nesting p.value) 500 ≡ true
  pub value_types : has_small_types (value_parts p.value) ≡ true

pub packet_bounds : (p : Packet) → fits_packet p ≡ true → PacketBounds p
packet_bounds p w =
    let types = both_true _ _ w in
    let nests = both_true _ _ types.0 in
    let value = both_true _ _ nests.0 in
    let small = both_true _ _ value.0 in
    let type = both_true _ _ small.0 in
    let parts = both_true _ _ type.0 in
    let nest = both_true _ _ parts.0 in
    let fit = both_true _ _ nest.0 in
    let kinds = both_true _ _ fit.0 in
    record { few = kinds.0; kinds = kinds.1; defs = fit.1; defs_nest = nest.1; def_types = parts.1; ty = type.1; small = small.1; value = value.1; nests = nests.1; value_types = types.1 }
