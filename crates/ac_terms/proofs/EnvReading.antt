-- The reading of definitions, environments and packets loses nothing.
use Rattle.std.proofs.Common.{◌≡◌, refl, sym, ap, ◌∙◌, [], map}
use Rattle.std.specs.Prelude.{option_map}
use mathlib.Core.Path.{ap₂}
use Rattle.ac_types.specs.Types.{Bytes}
use Rattle.ac_types.specs.ReadTypes.{typed_of, sig_of, atom_of, resolve_of}
use Rattle.ac_types.specs.declared.text.Name.{Name}
use Rattle.ac_types.specs.Sigs.{Exact}
use Rattle.ac_types.proofs.TypeReading.{back, typ_back}
use Rattle.ac_types.proofs.SigReading.{map_back, option_back, find_typed, typed_back, find_sig, sig_back, find_atom, atom_back, find_constraint, constraint_back, find_resolve, resolve_back}
use Rattle.ac_terms.specs.Defs as defs
use Rattle.ac_terms.specs.Read.{field_of, module_of_code, import_of_code, def_of_code, pdef_of, seen_of, name_of_code, entry_of, environment_of, packet_of}
use Rattle.ac_terms.specs.declared.def.Field.{Field}
use Rattle.ac_terms.specs.declared.def.Module.{Module}
use Rattle.ac_terms.specs.declared.def.Import.{Import}
use Rattle.ac_terms.specs.declared.def.Def as code_def
use Rattle.ac_terms.specs.declared.def.PDef as code_pdef
use Rattle.ac_terms.specs.declared.def.Seen as code_seen
use Rattle.ac_terms.specs.declared.def.Entry.{Entry}
use Rattle.ac_terms.specs.declared.def.Packet.{Packet}
use Rattle.ac_terms.specs.declared.env.Env.{Env}
use Rattle.ac_terms.proofs.TermReading.{find_term, term_back, find_value, value_back}

abbrev find_field : defs.Field → Field
find_field f = record { name = f.name; ty = back f.ty; term = find_term f.term }

field_back : (f : Field) → find_field (field_of f) ≡ f
field_back f = ap₂ (λ t e. record { name = f.name; ty = t; term = e }) (typ_back f.ty) (term_back f.term)

abbrev find_module : defs.Module → Module
find_module m = record {
  name = m.name;
  version = record { atoms = map find_atom m.version };
  sig = find_sig m.sig;
  types = map find_typed m.types;
  fields = map find_field m.fields;
}

module_back : (m : Module) → find_module (module_of_code m) ≡ m
module_back m =
    ap (λ v. record { name = m.name; version = record { atoms = v }; sig = find_sig (sig_of m.sig); types = map find_typed (map typed_of m.types); fields = map find_field (map field_of m.fields) })
    (map_back atom_of find_atom atom_back m.version.atoms) ∙
    ap (λ s. record { name = m.name; version = m.version; sig = s; types = map find_typed (map typed_of m.types); fields = map find_field (map field_of m.fields) }) (sig_back m.sig) ∙
    ap₂ (λ ts fs. record { name = m.name; version = m.version; sig = m.sig; types = ts; fields = fs })
    (map_back typed_of find_typed typed_back m.types) (map_back field_of find_field field_back m.fields)

abbrev find_import : defs.Import → Import
find_import i = record {
  name = i.name;
  sig = find_sig i.sig;
  constraint = find_constraint i.constraint;
  like = map find_typed i.like;
  by = map find_resolve i.by;
}

import_back : (i : Import) → find_import (import_of_code i) ≡ i
import_back i =
    ap₂ (λ s c. record { name = i.name; sig = s; constraint = c; like = map find_typed (map typed_of i.like); by = map find_resolve (map resolve_of i.by) })
    (sig_back i.sig) (constraint_back i.constraint) ∙
    ap₂ (λ ts rs. record { name = i.name; sig = i.sig; constraint = i.constraint; like = ts; by = rs })
    (map_back typed_of find_typed typed_back i.like) (map_back resolve_of find_resolve resolve_back i.by)

abbrev find_def : defs.Def → code_def.Def
find_def (defs.AModule m) = code_def.Def.Module (find_module m)
find_def (defs.AnImport i) = code_def.Def.Import (find_import i)
find_def (defs.AMark t) = code_def.Def.Mark (record { 0 = t })

def_back : (d : code_def.Def) → find_def (def_of_code d) ≡ d
def_back (code_def.Def.Module m) = ap code_def.Def.Module (module_back m)
def_back (code_def.Def.Import i) = ap code_def.Def.Import (import_back i)
def_back (code_def.Def.Mark t) = refl

abbrev find_seen : defs.Seen → code_seen.Seen
find_seen defs.Own' = code_seen.Seen.Own
find_seen (defs.Shelf u) = code_seen.Seen.Shelf (record { 0 = u })
find_seen defs.Arrived = code_seen.Seen.Arrived

seen_back : (s : code_seen.Seen) → find_seen (seen_of s) ≡ s
seen_back code_seen.Seen.Own = refl
seen_back (code_seen.Seen.Shelf u) = refl
seen_back code_seen.Seen.Arrived = refl

abbrev find_name : Bytes → Name
find_name n = record { 0 = n }

name_back : (n : Name) → find_name (name_of_code n) ≡ n
name_back n = refl

abbrev find_entry : defs.Entry → Entry
find_entry e = record { def = find_def e.def; name = option_map find_name e.name; seen = find_seen e.seen; link = e.link }

entry_back : (e : Entry) → find_entry (entry_of e) ≡ e
entry_back e =
    ap₂ (λ d n. record { def = d; name = n; seen = find_seen (seen_of e.seen); link = e.link })
    (def_back e.def) (option_back name_of_code find_name name_back e.name) ∙
    ap (λ s. record { def = e.def; name = e.name; seen = s; link = e.link }) (seen_back e.seen)

-- two environments that are read as one are equal
pub environment_of-injective : (e f : Env) → environment_of e ≡ environment_of f → e ≡ f
environment_of-injective e f p =
    ap (λ es. record { entries = es }) (sym (found e) ∙ ap (map find_entry) p ∙ found f)
  where
    found : (g : Env) → map find_entry (environment_of g) ≡ g.entries
    found g = map_back entry_of find_entry entry_back g.entries

-- a definition of a packet is a module or an import; a mark is none
abbrev find_pdef : defs.Def → code_pdef.PDef
find_pdef (defs.AModule m) = code_pdef.PDef.Module (find_module m)
find_pdef (defs.AnImport i) = code_pdef.PDef.Import (find_import i)
find_pdef (defs.AMark t) = code_pdef.PDef.Import (find_import (record { name = []; sig = record { types = []; vals = [] }; constraint = Exact []; like = []; by = [] }))

pdef_back : (d : code_pdef.PDef) → find_pdef (pdef_of d) ≡ d
pdef_back (code_pdef.PDef.Module m) = ap code_pdef.PDef.Module (module_back m)
pdef_back (code_pdef.PDef.Import i) = ap code_pdef.PDef.Import (import_back i)

abbrev find_packet : defs.Packet → Packet
find_packet x = record { defs = map find_pdef x.defs; ty = back x.ty; value = find_value x.value }

packet_back : (x : Packet) → find_packet (packet_of x) ≡ x
packet_back x =
    ap₂ (λ t v. record { defs = map find_pdef (map pdef_of x.defs); ty = t; value = v }) (typ_back x.ty) (value_back x.value) ∙
    ap (λ ds. record { defs = ds; ty = x.ty; value = x.value }) (map_back pdef_of find_pdef pdef_back x.defs)

-- two packets that are read as one are equal
pub packet_of-injective : (p q : Packet) → packet_of p ≡ packet_of q → p ≡ q
packet_of-injective p q e = sym (packet_back p) ∙ ap find_packet e ∙ packet_back q
