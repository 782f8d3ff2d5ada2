-- Links: what an import is linked to, and each fault in the order of the conditions, computed.
use Rattle.std.proofs.Common.{◌≡◌, refl}
use Rattle.std.specs.Prelude.{true, [], ◌∷◌, ◌++◌, Some, None, codes}
use Rattle.ac_types.specs.Types.{TInt, TStr}
use Rattle.ac_types.specs.Sigs.{One, Ranges, Exact, StaticLink}
use Rattle.ac_terms.specs.Terms.{Prim}
use Rattle.ac_terms.specs.Defs.{Environment, Module, Import, AModule, Own', Arrived}
use Rattle.ac_rules.specs.Links.{link_fault, linked, NoModule, External, Version, Spec, Like, Name, AtLoad, InPacket}
use Rattle.ac_rules.proofs.Samples.{c_name, t, abstract_sig, abstract_module, one_entry, wanted}

pub may_link : link_fault one_entry wanted 0 ≡ None
may_link = refl

pub by_what_is_there : linked one_entry wanted AtLoad ≡ Some 0
by_what_is_there = refl

pub nothing_is_static_in_a_packet : linked one_entry (record wanted { by = StaticLink ∷ [] }) InPacket ≡ None
nothing_is_static_in_a_packet = refl

abbrev arrived_entry : Environment
arrived_entry = record { def = AModule abstract_module; name = Some c_name; seen = Arrived; link = None } ∷ []

pub no_arrived_by_version : linked arrived_entry wanted InPacket ≡ None
no_arrived_by_version = refl

pub arrived_by_name : linked arrived_entry (record wanted { constraint = Exact c_name; like = [] }) InPacket ≡ Some 0
arrived_by_name = refl

pub no_module : link_fault one_entry wanted 1 ≡ Some NoModule
no_module = refl

pub other_external_name : link_fault one_entry (record wanted { name = codes "D" }) 0 ≡ Some External
other_external_name = refl

pub other_version : link_fault one_entry (record wanted { constraint = Ranges (One 2 ∷ []) true }) 0 ≡ Some Version
other_version = refl

pub other_value : link_fault one_entry (record wanted { sig = record { types = []; vals = record { name = codes "get"; ty = TInt } ∷ [] } }) 0 ≡ Some (Spec 0)
other_value = refl

pub other_like : link_fault one_entry (record wanted { like = record { name = t; ty = TStr } ∷ [] }) 0 ≡ Some (Like 0)
other_like = refl

pub other_name : link_fault one_entry (record wanted { constraint = Exact (codes "d"); like = [] }) 0 ≡ Some Name
other_name = refl

-- by version a type that is manifest in the module serves for the import's abstract type, by exact name it doesn't
abbrev manifest_module : Module
manifest_module = record abstract_module { sig = record abstract_sig { types = record { name = t; manifest = Some TInt } ∷ [] } }

abbrev manifest_entry : Environment
manifest_entry = record { def = AModule manifest_module; name = Some c_name; seen = Own'; link = None } ∷ []

abbrev get_int : Import
get_int = record wanted { sig = record { types = record { name = t; manifest = None } ∷ []; vals = [] } }

pub manifest_by_version : link_fault manifest_entry get_int 0 ≡ None
manifest_by_version = refl

pub no_manifest_by_name : link_fault manifest_entry (record get_int { constraint = Exact c_name; like = [] }) 0 ≡ Some (Spec 0)
no_manifest_by_name = refl

-- the latest module that passes is taken
pub the_latest : linked (one_entry ++ one_entry) wanted AtLoad ≡ Some 1
the_latest = refl
