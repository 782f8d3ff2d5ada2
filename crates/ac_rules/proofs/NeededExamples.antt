-- What a packet needs, computed.
use Rattle.std.proofs.Common.{◌≡◌, refl}
use Rattle.std.specs.Prelude.{pos, [], ◌∷◌, ◌++◌, Some, None, codes}
use Rattle.ac_types.specs.Types.{TUnit}
use Rattle.ac_types.specs.Sigs.{Exact, HereAlready, Uri}
use Rattle.ac_terms.specs.Terms.{Main, Tuple, Ref, Lam, Prim, exprs, KInt, KFun, VLam}
use Rattle.ac_terms.specs.Defs.{AModule, AnImport, Shelf}
use Rattle.ac_terms.proofs.Samples.{pair_type, pair_packet}
use Rattle.ac_rules.specs.Plain.{PlainValue}
use Rattle.ac_rules.specs.Needed.{mark_at, needed_by, roots_of, packet_form, packet_for}
use Rattle.ac_rules.proofs.Samples.{c_name, c_t, abstract_sig, abstract_module, one_entry, sender}

-- the packet of `fun (u : unit) -> (M1.y, M2.z)` needs the import M1, though not the module that it is linked to, and M2
pub plain_pair :
    PlainValue sender Main (VLam TUnit (Tuple (exprs (Ref 1 (codes "y") ∷ Ref 3 (codes "z") ∷ [])))) pair_type
    (KFun Main (Lam TUnit (Tuple (exprs (Ref 1 (codes "y") ∷ Ref 3 (codes "z") ∷ [])))))
plain_pair = refl

pub the_mark : mark_at sender (codes "MK") ≡ Some 2
the_mark = refl

pub the_packet : packet_for sender 2 pair_type (KFun Main (Lam TUnit (Tuple (exprs (Ref 1 (codes "y") ∷ Ref 3 (codes "z") ∷ []))))) ≡ pair_packet
the_packet = refl

-- a module before the mark is cut, one behind it is whole, and a mentioned name is needed
pub needs_the_name : needed_by (one_entry ++ sender) 3 (roots_of (one_entry ++ sender) c_t (KInt (pos 5))) ≡ 0 ∷ []
needs_the_name = refl

pub cut_before_the_mark :
    packet_form 1 0 (record { def = AModule abstract_module; name = Some c_name; seen = Shelf (codes "lib:c"); link = None }) ≡
    AnImport (record { name = codes "C"; sig = abstract_sig; constraint = Exact c_name; like = []; by = HereAlready ∷ Uri (codes "lib:c") ∷ [] })
cut_before_the_mark = refl
