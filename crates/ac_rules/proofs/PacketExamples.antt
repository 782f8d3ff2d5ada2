-- Packets: one refused for each cause, in the order of the causes, and accepted ones, computed.
use Rattle.std.proofs.Common.{◌≡◌, refl}
use Rattle.std.specs.Prelude.{ℤ, pos, true, List, [], ◌∷◌, ◌++◌, Some, None, codes, replicate, unwrap_or}
use Rattle.ac_types.specs.Primitives as primitives
use Rattle.ac_types.specs.Types.{Bytes, Typ, TInt, TBool, TUnit, TTuple, TFun, TAbs, typs}
use Rattle.ac_types.specs.Sigs.{Number, MyName}
use Rattle.ac_terms.specs.Terms.{Main, Int, Tuple, Var, Own, Ref, Lam, Prim, exprs, KInt, KBool, KFun}
use Rattle.ac_terms.specs.Defs.{Environment, Packet, Entry, Module, Def, AModule, AMark, Own'}
use Rattle.ac_terms.proofs.Samples.{number_module, pair_type, pair_packet}
use Rattle.ac_terms.specs.Names.{name_by}
use Rattle.ac_rules.specs.Needed.{packet_for}
use Rattle.ac_rules.specs.Packets.{places, cause, too_many, value_there, Definition, Clash, Full, Unresolved, WrongType, NoValue}
use Rattle.ac_rules.proofs.Samples.{t, abstract_module, sender}

abbrev number_def : ℤ → Def
number_def n = AModule (number_module (codes "M") (codes "y") (MyName ∷ []) n)

abbrev reading_itself : Def
reading_itself = AModule (record (number_module (codes "M") (codes "y") (MyName ∷ []) (pos 1)) { fields = record { name = codes "y"; ty = TInt; term = Own 0 } ∷ [] })

abbrev of_int : List Def → Packet
of_int ds = record { defs = ds; ty = TInt; value = KInt (pos 5) }

-- the digest is the text itself, or the same for all
abbrev itself : Bytes → Bytes
itself b = b

abbrev always : Bytes → Bytes
always b = []

pub ill_formed_definition : cause itself [] (of_int (number_def (pos 1) ∷ reading_itself ∷ [])) TInt ≡ Some (Definition 1)
ill_formed_definition = refl

abbrev number_entry : Bytes → Environment
number_entry n = record { def = number_def (pos 1); name = Some n; seen = Own'; link = None } ∷ []

pub a_clash_with_an_entry : cause always (number_entry []) (of_int (number_def (pos 1) ∷ number_def (pos 2) ∷ [])) TInt ≡ Some (Clash 1 0)
a_clash_with_an_entry = refl

pub a_clash_in_the_packet : cause always [] (of_int (number_def (pos 1) ∷ number_def (pos 2) ∷ [])) TInt ≡ Some (Clash 1 0)
a_clash_in_the_packet = refl

abbrev a_mark : Entry
a_mark = record { def = AMark (codes "MK"); name = None; seen = Own'; link = None }

pub one_entry_too_many : too_many itself (replicate 65535 a_mark) (number_def (pos 1) ∷ []) ≡ Some (Full 65536)
one_entry_too_many = refl

pub no_link : cause itself [] pair_packet (TFun TUnit (TTuple (typs (TInt ∷ TInt ∷ [])))) ≡ Some (Unresolved 0)
no_link = refl

pub another_type : cause itself [] (of_int []) TBool ≡ Some WrongType
another_type = refl

pub no_integer : cause itself [] (record (of_int []) { value = KBool true }) TInt ≡ Some NoValue
no_integer = refl

abbrev m1_entry : Environment
m1_entry = record { def = AModule (number_module (codes "M1") (codes "y") (Number 2 ∷ []) (pos 7)); name = Some (codes "m"); seen = Own'; link = None } ∷ []

pub accepted : cause itself m1_entry pair_packet (TFun TUnit (TTuple (typs (TInt ∷ TInt ∷ [])))) ≡ None
accepted = refl

-- the import is new, since its link is, and M2 is new; the value speaks of entries 1 and 2
pub accepted_value :
    value_there itself m1_entry pair_packet ≡ KFun Main (Lam TUnit (Tuple (exprs (Ref 1 (codes "y") ∷ Ref 2 (codes "z") ∷ []))))
accepted_value = refl

-- in the environment that sent it, the packet is accepted, adds nothing, and gives the value back
pub sent_to_itself : cause itself sender pair_packet pair_type ≡ None
sent_to_itself = refl

pub nothing_new : (places itself sender pair_packet.defs).0 ≡ sender
nothing_new = refl

pub the_value_again : value_there itself sender pair_packet ≡ KFun Main (Lam TUnit (Tuple (exprs (Ref 1 (codes "y") ∷ Ref 3 (codes "z") ∷ []))))
the_value_again = refl

-- an abstract value between programs whose modules differ in one number
abbrev under_its_name : Module → Environment
under_its_name m = record { def = AModule m; name = name_by itself [] (AModule m); seen = Own'; link = None } ∷ []

abbrev with_mark : Environment → Environment
with_mark E = record { def = AMark (codes "MK"); name = None; seen = Own'; link = None } ∷ E

abbrev adds : ℤ → Module
adds n = record abstract_module {
  fields =
      record { name = codes "make"; ty = TFun TInt TInt; term = Lam TInt (Prim primitives.add (exprs (Var 0 ∷ Int n ∷ []))) } ∷
      record { name = codes "get"; ty = TFun TInt TInt; term = Lam TInt (Var 0) } ∷ [];
}

abbrev type_of_adds : ℤ → Typ
type_of_adds n = TAbs (unwrap_or (name_by itself [] (AModule (adds n))) []) t

-- the module travels whole behind the mark, and cut before it
abbrev whole_packet : Packet
whole_packet = packet_for (with_mark (under_its_name (adds (pos 1)))) 0 (type_of_adds (pos 1)) (KInt (pos 5))

abbrev cut_packet : Packet
cut_packet = packet_for (under_its_name (adds (pos 1)) ++ with_mark []) 1 (type_of_adds (pos 1)) (KInt (pos 5))

pub to_the_same_module : cause itself (under_its_name (adds (pos 1))) whole_packet (type_of_adds (pos 1)) ≡ None
to_the_same_module = refl

pub to_another_module : cause itself (under_its_name (adds (pos 2))) whole_packet (type_of_adds (pos 2)) ≡ Some WrongType
to_another_module = refl

pub cut_to_the_same_module : cause itself (under_its_name (adds (pos 1))) cut_packet (type_of_adds (pos 1)) ≡ None
cut_to_the_same_module = refl

pub cut_to_another_module : cause itself (under_its_name (adds (pos 2))) cut_packet (type_of_adds (pos 2)) ≡ Some (Unresolved 0)
cut_to_another_module = refl
