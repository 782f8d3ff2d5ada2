-- Definitions and packets that the examples speak of.
use Rattle.std.specs.Prelude.{ℤ, pos, true, List, [], ◌∷◌, codes}
use Rattle.ac_types.specs.Types.{Bytes, Typ, TInt, TUnit, TTuple, TFun, typs}
use Rattle.ac_types.specs.Sigs.{Atom, MyName, Ranges, HereAlready}
use Rattle.ac_terms.specs.Terms.{Main, Int, Tuple, Ref, Lam, exprs, KInt, KFun}
use Rattle.ac_terms.specs.Defs.{Module, Def, AModule, AnImport, Packet}

-- `module NAME : sig val FIELD : int end version VERSION = struct val FIELD : int = N end`
abbrev pub number_module : Bytes → Bytes → List Atom → ℤ → Module
number_module name field version n = record {
  name = name;
  version = version;
  sig = record { types = []; vals = record { name = field; ty = TInt } ∷ [] };
  types = [];
  fields = record { name = field; ty = TInt; term = Int n } ∷ [];
}

-- `module C : sig val y : int end = struct val y : int = 6 end`
abbrev pub six : Def
six = AModule (number_module (codes "C") (codes "y") (MyName ∷ []) (pos 6))

-- the packet of 5 at int
abbrev pub five_packet : Packet
five_packet = record { defs = []; ty = TInt; value = KInt (pos 5) }

-- `import M1 : sig val y : int end version * by Here_Already`
abbrev pub any_m1 : Def
any_m1 = AnImport (record {
  name = codes "M1";
  sig = record { types = []; vals = record { name = codes "y"; ty = TInt } ∷ [] };
  constraint = Ranges [] true;
  like = [];
  by = HereAlready ∷ [];
})

abbrev pub pair_type : Typ
pair_type = TFun TUnit (TTuple (typs (TInt ∷ TInt ∷ [])))

-- the packet of `fun (u : unit) -> (M1.y, M2.z)`, with the import M1 and the module M2
abbrev pub pair_packet : Packet
pair_packet = record {
  defs = any_m1 ∷ AModule (number_module (codes "M2") (codes "z") (MyName ∷ []) (pos 3)) ∷ [];
  ty = pair_type;
  value = KFun Main (Lam TUnit (Tuple (exprs (Ref 0 (codes "y") ∷ Ref 1 (codes "z") ∷ []))));
}
