-- Modules, imports and environments that the examples speak of.
use Rattle.std.specs.Prelude.{pos, false, [], ◌∷◌, None, Some, codes}
use Rattle.ac_types.specs.Primitives as primitives
use Rattle.ac_types.specs.Types.{Bytes, Typ, TInt, TFun, TAbs, TMine}
use Rattle.ac_types.specs.Sigs.{Signature, Number, MyName, One, From, Ranges, HereAlready, Uri}
use Rattle.ac_terms.specs.Terms.{Expr, Int, Var, Own, Ref, Lam, App, Prim, exprs}
use Rattle.ac_terms.specs.Defs.{Environment, Module, Import, AModule, AMark, Own'}
use Rattle.ac_terms.proofs.Samples.{number_module, any_m1}

-- a module with an abstract type: `type t val make : int -> t val get : t -> int`, t being int
abbrev pub c_name : Bytes
c_name = codes "c"

abbrev pub t : Bytes
t = codes "t"

abbrev pub c_t : Typ
c_t = TAbs c_name t

abbrev pub abstract_sig : Signature
abstract_sig = record {
  types = record { name = t; manifest = None } ∷ [];
  vals = record { name = codes "make"; ty = TFun TInt (TMine t) } ∷ record { name = codes "get"; ty = TFun (TMine t) TInt } ∷ [];
}

abbrev pub abstract_module : Module
abstract_module = record {
  name = codes "C";
  version = Number 1 ∷ Number 3 ∷ [];
  sig = abstract_sig;
  types = record { name = t; ty = TInt } ∷ [];
  fields =
      record { name = codes "make"; ty = TFun TInt TInt; term = Lam TInt (Prim primitives.add (exprs (Var 0 ∷ Int (pos 1) ∷ []))) } ∷
      record { name = codes "get"; ty = TFun TInt TInt; term = Lam TInt (App (Own 0) (Var 0)) } ∷ [];
}

abbrev pub one_entry : Environment
one_entry = record { def = AModule abstract_module; name = Some c_name; seen = Own'; link = None } ∷ []

abbrev pub made : Expr
made = App (Ref 0 (codes "make")) (Int (pos 4))

-- `import C : (its signature) version 1.2- like struct type t = int end by "lib:c", Here_Already`
abbrev pub wanted : Import
wanted = record {
  name = codes "C";
  sig = abstract_sig;
  constraint = Ranges (One 1 ∷ From 2 ∷ []) false;
  like = record { name = t; ty = TInt } ∷ [];
  by = Uri (codes "lib:c") ∷ HereAlready ∷ [];
}

-- M1, an import linked to it, a mark, and M2
abbrev pub sender : Environment
sender =
    record { def = AModule (number_module (codes "M1") (codes "y") (Number 1 ∷ []) (pos 6)); name = Some (codes "m1"); seen = Own'; link = None } ∷
    record { def = any_m1; name = Some (codes "i1"); seen = Own'; link = Some 0 } ∷
    record { def = AMark (codes "MK"); name = None; seen = Own'; link = None } ∷
    record { def = AModule (number_module (codes "M2") (codes "z") (MyName ∷ []) (pos 3)); name = Some (codes "m2"); seen = Own'; link = None } ∷ []
