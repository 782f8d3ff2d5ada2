-- Listings, computed.
use Rattle.std.proofs.Common.{◌≡◌, refl, [], ◌∷◌, None}
use Rattle.std.specs.Prelude.{pos, codes}
use Rattle.std.specs.Fmt.{digits}
use Rattle.ac_types.specs.Types.{TInt, TBool, TStr, TTuple, TList, TOpt, TFun, typs}
use Rattle.ac_types.specs.Exceptions as exceptions
use Rattle.ac_types.specs.Primitives as primitives
use Rattle.ac_terms.specs.Terms.{Main, In, PWild, PVar, PStr, PTuple, PCons, PPresent, PExnOf, patterns}
use Rattle.ac_code.specs.Code.{PushInt, Test, Prim, Stop, Return, Own}
use Rattle.acute_listings.specs.Listing.{type_shown, instr_shown, listing_of}

-- the blocks of `IO.print_int (3 + 4)`
pub sum_printed : listing_of (record {
  blocks = record { home = Main; lambda = None; context = []; instrs = PushInt (pos 3) ∷ PushInt (pos 4) ∷ Prim primitives.add ∷ Prim primitives.print_int ∷ Stop ∷ [] } ∷ [];
  fields = [];
}) ≡ codes "block 0 main\n0 PushInt 3\n1 PushInt 4\n2 Prim add\n3 Prim print_int\n4 Stop\n"
unfolding digits
sum_printed = refl

-- a block of an entry behind it
pub of_an_entry : listing_of (record {
  blocks = record { home = Main; lambda = None; context = []; instrs = Stop ∷ [] } ∷ record { home = In 2; lambda = None; context = []; instrs = Own 1 ∷ Return ∷ [] } ∷ [];
  fields = [];
}) ≡ codes "block 0 main\n0 Stop\nblock 1 entry 2\n0 Own 1\n1 Return\n"
unfolding digits
of_an_entry = refl

pub types_apart : type_shown (TFun (TTuple (typs (TInt ∷ TStr ∷ []))) (TOpt (TList TBool))) ≡ codes "((int * string) -> ((bool list) option))"
types_apart = refl

pub a_pattern : instr_shown (Test (PTuple (patterns (PVar TInt ∷ PCons PWild (PPresent (PStr (codes "a"))) ∷ PExnOf exceptions.failure PWild ∷ []))) 12) ≡ codes "Test ((int), (_ :: (Some \"a\")), (Failure _)) 12"
unfolding digits
a_pattern = refl
