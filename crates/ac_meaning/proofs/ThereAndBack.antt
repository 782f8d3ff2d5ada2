-- A number is marshalled and unmarshalled again, in both reductions.
use Rattle.std.proofs.Common.{◌≡◌, refl}
use Rattle.std.specs.Prelude.{pos, false, [], ◌∷◌, None, codes}
use Rattle.ac_types.specs.Types.{Bytes, Typ, TInt, TStr, TFun}
use Rattle.ac_terms.specs.Terms.{Main, Expr, Int, Str, Var, Lam, App, Marshal, Unmarshal, KInt, KFun, VInt}
use Rattle.ac_terms.specs.Defs.{Environment, AMark, Own'}
use Rattle.ac_rules.specs.Views.{Mode, Plain, Coloured}
use Rattle.ac_meaning.specs.Worlds.{fresh, Made, Read, World, with_crossing}
use Rattle.ac_meaning.specs.Acts.{Returned, Raised, At, Over, iter}
use Rattle.ac_meaning.specs.Reduction.{step}
use Rattle.ac_meaning.specs.BareTerms.{bare_term, WInt}
use Rattle.ac_meaning.specs.BareReduction as b
use Rattle.ac_meaning.specs.ReadBack.{Marshals}
use Rattle.ac_meaning.specs.Packing.{Packing, CannotPack, Packs, packing, landing, unmarshal_failure_exn}

-- the mark M, and nothing else
abbrev marked : Environment
marked = record { def = AMark (codes "M"); name = None; seen = Own'; link = None } ∷ []

-- `unmarshal (marshal "M" (7 : int)) as int`
abbrev seven : Expr
seven = Unmarshal TInt (Marshal TInt (Str (codes "M")) (Int (pos 7)))

-- the string of the 7
abbrev sent : Packing → Bytes
sent (CannotPack x) = []
sent (Packs s) = s

seven_sent : Bytes
seven_sent = sent (packing (fresh marked [] false) TInt (codes "M") (KInt (pos 7)))

-- marshal is next in it, and gives the string
marshals_seven : (mode : Mode) → Marshals mode (fresh marked [] false) seven TInt seven_sent
unfolding packing seven_sent
marshals_seven mode = record { home = Main; mark = Str (codes "M"); packed = Int (pos 7); is_next = refl; gives = refl }

-- with this string given, and then read
abbrev crossed : Bytes → World
crossed s = with_crossing (Read s) (with_crossing (Made s) (fresh marked [] false))

there_and_back : (mode : Mode) → iter (step mode 0) 3 (At seven (fresh marked [] false)) ≡ Over (Returned (VInt (pos 7)) (crossed seven_sent))
unfolding packing landing seven_sent
there_and_back mode = refl

bare_there_and_back : iter (b.step 0) 3 (At (bare_term Main seven) (fresh marked [] false)) ≡ Over (Returned (WInt (pos 7)) (crossed seven_sent))
unfolding packing landing seven_sent
bare_there_and_back = refl

-- at another type it is refused, and read all the same: a step more raises
refused : (mode : Mode) → iter (step mode 0) 3 (At (Unmarshal TStr (Marshal TInt (Str (codes "M")) (Int (pos 7)))) (fresh marked [] false)) ≡ Over (Raised (unmarshal_failure_exn (codes "type")) (crossed seven_sent))
unfolding packing landing seven_sent
refused mode = refl

-- `(unmarshal (marshal "M" (fun (x : int) -> x) : int -> int) as int -> int) 7`: a function travels and is applied, once
abbrev ints : Typ
ints = TFun TInt TInt

abbrev applied : Expr
applied = App (Unmarshal ints (Marshal ints (Str (codes "M")) (Lam TInt (Var 0)))) (Int (pos 7))

function_sent : Bytes
function_sent = sent (packing (fresh marked [] false) ints (codes "M") (KFun Main (Lam TInt (Var 0))))

function_travels : (mode : Mode) → iter (step mode 1) 20 (At applied (fresh marked [] false)) ≡ Over (Returned (VInt (pos 7)) (record (crossed function_sent) { made = 1 }))
unfolding packing landing function_sent
function_travels Coloured = refl
function_travels Plain = refl
