-- Where a variable's type stands.
use Rattle.std.proofs.Common.{ℕ, zero, suc, ◌≡◌, ◌+◌, ◌<◌, refl, ap, ◌∙◌, arith, Bor, List, [], ◌∷◌, ◌++◌, length, map, reverse}
use Rattle.std.specs.Prelude.{option_map, slice_get}
use Rattle.std.proofs.lemmas.List.{length-map, length-reverse}
use Rattle.std.proofs.lemmas.Grind.{reverse_onto}
use Rattle.ac_types.specs.Types.{Typ}
use Rattle.ac_types.specs.ReadTypes.{typ_of}
use Rattle.ac_types.specs.declared.ty.Ty.{Ty}
use Rattle.ac_terms.proofs.EnvLaws.{slice_get-map}
use Rattle.ac_check_terms.specs.inner.Parts.{types_in, variables_step, newest_first}
use Rattle.ac_check_terms.specs.declared.scope.TypeScope.{TypeScope, out-TypeScope, map-TypeScope, fold_out-TypeScope}
use Rattle.ac_check_terms.specs.declared.scope.TypeScope.TheOpen.{TypeScope-F}
use Rattle.ac_check_terms.specs.declared.scope.TypeScope.TheVariants as vars

types_out : (s : TypeScope) → types_in s ≡ variables_step (map-TypeScope TypeScope (List Typ) types_in (out-TypeScope s))
unfolding types_in
types_out s = fold_out-TypeScope (List Typ) variables_step s

abbrev layer : TypeScope-F TypeScope → List Typ
layer x = variables_step (map-TypeScope TypeScope (List Typ) types_in x)

pub types_in-Given : (ts : Bor (List Ty)) → types_in (vars.Given ts) ≡ map typ_of ts.now
types_in-Given ts = types_out (vars.Given ts) ∙ ap layer (vars.outs-Given ts)

pub types_in-One : (outer : Bor TypeScope) (t : Bor Ty) → types_in (vars.One outer t) ≡ typ_of t.now ∷ types_in outer.now
types_in-One outer t = types_out (vars.One outer t) ∙ ap layer (vars.outs-One outer t)

pub types_in-More : (outer : Bor TypeScope) (ts : Bor (List Ty)) → types_in (vars.More outer ts) ≡ newest_first ts.now ++ types_in outer.now
types_in-More outer ts = types_out (vars.More outer ts) ∙ ap layer (vars.outs-More outer ts)

-- an item of two lists, one after the other
in_front : {A : Type 0} (xs ys : List A) (i : ℕ) → i < length xs → slice_get (xs ++ ys) i ≡ slice_get xs i
in_front [] ys i h = absurd (omega arith)
in_front (x ∷ xs) ys zero h = refl
in_front (x ∷ xs) ys (suc i) h = in_front xs ys i (omega arith)

behind : {A : Type 0} (xs ys : List A) (i j : ℕ) → i ≡ length xs + j → slice_get (xs ++ ys) i ≡ slice_get ys j
behind [] ys i j h = let e : i ≡ j = omega arith in ap (slice_get ys) e
behind (x ∷ xs) ys zero j h = absurd (omega arith)
behind (x ∷ xs) ys (suc i) j h = behind xs ys i j (omega arith)

-- an item from the end
from_end : {A : Type 0} (xs : List A) (i j : ℕ) → i + j + 1 ≡ length xs → slice_get (reverse xs) i ≡ slice_get xs j
from_end [] i j h = absurd (omega arith)
from_end (x ∷ xs) i zero h = rw (reverse_onto xs x []) (behind (reverse xs) (x ∷ []) i 0 (omega (arith, length-reverse xs)))
from_end (x ∷ xs) i (suc j) h = rw (reverse_onto xs x []) (in_front (reverse xs) (x ∷ []) i (omega (arith, length-reverse xs)) ∙ from_end xs i j (omega arith))

pub newest_found : (ts : List Ty) (G : List Typ) (i j : ℕ) → i + j + 1 ≡ length ts → slice_get (newest_first ts ++ G) i ≡ option_map typ_of (slice_get ts j)
newest_found ts G i j h =
    in_front (newest_first ts) G i (omega (arith, length-reverse (map typ_of ts), length-map ts typ_of))
    ∙ from_end (map typ_of ts) i j (omega (arith, length-map ts typ_of))
    ∙ slice_get-map typ_of ts j

pub outer_found : (ts : List Ty) (G : List Typ) (i j : ℕ) → i ≡ length ts + j → slice_get (newest_first ts ++ G) i ≡ slice_get G j
outer_found ts G i j h = behind (newest_first ts) G i j (omega (arith, length-reverse (map typ_of ts), length-map ts typ_of))

pub ruleset scope_laws = (types_in-Given, types_in-One, types_in-More, slice_get-map)
