-- A chain of two programs, computed: the first sends a sealed value, and the second receives it.
use Rattle.std.proofs.Common.{◌≡◌, refl}
use Rattle.std.specs.Int.{int_wrap}
use Rattle.std.specs.Prelude.{ℕ, pos, true, false, List, [], ◌∷◌, ◌++◌, codes, map}
use Rattle.ac_types.specs.Primitives as primitives
use Rattle.ac_types.specs.Types.{Bytes, TAbs, same_bytes}
use Rattle.ac_types.specs.Words as words
use Rattle.ac_terms.specs.Terms.{In, Expr, Str, Unit', Prim, Marshal, Unmarshal, Evaluated, exprs, Value, VInt, VSeal}
use Rattle.ac_rules.specs.Views.{Coloured}
use Rattle.ac_rules.proofs.Samples.{t, made}
use Rattle.ac_meaning.specs.Acts.{Outcome, Stuck, State, At, Over, iter, writes_of}
use Rattle.ac_meaning.specs.Packing.{packing, landing}
use Rattle.ac_meaning.specs.Reduction.{step}
use Rattle.ac_meaning.specs.Worlds.{Crossing, Made, Read, fresh}
use Rattle.ac_meaning.specs.Writes.{Channel, written}
use Rattle.ac_colours.specs.Births.{Event, Born, Gave, Took, seal, events, crossed, crossings_in}
use Rattle.ac_colours.specs.Chains.{SeparateRun, first_state, EndAs, journals_of, joined}
use Rattle.ac_colours.specs.Veils.{DifferInside}
use Rattle.ac_colours.proofs.SentExample.{long_name, cut, seals_of}

abbrev first : Expr
first = Prim primitives.send (exprs (Marshal (TAbs long_name t) (Str (codes "M")) made ∷ []))

abbrev second : Expr
second = Unmarshal (TAbs long_name t) (Prim primitives.receive (exprs (Unit' ∷ [])))

-- what the first sent is what the second reads
abbrev sent_by : State Expr Value → Bytes
sent_by (At e z) = []
sent_by (Over o) = written Channel (writes_of o)

abbrev passed : Bytes
passed = sent_by (iter (step Coloured 1) 30 (At first (fresh cut [] true)))

abbrev all : List Event
all = events 1 30 (At first (fresh cut [] true)) ++ events 1 30 (At second (fresh cut passed true))

-- the seal is born in the first, and unmarshal writes it in the second
born_and_taken : seals_of all ≡ seal (In 0) long_name t (VInt (pos 5)) ∷ seal (In 0) long_name t (VInt (pos 5)) ∷ []
unfolding int_wrap packing landing words.is_reserved
born_and_taken = refl

abbrev strings_given : List Event → List Bytes
strings_given [] = []
strings_given (Born E x ∷ rest) = strings_given rest
strings_given (Gave s ∷ rest) = s ∷ strings_given rest
strings_given (Took E s xs ∷ rest) = strings_given rest

abbrev strings_taken : List Event → List Bytes
strings_taken [] = []
strings_taken (Born E x ∷ rest) = strings_taken rest
strings_taken (Gave s ∷ rest) = strings_taken rest
strings_taken (Took E s xs ∷ rest) = s ∷ strings_taken rest

-- the string that is taken is the one that was given
it_is_native : strings_taken all ≡ strings_given all
unfolding int_wrap packing landing words.is_reserved
it_is_native = refl

abbrev front : List Bytes → Bytes
front [] = []
front (s ∷ rest) = s

-- the first program's journal has the string as made, the second's the same as read; joined they are what the events tell
abbrev the_string : Bytes
the_string = front (strings_given all)

abbrev journals : List (List Crossing)
journals = crossings_in (iter (step Coloured 1) 30 (At first (fresh cut [] true))) ∷ crossings_in (iter (step Coloured 1) 30 (At second (fresh cut passed true))) ∷ []

two_journals : journals ≡ (Made the_string ∷ []) ∷ (Read the_string ∷ []) ∷ []
unfolding int_wrap packing landing words.is_reserved
two_journals = refl

they_tell : crossed all ≡ joined journals
unfolding int_wrap packing landing words.is_reserved
they_tell = refl

-- two separate runs: the second has another budget and no channel, and its input is handed to it
abbrev apart : List SeparateRun
apart = record { program = (cut, first); steps = 1; input = []; sends = true } ∷ record { program = (cut, second); steps = 2; input = passed; sends = false } ∷ []

abbrev end_of : State Expr Value → Outcome Value
end_of (Over o) = o
end_of (At e z) = Stuck

abbrev ends : List (Outcome Value)
ends = map (λ (r : SeparateRun). end_of (iter (step Coloured r.steps) 30 (first_state r))) apart

they_end : EndAs apart ends
unfolding int_wrap packing landing words.is_reserved
they_end = (_, _, (30, refl), refl, (_, _, (30, refl), refl, refl))

their_journals : journals_of ends ≡ journals
unfolding int_wrap packing landing words.is_reserved
their_journals = refl

-- a string that is refused is read too, and no seal is written
refused : Bytes → Expr
refused s = Unmarshal (TAbs long_name t) (Str s)

a_string_is_read : (N : ℕ) → crossings_in (iter (step Coloured N) 1 (At (refused []) (fresh cut [] true))) ≡ Read [] ∷ []
unfolding refused landing
a_string_is_read N = refl

its_event : (N : ℕ) → events N 1 (At (refused []) (fresh cut [] true)) ≡ Took cut [] [] ∷ []
unfolding refused landing
its_event N = refl

-- marshal looks inside a seal: of two terms that differ only there it gives two strings
abbrev marshalled : Value → Expr
marshalled v = Marshal (TAbs long_name t) (Str (codes "M")) (Evaluated (TAbs long_name t) (VSeal (In 0) long_name t v))

differ_inside : DifferInside long_name t (marshalled (VInt (pos 5))) (marshalled (VInt (pos 6)))
differ_inside = refl

abbrev given : Value → Bytes
given v = front (strings_given (events 0 1 (At (marshalled v) (fresh cut [] false))))

strings_differ : same_bytes (given (VInt (pos 5))) (given (VInt (pos 6))) ≡ false
unfolding packing words.is_reserved
strings_differ = refl
