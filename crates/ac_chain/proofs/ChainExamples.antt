-- Worked examples of chains.
use Rattle.std.proofs.Common.{◌≡◌, refl, true, false, List, [], ◌∷◌, ◌++◌, Some, None}
use Rattle.std.specs.Prelude.{codes}
use Rattle.std.specs.Fmt.{digits}
use Rattle.ac_types.specs.Types.{Bytes}
use Rattle.ac_types.specs.Primitives as primitives
use Rattle.ac_terms.specs.Terms.{Expr, Str, Unit', Prim, no_exprs, expr, Value, VUnit}
use Rattle.ac_terms.specs.Defs.{Environment, Entry, AModule, AMark, Own'}
use Rattle.ac_rules.specs.Views.{Mode}
use Rattle.ac_outside.specs.Frames.{frame_of}
use Rattle.ac_meaning.specs.Worlds.{Made, Read, fresh, done_by}
use Rattle.ac_meaning.specs.Writes.{Print, Send}
use Rattle.ac_meaning.specs.Acts.{Outcome, Returned}
use Rattle.ac_colours.specs.Chains.{Programs}
use Rattle.ac_run.specs.declared.end.RunEnd.TheVariants as end
use Rattle.ac_chain.specs.declared.chained.ChainFault.TheVariants.{Clash}
use Rattle.ac_chain.specs.Natives.{natives}
use Rattle.ac_chain.specs.Clashes.{first_program_clash}
use Rattle.ac_chain.specs.ChainMeaning.{RunInTurn, console_of}
use Rattle.ac_chain.specs.StringLines.{end_line, native_line}

-- a string is native where it was made before it is read, in front of the journal or in it
in_order : natives [] (Made (codes "a") ∷ Read (codes "a") ∷ Read (codes "b") ∷ Made (codes "b") ∷ Read (codes "b") ∷ []) ≡ true ∷ false ∷ true ∷ []
in_order = refl

made_earlier : natives (codes "a" ∷ []) (Read (codes "a") ∷ Read (codes "b") ∷ []) ≡ true ∷ false ∷ []
made_earlier = refl

-- an empty module of this external name, which keeps that name
module_kept : Bytes → Bytes → Entry
module_kept external name =
    record { def = AModule (record { name = external; version = []; sig = record { types = []; vals = [] }; types = []; fields = [] }); name = Some name; seen = Own'; link = None }

a_mark : Entry
a_mark = record { def = AMark (codes "m"); name = None; seen = Own'; link = None }

-- the entries of one name with two texts are those of the first and of the third program
with_entries : List Environment → Programs
with_entries [] = []
with_entries (E ∷ Es) = (E, Unit') ∷ with_entries Es

apart : first_program_clash 0 (with_entries ((a_mark ∷ module_kept (codes "A") (codes "n") ∷ []) ∷ (module_kept (codes "A") (codes "n") ∷ []) ∷ (module_kept (codes "B") (codes "k") ∷ module_kept (codes "B") (codes "n") ∷ []) ∷ [])) ≡ Some (Clash 0 1 2 1)
unfolding module_kept with_entries a_mark
apart = refl

-- equal texts of one name, and other names, are no clash
no_clash : first_program_clash 0 (with_entries ((module_kept (codes "A") (codes "n") ∷ []) ∷ (module_kept (codes "B") (codes "k") ∷ module_kept (codes "A") (codes "n") ∷ []) ∷ [])) ≡ None
unfolding module_kept with_entries
no_clash = refl

-- a program that sends a string, and one that prints what it receives
sender : Expr
sender = Prim primitives.send (expr (Str (codes "A")) no_exprs)

receiver : Expr
receiver = Prim primitives.print_string (expr (Prim primitives.receive (expr Unit' no_exprs)) no_exprs)

sent : Outcome Value
sent = Returned VUnit (record (fresh [] [] true) { writes = Send (codes "A") ∷ []; before_writes = done_by (fresh [] [] true) ∷ [] })

shown : Outcome Value
shown = Returned VUnit (record (fresh [] [] true) { writes = Print (codes "A") ∷ []; before_writes = done_by (fresh [] [] true) ∷ []; receives = done_by (fresh [] [] true) ∷ [] })

received : (mode : Mode) → RunInTurn mode 0 true (([], sender) ∷ ([], receiver) ∷ []) [] (sent ∷ shown ∷ [])
unfolding sender receiver sent shown
received mode = (record { input = []; is_input = λ t. refl; ends = (2, refl) }, (record { input = frame_of (codes "A"); is_input = λ t. refl; ends = (3, refl) }, tt))

printed : console_of (sent ∷ shown ∷ []) ≡ codes "A"
unfolding sent shown
printed = refl

-- the lines of a program
spent_line : end_line 2 (end.Spent 7) ≡ codes "program 2: status 3\n"
unfolding digits
spent_line = refl

told : native_line true ++ native_line false ≡ codes "native\nforeign\n"
told = refl
