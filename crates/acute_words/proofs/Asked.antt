-- What is asked for, by the values that were given.
use Rattle.std.proofs.Common.{◌≡◌, refl, codes, Bool, List, Option}
use Rattle.std.specs.Prelude.{is_some}
use Rattle.acute_words.specs.Form.{Given, Text}
use Rattle.acute_words.specs.WordValues.{all_in, first_in}
use Rattle.acute_words.specs.Commands.{ProgramFiles, audit_by, audit_of, chain_by, chain_of, check_by, check_of, make_by, make_of, pipe_by, pipe_of, program_by, program_of, run_by, run_of}

pub run_is : (g : Given) (p : Option ProgramFiles) (steps from to : Option Text) → p ≡ program_of g → steps ≡ first_in (codes "steps") g
    → from ≡ first_in (codes "in") g → to ≡ first_in (codes "out") g → run_by p steps from to ≡ run_of g
run_is g p steps from to p_is steps_is from_is to_is = rw (p_is, steps_is, from_is, to_is) refl

pub make_is : (g : Given) (seed modules : Option Text) (runs : Bool) → seed ≡ first_in (codes "SEED") g → modules ≡ first_in (codes "MODULES") g
    → runs ≡ is_some (all_in (codes "run") g) → make_by seed modules runs ≡ make_of g
make_is g seed modules runs seed_is modules_is runs_is = rw (seed_is, modules_is, runs_is) refl

pub check_is : (g : Given) (files : Option (List Text)) (shelf : Option Text) → files ≡ all_in (codes "FILE") g → shelf ≡ first_in (codes "shelf") g
    → check_by files shelf ≡ check_of g
check_is g files shelf files_is shelf_is = rw (files_is, shelf_is) refl

pub chain_is : (g : Given) (files : Option (List Text)) (shelf steps : Option Text) → files ≡ all_in (codes "FILE") g → shelf ≡ first_in (codes "shelf") g
    → steps ≡ first_in (codes "steps") g → chain_by files shelf steps ≡ chain_of g
chain_is g files shelf steps files_is shelf_is steps_is = rw (files_is, shelf_is, steps_is) refl

pub audit_is : (g : Given) (p : Option ProgramFiles) (file shelf channel type : Option Text) → p ≡ program_by file shelf → file ≡ first_in (codes "PROGRAM") g → shelf ≡ first_in (codes "shelf") g
    → channel ≡ first_in (codes "CHANNEL") g → type ≡ first_in (codes "as") g → audit_by p channel type ≡ audit_of g
audit_is g p file shelf channel type p_is file_is shelf_is channel_is type_is = rw (p_is, file_is, shelf_is, channel_is, type_is) refl

pub pipe_is : (g : Given) (tool sender : Option Text) (p : Option ProgramFiles) (file shelf written : Option Text) → tool ≡ first_in (codes "TOOL") g → sender ≡ first_in (codes "A") g → p ≡ program_by file shelf → file ≡ first_in (codes "B") g → shelf ≡ first_in (codes "shelf") g
    → written ≡ first_in (codes "steps") g → pipe_by tool sender p written ≡ pipe_of g
pipe_is g tool sender p file shelf written tool_is sender_is p_is file_is shelf_is written_is = rw (tool_is, sender_is, p_is, file_is, shelf_is, written_is) refl
