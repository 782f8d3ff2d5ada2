-- The channels that words give aren't one file.
use Rattle.std.proofs.Common.{◌≡◌, ℕ, Bool, true, false, List, [], ◌∷◌, Option, Some, None, codes, refl, subst}
use Rattle.std.specs.Prelude.{is_some, option_and_then, option_map, if◌then◌else◌}
use Rattle.std.specs.Str.{bytes_eq}
use Rattle.acute_words.specs.Form.{Text, Given, given_of}
use Rattle.acute_words.specs.WordValues.{all_in, first_in}
use Rattle.acute_words.specs.Commands.{ChannelName, ProgramFiles, Request, run, names, code, are_one, run_with, run_of, names_of, code_of, make_with, make_of, check_with, check_of, chain_with, chain_of, audit_with, audit_of, pipe_with, pipe_of, file_in, program_by, program_of, run_form, program_form, make_form, check_form, chain_form, audit_form, pipe_form, steps_in, channel_in, seed_in, modules_in, shelf_in, files_in, command_of}
use Rattle.acute_top.specs.inner.Apart.{IsApart}

abbrev AreApart : Option Request → Type 0
AreApart None = Unit {0}
AreApart (Some r) = IsApart r

unless : (b : Bool) (r : Request) → (b ≡ false → IsApart r) → AreApart (if b then None else Some r)
unless true r h = tt
unless false r h = h refl

if_so : (b : Bool) (o r : Option Request) → AreApart o → AreApart r → AreApart (if b then o else r)
if_so true o r h k = h
if_so false o r h k = k

with_all : (p : Option ProgramFiles) (steps : Option ℕ) (from to : Option (Option ChannelName)) → AreApart (run_with p steps from to)
with_all None steps from to = tt
with_all (Some p) None from to = tt
with_all (Some p) (Some n) None to = tt
with_all (Some p) (Some n) (Some f) None = tt
with_all (Some p) (Some n) (Some f) (Some t) = unless (are_one f t) (run p n f t) (λ e. e)

given_run : (g : Option Given) → AreApart (option_and_then run_of g)
given_run None = tt
given_run (Some g) = with_all (program_of g) (steps_in (first_in (codes "steps") g)) (channel_in (first_in (codes "in") g)) (channel_in (first_in (codes "out") g))

a_names : (p : Option ProgramFiles) → AreApart (option_map names p)
a_names None = tt
a_names (Some p) = tt

a_code : (p : Option ProgramFiles) → AreApart (option_map code p)
a_code None = tt
a_code (Some p) = tt

given_names : (g : Option Given) → AreApart (option_and_then names_of g)
given_names None = tt
given_names (Some g) = a_names (program_of g)

given_code : (g : Option Given) → AreApart (option_and_then code_of g)
given_code None = tt
given_code (Some g) = a_code (program_of g)

a_make : (runs : Bool) (seed modules : Option ℕ) → AreApart (make_with runs seed modules)
a_make runs None modules = tt
a_make runs (Some s) None = tt
a_make runs (Some s) (Some m) = tt

a_check : (files : Option (List Text)) (shelf : Option (Option Text)) → AreApart (check_with files shelf)
a_check None shelf = tt
a_check (Some files) None = tt
a_check (Some files) (Some s) = tt

a_chain : (files : Option (List Text)) (shelf : Option (Option Text)) (steps : Option ℕ) → AreApart (chain_with files shelf steps)
a_chain None shelf steps = tt
a_chain (Some files) None steps = tt
a_chain (Some files) (Some s) None = tt
a_chain (Some files) (Some s) (Some n) = tt

a_audit : (p : Option ProgramFiles) (channel type : Option Text) → AreApart (audit_with p channel type)
a_audit None channel type = tt
a_audit (Some p) None type = tt
a_audit (Some p) (Some c) None = tt
a_audit (Some p) (Some c) (Some t) = tt

given_make : (g : Option Given) → AreApart (option_and_then make_of g)
given_make None = tt
given_make (Some g) = a_make (is_some (all_in (codes "run") g)) (option_and_then seed_in (first_in (codes "SEED") g)) (option_and_then modules_in (first_in (codes "MODULES") g))

given_check : (g : Option Given) → AreApart (option_and_then check_of g)
given_check None = tt
given_check (Some g) = a_check (files_in (all_in (codes "FILE") g)) (shelf_in (first_in (codes "shelf") g))

given_chain : (g : Option Given) → AreApart (option_and_then chain_of g)
given_chain None = tt
given_chain (Some g) = a_chain (files_in (all_in (codes "FILE") g)) (shelf_in (first_in (codes "shelf") g)) (steps_in (first_in (codes "steps") g))

a_pipe : (tool sender : Option Text) (p : Option ProgramFiles) (steps : Option ℕ) (n : Option Text) → AreApart (pipe_with tool sender p steps n)
a_pipe None sender p steps n = tt
a_pipe (Some t) None p steps n = tt
a_pipe (Some t) (Some s) None steps n = tt
a_pipe (Some t) (Some s) (Some p) None n = tt
a_pipe (Some t) (Some s) (Some p) (Some k) n = tt

given_pipe : (g : Option Given) → AreApart (option_and_then pipe_of g)
given_pipe None = tt
given_pipe (Some g) =
    a_pipe (file_in (first_in (codes "TOOL") g)) (file_in (first_in (codes "A") g)) (program_by (first_in (codes "B") g) (first_in (codes "shelf") g)) (steps_in (first_in (codes "steps") g)) (first_in (codes "steps") g)

given_audit : (g : Option Given) → AreApart (option_and_then audit_of g)
given_audit None = tt
given_audit (Some g) = a_audit (program_by (first_in (codes "PROGRAM") g) (first_in (codes "shelf") g)) (file_in (first_in (codes "CHANNEL") g)) (first_in (codes "as") g)

all_apart : (ws : List Text) → AreApart (command_of ws)
all_apart [] = tt
all_apart (w ∷ ws) =
    if_so (bytes_eq w (codes "run")) _ _ (given_run (given_of run_form ws))
    (if_so (bytes_eq w (codes "names")) _ _ (given_names (given_of program_form ws))
    (if_so (bytes_eq w (codes "code")) _ _ (given_code (given_of program_form ws))
    (if_so (bytes_eq w (codes "make")) _ _ (given_make (given_of make_form ws))
    (if_so (bytes_eq w (codes "check")) _ _ (given_check (given_of check_form ws))
    (if_so (bytes_eq w (codes "chain")) _ _ (given_chain (given_of chain_form ws))
    (if_so (bytes_eq w (codes "audit")) _ _ (given_audit (given_of audit_form ws))
    (if_so (bytes_eq w (codes "pipe")) _ None (given_pipe (given_of pipe_form ws)) tt)))))))

moved : (o : Option Request) (r : Request) → o ≡ Some r → AreApart o → IsApart r
moved o r is h = subst AreApart is h

pub words_apart : (ws : List Text) (r : Request) → command_of ws ≡ Some r → IsApart r
words_apart ws r is = moved (command_of ws) r is (all_apart ws)
