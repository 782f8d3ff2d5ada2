-- A `chain` names at most 16 files, since the place of its FILEs takes no longer run.
use Rattle.std.proofs.Common.{◌≡◌, ◌≤◌, ◌==◌, ℕ, Bool, true, false, List, [], ◌∷◌, Option, Some, None, codes, length, refl, subst, arith, nat_lt}
use Rattle.std.proofs.lemmas.Bool.{ltb-false}
use Rattle.std.specs.Prelude.{is_some, option_and_then, option_map, find, if◌then◌else◌}
use Rattle.std.specs.List.{list_all}
use Rattle.std.specs.Str.{bytes_eq}
use Rattle.acute_words.specs.Form.{Argument, Form, Given, Look, Text, WordPlace, option, word, named, plain, refused}
use Rattle.acute_words.specs.Form.{look_of, option_in, place_of_number, with_next, with_option, with_word, arguments_of}
use Rattle.acute_words.specs.Form.{with_values, with_run, with_place, with_place_in, place_after, given_from, is_once, given_once, given_of}
use Rattle.acute_words.specs.WordValues.{all_in, first_in, is_file}
use Rattle.acute_words.specs.Commands.{ChannelName, ProgramFiles, Request, run, names, code, are_one, run_with, run_of, names_of, code_of}
use Rattle.acute_words.specs.Commands.{make_with, make_of, check_with, check_of, chain_with, chain_of, audit_with, audit_of, pipe_with, pipe_of, file_in, program_by, program_of, run_form, program_form, make_form, check_form, chain_form, audit_form, pipe_form}
use Rattle.acute_words.specs.Commands.{steps_in, channel_in, seed_in, modules_in, shelf_in, files_in, command_of}
use Rattle.acute_top.specs.inner.Apart.{HasFewPrograms}

-- a bound on runs is at most m, where there is one
abbrev IsWithin : ℕ → Option ℕ → Type 0
IsWithin m None = Unit {0}
IsWithin m (Some n) = n ≤ m

-- a place takes runs of at most m words, where it takes runs
abbrev TakesFew : ℕ → Option WordPlace → Type 0
TakesFew m None = Unit {0}
TakesFew m (Some p) = IsWithin m p.most

-- so does each place
abbrev AllTakeFew : ℕ → List WordPlace → Type 0
AllTakeFew m [] = Unit {0}
AllTakeFew m (p ∷ ps) = IsWithin m p.most × AllTakeFew m ps

-- each option has at most one value
abbrev AreSingle : List Argument → Type 0
AreSingle [] = Unit {0}
AreSingle (option id values ∷ more) = (length values ≤ 1) × AreSingle more
AreSingle (word w ∷ more) = AreSingle more

abbrev AreSingleIf : Option (List Argument) → Type 0
AreSingleIf None = Unit {0}
AreSingleIf (Some args) = AreSingle args

-- each name has at most m values
abbrev AreFew : ℕ → Given → Type 0
AreFew m [] = Unit {0}
AreFew m (p ∷ given) = (length p.1 ≤ m) × AreFew m given

abbrev AreFewIf : ℕ → Option Given → Type 0
AreFewIf m None = Unit {0}
AreFewIf m (Some given) = AreFew m given

-- at most m texts
abbrev FewTexts : ℕ → Option (List Text) → Type 0
FewTexts m None = Unit {0}
FewTexts m (Some texts) = length texts ≤ m

-- the options among arguments have at most one value
single_next : (id : Text) (more : List Argument) → AreSingle more → AreSingleIf (with_next id more)
single_next id [] h = tt
single_next id (option other values ∷ more) h = tt
single_next id (word value ∷ more) h = (omega arith, h)

single_option : (o : Option (Text × Bool)) (value : Option Text) (more : List Argument) → AreSingle more → AreSingleIf (with_option o value more)
single_option None value more h = tt
single_option (Some (id, true)) (Some value) more h = (omega arith, h)
single_option (Some (id, true)) None more h = single_next id more h
single_option (Some (id, false)) (Some value) more h = tt
single_option (Some (id, false)) None more h = (omega arith, h)

single_word : (f : Form) (w : Text) (l : Look) (more : List Argument) → AreSingle more → AreSingleIf (with_word f w l more)
single_word f w refused more h = tt
single_word f w (named name value) more h = single_option (option_in f name) value more h
single_word f w plain more h = h

single_if : (f : Form) (w : Text) (o : Option (List Argument)) → AreSingleIf o → AreSingleIf (option_and_then (with_word f w (look_of w)) o)
single_if f w None h = tt
single_if f w (Some args) h = single_word f w (look_of w) args h

all_single : (f : Form) (ws : List Text) → AreSingleIf (arguments_of f ws)
all_single f [] = tt
all_single f (w ∷ ws) = single_if f w (arguments_of f ws) (all_single f ws)

-- a place that is found is one of the places
found_place : (m : ℕ) (ps : List WordPlace) (k : ℕ) → AllTakeFew m ps → TakesFew m (find (λ q. q.number == k) ps)
found_place m [] k h = tt
found_place m (p ∷ ps) k h = go (p.number == k) (found_place m ps k h.1)
  where
    go : (b : Bool) → TakesFew m (find (λ q. q.number == k) ps) → TakesFew m (if b then Some p else find (λ q. q.number == k) ps)
    go true rest = h.0
    go false rest = rest

-- a run that is taken is no longer than its place allows
few_values : (m : ℕ) (id : Text) (most : ℕ) (values : List Text) (given : Given) → most ≤ m → AreFew m given → AreFewIf m (with_values id most values given)
few_values m id most values given le h = go (nat_lt most (length values)) refl
  where
    go : (b : Bool) → nat_lt most (length values) ≡ b → AreFewIf m (if b then None else Some ((id, values) ∷ given))
    go true e = tt
    go false e = (omega (arith, ltb-false most (length values) e), h)

few_run : (m : ℕ) (id : Text) (most : ℕ) (w : Text) (more : List Argument) (given : Given) → most ≤ m → AreFew m given → AreFewIf m (with_run id most w more given)
few_run m id most w [] given le h = few_values m id most (w ∷ []) given le h
few_run m id most w (option other values ∷ more) given le h = few_values m id most (w ∷ []) given le h
few_run m id most w (word next ∷ more) [] le h = few_values m id most (w ∷ []) [] le h
few_run m id most w (word next ∷ more) (p ∷ given) le h = few_values m id most (w ∷ p.1) given le h.1

few_place : (m : ℕ) (id : Text) (most : Option ℕ) (w : Text) (more : List Argument) (given : Given) → 1 ≤ m → IsWithin m most → AreFew m given
    → AreFewIf m (with_place id most w more given)
few_place m id None w more given one le h = (omega arith, h)
few_place m id (Some most) w more given one le h = few_run m id most w more given le h

few_word : (m : ℕ) (o : Option WordPlace) (w : Text) (more : List Argument) (given : Option Given) → 1 ≤ m → TakesFew m o → AreFewIf m given
    → AreFewIf m (option_and_then (with_place_in o w more) given)
few_word m o w more None one le h = tt
few_word m None w more (Some given) one le h = tt
few_word m (Some p) w more (Some given) one le h = few_place m p.name p.most w more given one le h

few_option : (m : ℕ) (id : Text) (values : List Text) (given : Option Given) → length values ≤ m → AreFewIf m given
    → AreFewIf m (option_map (λ given. (id, values) ∷ given) given)
few_option m id values None le h = tt
few_option m id values (Some given) le h = (le, h)

-- where each place takes few words, few values are given by each name
few_from : (f : Form) (m : ℕ) → 1 ≤ m → AllTakeFew m f.places → (k : ℕ) (args : List Argument) → AreSingle args → AreFewIf m (given_from f k args)
few_from f m one places k [] h = tt
few_from f m one places k (option id values ∷ more) h =
    let le : length values ≤ m = omega (arith, h.0) in few_option m id values (given_from f k more) le (few_from f m one places k more h.1)
few_from f m one places k (word w ∷ more) h =
    let next = place_after (place_of_number f k) k in
    few_word m (place_of_number f k) w more (given_from f next more) one (found_place m f.places k places) (few_from f m one places next more h)

few_arguments : (f : Form) (m : ℕ) → 1 ≤ m → AllTakeFew m f.places → (args : Option (List Argument)) → AreSingleIf args
    → AreFewIf m (option_and_then (given_from f 1) args)
few_arguments f m one places None h = tt
few_arguments f m one places (Some args) h = few_from f m one places 1 args h

few_once : (m : ℕ) (given : Option Given) → AreFewIf m given → AreFewIf m (option_and_then given_once given)
few_once m None h = tt
few_once m (Some given) h = go (is_once given)
  where
    go : (b : Bool) → AreFewIf m (if b then Some given else None)
    go true = h
    go false = tt

few_given : (f : Form) (m : ℕ) → 1 ≤ m → AllTakeFew m f.places → (ws : List Text) → AreFewIf m (given_of f ws)
few_given f m one places ws =
    few_once m (option_and_then (given_from f 1) (arguments_of f ws)) (few_arguments f m one places (arguments_of f ws) (all_single f ws))

-- the values of a name are those that it was given with
few_in : (m : ℕ) (id : Text) (given : Given) → AreFew m given → FewTexts m (all_in id given)
few_in m id [] h = tt
few_in m id (p ∷ given) h = go (bytes_eq p.0 id) (few_in m id given h.1)
  where
    go : (b : Bool) → FewTexts m (all_in id given) → FewTexts m (option_map (λ q. q.1) (if b then Some p else find (λ q. bytes_eq q.0 id) given))
    go true rest = h.0
    go false rest = rest

few_named : (m : ℕ) (texts : Option (List Text)) → FewTexts m texts → FewTexts m (files_in texts)
few_named m None h = tt
few_named m (Some texts) h = go (list_all is_file texts)
  where
    go : (b : Bool) → FewTexts m (if b then Some texts else None)
    go true = h
    go false = tt

abbrev IsShortIf : Option Request → Type 0
IsShortIf None = Unit {0}
IsShortIf (Some r) = HasFewPrograms r

if_so : (b : Bool) (o r : Option Request) → IsShortIf o → IsShortIf r → IsShortIf (if b then o else r)
if_so true o r h k = h
if_so false o r h k = k

unless : (b : Bool) (r : Request) → HasFewPrograms r → IsShortIf (if b then None else Some r)
unless true r h = tt
unless false r h = h

a_run : (p : Option ProgramFiles) (steps : Option ℕ) (from to : Option (Option ChannelName)) → IsShortIf (run_with p steps from to)
a_run None steps from to = tt
a_run (Some p) None from to = tt
a_run (Some p) (Some n) None to = tt
a_run (Some p) (Some n) (Some f) None = tt
a_run (Some p) (Some n) (Some f) (Some t) = unless (are_one f t) (run p n f t) tt

a_names : (p : Option ProgramFiles) → IsShortIf (option_map names p)
a_names None = tt
a_names (Some p) = tt

a_code : (p : Option ProgramFiles) → IsShortIf (option_map code p)
a_code None = tt
a_code (Some p) = tt

a_make : (runs : Bool) (seed modules : Option ℕ) → IsShortIf (make_with runs seed modules)
a_make runs None modules = tt
a_make runs (Some s) None = tt
a_make runs (Some s) (Some m) = tt

a_check : (files : Option (List Text)) (shelf : Option (Option Text)) → IsShortIf (check_with files shelf)
a_check None shelf = tt
a_check (Some files) None = tt
a_check (Some files) (Some s) = tt

a_chain : (files : Option (List Text)) (shelf : Option (Option Text)) (steps : Option ℕ) → FewTexts 16 files → IsShortIf (chain_with files shelf steps)
a_chain None shelf steps h = tt
a_chain (Some files) None steps h = tt
a_chain (Some files) (Some s) None h = tt
a_chain (Some files) (Some s) (Some n) h = h

a_audit : (p : Option ProgramFiles) (channel type : Option Text) → IsShortIf (audit_with p channel type)
a_audit None channel type = tt
a_audit (Some p) None type = tt
a_audit (Some p) (Some c) None = tt
a_audit (Some p) (Some c) (Some t) = tt

given_run : (g : Option Given) → IsShortIf (option_and_then run_of g)
given_run None = tt
given_run (Some g) = a_run (program_of g) (steps_in (first_in (codes "steps") g)) (channel_in (first_in (codes "in") g)) (channel_in (first_in (codes "out") g))

given_names : (g : Option Given) → IsShortIf (option_and_then names_of g)
given_names None = tt
given_names (Some g) = a_names (program_of g)

given_code : (g : Option Given) → IsShortIf (option_and_then code_of g)
given_code None = tt
given_code (Some g) = a_code (program_of g)

given_make : (g : Option Given) → IsShortIf (option_and_then make_of g)
given_make None = tt
given_make (Some g) = a_make (is_some (all_in (codes "run") g)) (option_and_then seed_in (first_in (codes "SEED") g)) (option_and_then modules_in (first_in (codes "MODULES") g))

given_check : (g : Option Given) → IsShortIf (option_and_then check_of g)
given_check None = tt
given_check (Some g) = a_check (files_in (all_in (codes "FILE") g)) (shelf_in (first_in (codes "shelf") g))

given_chain : (g : Option Given) → AreFewIf 16 g → IsShortIf (option_and_then chain_of g)
given_chain None h = tt
given_chain (Some g) h =
    a_chain (files_in (all_in (codes "FILE") g)) (shelf_in (first_in (codes "shelf") g)) (steps_in (first_in (codes "steps") g))
    (few_named 16 (all_in (codes "FILE") g) (few_in 16 (codes "FILE") g h))

a_pipe : (tool sender : Option Text) (p : Option ProgramFiles) (steps : Option ℕ) (n : Option Text) → IsShortIf (pipe_with tool sender p steps n)
a_pipe None sender p steps n = tt
a_pipe (Some t) None p steps n = tt
a_pipe (Some t) (Some s) None steps n = tt
a_pipe (Some t) (Some s) (Some p) None n = tt
a_pipe (Some t) (Some s) (Some p) (Some k) n = tt

given_pipe : (g : Option Given) → IsShortIf (option_and_then pipe_of g)
given_pipe None = tt
given_pipe (Some g) =
    a_pipe (file_in (first_in (codes "TOOL") g)) (file_in (first_in (codes "A") g)) (program_by (first_in (codes "B") g) (first_in (codes "shelf") g)) (steps_in (first_in (codes "steps") g)) (first_in (codes "steps") g)

given_audit : (g : Option Given) → IsShortIf (option_and_then audit_of g)
given_audit None = tt
given_audit (Some g) = a_audit (program_by (first_in (codes "PROGRAM") g) (first_in (codes "shelf") g)) (file_in (first_in (codes "CHANNEL") g)) (first_in (codes "as") g)

-- the place of FILE is the only one of `chain`
few_chained : (ws : List Text) → AreFewIf 16 (given_of chain_form ws)
few_chained ws = few_given chain_form 16 (omega arith) (omega arith, tt) ws

all_few : (ws : List Text) → IsShortIf (command_of ws)
all_few [] = tt
all_few (w ∷ ws) =
    if_so (bytes_eq w (codes "run")) _ _ (given_run (given_of run_form ws))
    (if_so (bytes_eq w (codes "names")) _ _ (given_names (given_of program_form ws))
    (if_so (bytes_eq w (codes "code")) _ _ (given_code (given_of program_form ws))
    (if_so (bytes_eq w (codes "make")) _ _ (given_make (given_of make_form ws))
    (if_so (bytes_eq w (codes "check")) _ _ (given_check (given_of check_form ws))
    (if_so (bytes_eq w (codes "chain")) _ _ (given_chain (given_of chain_form ws) (few_chained ws))
    (if_so (bytes_eq w (codes "audit")) _ _ (given_audit (given_of audit_form ws))
    (if_so (bytes_eq w (codes "pipe")) _ None (given_pipe (given_of pipe_form ws)) tt)))))))

-- a `chain` that words ask for has at most 16 files
pub words_short : (ws : List Text) (r : Request) → command_of ws ≡ Some r → HasFewPrograms r
words_short ws r is = subst IsShortIf is (all_few ws)
