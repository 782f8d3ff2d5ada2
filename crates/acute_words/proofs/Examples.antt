-- Command lines, and what they ask for.
use Rattle.std.proofs.Common.{◌≡◌, refl, [], ◌∷◌, Some, None, codes, replicate, true, false}
use Rattle.acute_words.specs.Form.{Form, Text, given_of, look_of, named, plain, refused}
use Rattle.acute_words.specs.Commands.{ProgramFiles, audit, chain, check, command_of, code, file, make, names, pipe, run, standard}

-- an option, with its value and without; a plain word; words that are refused
look_option : look_of (codes "--steps=5") ≡ named (codes "steps") (Some (codes "5"))
look_option = refl

look_name : look_of (codes "--steps") ≡ named (codes "steps") None
look_name = refl

look_hyphen : look_of (codes "-") ≡ plain
look_hyphen = refl

look_short : look_of (codes "-h") ≡ refused
look_short = refl

look_end : look_of (codes "--") ≡ refused
look_end = refl

-- a program without a shelf
abbrev alone : Text → ProgramFiles
alone name = record { file = name; shelf = None }

-- `run f` and `run --steps 5 f`
default : command_of (codes "run" ∷ codes "f" ∷ []) ≡ Some (run (alone (codes "f")) 1000000 None None)
default = refl

steps_first : command_of (codes "run" ∷ codes "--steps" ∷ codes "5" ∷ codes "f" ∷ []) ≡ Some (run (alone (codes "f")) 5 None None)
steps_first = refl

-- `run --in=a f --out -`, and both streams
channels : command_of (codes "run" ∷ codes "--in=a" ∷ codes "f" ∷ codes "--out" ∷ codes "-" ∷ []) ≡ Some (run (alone (codes "f")) 1000000 (Some (file (codes "a"))) (Some standard))
channels = refl

streams : command_of (codes "run" ∷ codes "f" ∷ codes "--in" ∷ codes "-" ∷ codes "--out" ∷ codes "-" ∷ []) ≡ Some (run (alone (codes "f")) 1000000 (Some standard) (Some standard))
streams = refl

-- one file for both channels, and a channel without a name
one_file : command_of (codes "run" ∷ codes "f" ∷ codes "--in=a" ∷ codes "--out=a" ∷ []) ≡ None
one_file = refl

no_name : command_of (codes "run" ∷ codes "f" ∷ codes "--in=" ∷ []) ≡ None
no_name = refl

-- no FILE, two of them, an option twice, and a value that is an option
no_file : command_of (codes "run" ∷ []) ≡ None
no_file = refl

two_files : command_of (codes "run" ∷ codes "f" ∷ codes "g" ∷ []) ≡ None
two_files = refl

twice : command_of (codes "run" ∷ codes "f" ∷ codes "--steps=1" ∷ codes "--steps=1" ∷ []) ≡ None
twice = refl

no_value : command_of (codes "run" ∷ codes "f" ∷ codes "--steps" ∷ codes "--steps=1" ∷ []) ≡ None
no_value = refl

-- `run f --shelf s`, `names --shelf=s f` and `code f`
with_shelf : command_of (codes "run" ∷ codes "f" ∷ codes "--shelf" ∷ codes "s" ∷ []) ≡ Some (run (record { file = codes "f"; shelf = Some (codes "s") }) 1000000 None None)
with_shelf = refl

names_with_shelf : command_of (codes "names" ∷ codes "--shelf=s" ∷ codes "f" ∷ []) ≡ Some (names (record { file = codes "f"; shelf = Some (codes "s") }))
names_with_shelf = refl

code_alone : command_of (codes "code" ∷ codes "f" ∷ []) ≡ Some (code (alone (codes "f")))
code_alone = refl

-- a shelf's FILE is neither empty nor `-`, and `names` has no steps
shelf_hyphen : command_of (codes "names" ∷ codes "f" ∷ codes "--shelf" ∷ codes "-" ∷ []) ≡ None
shelf_hyphen = refl

shelf_empty : command_of (codes "code" ∷ codes "f" ∷ codes "--shelf=" ∷ []) ≡ None
shelf_empty = refl

names_steps : command_of (codes "names" ∷ codes "f" ∷ codes "--steps=1" ∷ []) ≡ None
names_steps = refl

-- `make 7 1000 --run`, and with the option first
make_and_run : command_of (codes "make" ∷ codes "7" ∷ codes "1000" ∷ codes "--run" ∷ []) ≡ Some (make 7 1000 true)
make_and_run = refl

run_first : command_of (codes "make" ∷ codes "--run" ∷ codes "7" ∷ codes "1000" ∷ []) ≡ Some (make 7 1000 true)
run_first = refl

-- the greatest seed, and the one behind it; no modules, and too many
greatest_seed : command_of (codes "make" ∷ codes "18446744073709551615" ∷ codes "1" ∷ []) ≡ Some (make 18446744073709551615 1 false)
greatest_seed = refl

past_seed : command_of (codes "make" ∷ codes "18446744073709551616" ∷ codes "1" ∷ []) ≡ None
past_seed = refl

no_modules : command_of (codes "make" ∷ codes "7" ∷ codes "0" ∷ []) ≡ None
no_modules = refl

many_modules : command_of (codes "make" ∷ codes "7" ∷ codes "1001" ∷ []) ≡ None
many_modules = refl

-- a value of the flag, and a minus
run_value : command_of (codes "make" ∷ codes "7" ∷ codes "1" ∷ codes "--run=1" ∷ []) ≡ None
run_value = refl

minus_one : command_of (codes "make" ∷ codes "-1" ∷ codes "5" ∷ []) ≡ None
minus_one = refl

-- `check f g --shelf s`, `check --shelf=s f g`, and FILEs that an option parts
check_two : command_of (codes "check" ∷ codes "f" ∷ codes "g" ∷ codes "--shelf" ∷ codes "s" ∷ []) ≡ Some (check (codes "f" ∷ codes "g" ∷ []) (Some (codes "s")))
check_two = refl

shelf_first : command_of (codes "check" ∷ codes "--shelf=s" ∷ codes "f" ∷ codes "g" ∷ []) ≡ Some (check (codes "f" ∷ codes "g" ∷ []) (Some (codes "s")))
shelf_first = refl

parted_files : command_of (codes "check" ∷ codes "f" ∷ codes "--shelf=s" ∷ codes "g" ∷ []) ≡ None
parted_files = refl

-- no FILE, and one that is `-`
none_to_check : command_of (codes "check" ∷ []) ≡ None
none_to_check = refl

check_hyphen : command_of (codes "check" ∷ codes "f" ∷ codes "-" ∷ []) ≡ None
check_hyphen = refl

-- 256 FILEs, and 257
most_to_check : command_of (codes "check" ∷ replicate 256 (codes "f")) ≡ Some (check (replicate 256 (codes "f")) None)
most_to_check = refl

many_to_check : command_of (codes "check" ∷ replicate 257 (codes "f")) ≡ None
many_to_check = refl

-- `chain f`, and 16 FILEs
chain_alone : command_of (codes "chain" ∷ codes "f" ∷ []) ≡ Some (chain (codes "f" ∷ []) None 1000000)
chain_alone = refl

longest_chain : command_of (codes "chain" ∷ replicate 16 (codes "f")) ≡ Some (chain (replicate 16 (codes "f")) None 1000000)
longest_chain = refl

-- 17 FILEs, and none
long_chain : command_of (codes "chain" ∷ replicate 17 (codes "f")) ≡ None
long_chain = refl

none_to_chain : command_of (codes "chain" ∷ codes "--steps=5" ∷ []) ≡ None
none_to_chain = refl

-- `chain --shelf s --steps=5 f g`, `chain f g --steps 5 --shelf=s`, and `chain --steps 5 f g --shelf s`
options_before : command_of (codes "chain" ∷ codes "--shelf" ∷ codes "s" ∷ codes "--steps=5" ∷ codes "f" ∷ codes "g" ∷ []) ≡ Some (chain (codes "f" ∷ codes "g" ∷ []) (Some (codes "s")) 5)
options_before = refl

options_behind : command_of (codes "chain" ∷ codes "f" ∷ codes "g" ∷ codes "--steps" ∷ codes "5" ∷ codes "--shelf=s" ∷ []) ≡ Some (chain (codes "f" ∷ codes "g" ∷ []) (Some (codes "s")) 5)
options_behind = refl

options_around : command_of (codes "chain" ∷ codes "--steps" ∷ codes "5" ∷ codes "f" ∷ codes "g" ∷ codes "--shelf" ∷ codes "s" ∷ []) ≡ Some (chain (codes "f" ∷ codes "g" ∷ []) (Some (codes "s")) 5)
options_around = refl

-- an option between two FILEs, one that is given twice, and steps past the greatest number
parted_chain : command_of (codes "chain" ∷ codes "f" ∷ codes "--steps" ∷ codes "5" ∷ codes "g" ∷ []) ≡ None
parted_chain = refl

steps_twice : command_of (codes "chain" ∷ codes "--steps=5" ∷ codes "f" ∷ codes "--steps=5" ∷ []) ≡ None
steps_twice = refl

chain_steps : command_of (codes "chain" ∷ codes "f" ∷ codes "--steps=1000000001" ∷ []) ≡ None
chain_steps = refl

-- a FILE that is `-`, one without a name, and a shelf that is `-`
chain_hyphen : command_of (codes "chain" ∷ codes "-" ∷ codes "f" ∷ []) ≡ None
chain_hyphen = refl

chain_empty : command_of (codes "chain" ∷ codes "f" ∷ codes "" ∷ []) ≡ None
chain_empty = refl

chain_shelf_hyphen : command_of (codes "chain" ∷ codes "f" ∷ codes "--shelf" ∷ codes "-" ∷ []) ≡ None
chain_shelf_hyphen = refl

-- `audit p c --as int`, and `audit --as=t --shelf s p c`
audit_plain : command_of (codes "audit" ∷ codes "p" ∷ codes "c" ∷ codes "--as" ∷ codes "int" ∷ []) ≡ Some (audit (record { file = codes "p"; shelf = None }) (codes "c") (codes "int"))
audit_plain = refl

audit_shelf : command_of (codes "audit" ∷ codes "--as=t" ∷ codes "--shelf" ∷ codes "s" ∷ codes "p" ∷ codes "c" ∷ []) ≡ Some (audit (record { file = codes "p"; shelf = Some (codes "s") }) (codes "c") (codes "t"))
audit_shelf = refl

-- a TYPE that is empty, and none
audit_empty : command_of (codes "audit" ∷ codes "p" ∷ codes "c" ∷ codes "--as=" ∷ []) ≡ Some (audit (record { file = codes "p"; shelf = None }) (codes "c") [])
audit_empty = refl

audit_at_none : command_of (codes "audit" ∷ codes "p" ∷ codes "c" ∷ []) ≡ None
audit_at_none = refl

-- no CHANNEL, and one that is `-`
audit_alone : command_of (codes "audit" ∷ codes "p" ∷ codes "--as=int" ∷ []) ≡ None
audit_alone = refl

audit_hyphen : command_of (codes "audit" ∷ codes "p" ∷ codes "-" ∷ codes "--as=int" ∷ []) ≡ None
audit_hyphen = refl

-- `pipe t a b`, and with both options, whose values stand as they were written
pipe_plain : command_of (codes "pipe" ∷ codes "t" ∷ codes "a" ∷ codes "b" ∷ []) ≡ Some (pipe (codes "t") (codes "a") (alone (codes "b")) 1000000 None)
pipe_plain = refl

pipe_full : command_of (codes "pipe" ∷ codes "--steps=007" ∷ codes "t" ∷ codes "a" ∷ codes "b" ∷ codes "--shelf" ∷ codes "s" ∷ []) ≡ Some (pipe (codes "t") (codes "a") (record { file = codes "b"; shelf = Some (codes "s") }) 7 (Some (codes "007")))
pipe_full = refl

-- no B, and an A that is `-`
pipe_two : command_of (codes "pipe" ∷ codes "t" ∷ codes "a" ∷ []) ≡ None
pipe_two = refl

pipe_hyphen : command_of (codes "pipe" ∷ codes "t" ∷ codes "-" ∷ codes "b" ∷ []) ≡ None
pipe_hyphen = refl

-- a form with a flag, an option with a value, a place of one word, and a run of at most two words
abbrev tried : Form
tried = record {
  options = (codes "all", false) ∷ (codes "in", true) ∷ [];
  places = record { number = 1; name = codes "SEED"; most = None }
      ∷ record { number = 2; name = codes "FILE"; most = Some 2 } ∷ [];
}

-- `7 --all a b --in c`
whole_run : given_of tried (codes "7" ∷ codes "--all" ∷ codes "a" ∷ codes "b" ∷ codes "--in" ∷ codes "c" ∷ [])
    ≡ Some ((codes "SEED", codes "7" ∷ []) ∷ (codes "all", []) ∷ (codes "FILE", codes "a" ∷ codes "b" ∷ [])
    ∷ (codes "in", codes "c" ∷ []) ∷ [])
whole_run = refl

-- `7 a --all b`, whose run is parted, and `7 a b c`, whose run is too long
parted_run : given_of tried (codes "7" ∷ codes "a" ∷ codes "--all" ∷ codes "b" ∷ []) ≡ None
parted_run = refl

long_run : given_of tried (codes "7" ∷ codes "a" ∷ codes "b" ∷ codes "c" ∷ []) ≡ None
long_run = refl
