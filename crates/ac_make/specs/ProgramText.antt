-- The generated programs: modules M0, M1 .. each of which but the first calls one in front of it, and a print of each.
use Rattle.std.specs.Prelude.{ℕ, ◌+◌, ◌*◌, ◌%◌, ◌==◌, if◌then◌else◌, ◌++◌, codes}
use Rattle.std.specs.List.{flat_map, range_with_len}
use Rattle.std.specs.Fmt.{decimal}
use Rattle.ac_types.specs.Types.{Bytes}
use Rattle.ac_make.specs.Draws.{draw}

abbrev pub module_name : ℕ → Bytes
module_name i = codes "M" ++ decimal i

-- what `get` of module i gives for what its `make` makes of an argument
abbrev pub got_of_made : ℕ → Bytes → Bytes
got_of_made i argument = module_name i ++ codes ".get (" ++ module_name i ++ codes ".make " ++ argument ++ codes ")"

abbrev pub head_line : ℕ → Bytes
head_line i = codes "module " ++ module_name i ++ codes " : sig type t val make : int -> t val get : t -> int end version 1." ++ decimal i ++ codes " =\n"

abbrev pub type_line : Bytes
type_line = codes "struct type t = int\n"

-- the first draw says what is added
abbrev pub make_line : ℕ → Bytes
make_line first = codes "val make : int -> t = fun (x : int) -> x + " ++ decimal (first % 1000) ++ codes "\n"

-- the second draw says which of the modules in front is called
abbrev pub get_body : ℕ → ℕ → Bytes
get_body i second = if i == 0 then codes "x" else got_of_made (second % i) (codes "x")

abbrev pub get_line : ℕ → ℕ → Bytes
get_line i second = codes "val get : t -> int = fun (x : t) -> " ++ get_body i second ++ codes " end\n"

-- module i, for which two numbers were drawn
abbrev pub module_lines : ℕ → ℕ → ℕ → Bytes
module_lines i first second = head_line i ++ type_line ++ make_line first ++ get_line i second

-- each module takes the next two draws
abbrev pub module_text : ℕ → ℕ → Bytes
module_text seed i = module_lines i (draw seed (2 * i)) (draw seed (2 * i + 1))

abbrev pub print_line : ℕ → Bytes
print_line i = codes "IO.print_int (" ++ got_of_made i (decimal i) ++ codes "); IO.print_string \"\\n\";\n"

-- the texts of the numbers below n, in order
abbrev pub of_each : (ℕ → Bytes) → ℕ → Bytes
of_each text n = flat_map text (range_with_len 0 n)

-- all modules, then a print of each, then a unit
abbrev pub program_text : ℕ → ℕ → Bytes
program_text seed modules = of_each (module_text seed) modules ++ of_each print_line modules ++ codes "()\n"
