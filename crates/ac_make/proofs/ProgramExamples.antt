-- Programs, computed.
use Rattle.std.proofs.Common.{◌≡◌, ◌++◌, length, refl}
use Rattle.std.specs.Prelude.{codes}
use Rattle.std.specs.Fmt.{digits}
use Rattle.ac_make.specs.Draws.{draw}
use Rattle.ac_make.specs.ProgramText.{get_line, program_text}

-- one module, from seed 1
pub one_module : program_text 1 1 ≡
    codes "module M0 : sig type t val make : int -> t val get : t -> int end version 1.0 =\n"
    ++ codes "struct type t = int\n"
    ++ codes "val make : int -> t = fun (x : int) -> x + 774\n"
    ++ codes "val get : t -> int = fun (x : t) -> x end\n"
    ++ codes "IO.print_int (M0.get (M0.make 0)); IO.print_string \"\\n\";\n"
    ++ codes "()\n"
unfolding digits
one_module = refl

pub one_module_long : length (program_text 1 1) ≡ 249
unfolding digits
one_module_long = refl

-- module 11 from seed 7 calls module 8
pub eleventh_calls : get_line 11 (draw 7 23) ≡ codes "val get : t -> int = fun (x : t) -> M8.get (M8.make x) end\n"
unfolding digits
eleventh_calls = refl

-- no modules
pub no_modules : program_text 7 0 ≡ codes "()\n"
no_modules = refl
