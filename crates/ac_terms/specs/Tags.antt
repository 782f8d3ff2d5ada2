-- The tags of spellings, and what packets begin with, each once and under a name of its own. Readers have tables in the order of the tags.
use Rattle.std.specs.Prelude.{ℕ, codes}
use Rattle.ac_types.specs.Types.{Bytes}

-- types
abbrev pub type_int : ℕ
type_int = 0x01

abbrev pub type_bool : ℕ
type_bool = 0x02

abbrev pub type_str : ℕ
type_str = 0x03

abbrev pub type_unit : ℕ
type_unit = 0x04

abbrev pub type_exn : ℕ
type_exn = 0x05

abbrev pub type_tuple : ℕ
type_tuple = 0x06

abbrev pub type_list : ℕ
type_list = 0x07

abbrev pub type_opt : ℕ
type_opt = 0x08

abbrev pub type_fun : ℕ
type_fun = 0x09

abbrev pub type_abs : ℕ
type_abs = 0x0A

abbrev pub type_mine : ℕ
type_mine = 0x0B

-- patterns
abbrev pub pattern_wild : ℕ
pattern_wild = 0x01

abbrev pub pattern_var : ℕ
pattern_var = 0x02

abbrev pub pattern_int : ℕ
pattern_int = 0x03

abbrev pub pattern_bool : ℕ
pattern_bool = 0x04

abbrev pub pattern_str : ℕ
pattern_str = 0x05

abbrev pub pattern_unit : ℕ
pattern_unit = 0x06

abbrev pub pattern_tuple : ℕ
pattern_tuple = 0x07

abbrev pub pattern_nil : ℕ
pattern_nil = 0x08

abbrev pub pattern_cons : ℕ
pattern_cons = 0x09

abbrev pub pattern_absent : ℕ
pattern_absent = 0x0A

abbrev pub pattern_present : ℕ
pattern_present = 0x0B

abbrev pub pattern_exn : ℕ
pattern_exn = 0x0C

-- terms
abbrev pub term_int : ℕ
term_int = 0x01

abbrev pub term_bool : ℕ
term_bool = 0x02

abbrev pub term_str : ℕ
term_str = 0x03

abbrev pub term_unit : ℕ
term_unit = 0x04

abbrev pub term_exn : ℕ
term_exn = 0x05

abbrev pub term_tuple : ℕ
term_tuple = 0x06

abbrev pub term_nil : ℕ
term_nil = 0x07

abbrev pub term_empty : ℕ
term_empty = 0x08

abbrev pub term_present : ℕ
term_present = 0x09

abbrev pub term_cons : ℕ
term_cons = 0x0A

abbrev pub term_var : ℕ
term_var = 0x0B

abbrev pub term_own : ℕ
term_own = 0x0C

abbrev pub term_ref : ℕ
term_ref = 0x0D

abbrev pub term_lam : ℕ
term_lam = 0x0E

abbrev pub term_rec : ℕ
term_rec = 0x0F

abbrev pub term_app : ℕ
term_app = 0x10

abbrev pub term_let : ℕ
term_let = 0x11

abbrev pub term_if : ℕ
term_if = 0x12

abbrev pub term_seq : ℕ
term_seq = 0x13

abbrev pub term_match : ℕ
term_match = 0x14

abbrev pub term_try : ℕ
term_try = 0x15

abbrev pub term_raise : ℕ
term_raise = 0x16

abbrev pub term_prim : ℕ
term_prim = 0x17

abbrev pub term_marshal : ℕ
term_marshal = 0x18

abbrev pub term_unmarshal : ℕ
term_unmarshal = 0x19

abbrev pub term_val : ℕ
term_val = 0x1A

-- packed values
abbrev pub value_int : ℕ
value_int = 0x01

abbrev pub value_bool : ℕ
value_bool = 0x02

abbrev pub value_str : ℕ
value_str = 0x03

abbrev pub value_unit : ℕ
value_unit = 0x04

abbrev pub value_exn : ℕ
value_exn = 0x05

abbrev pub value_tuple : ℕ
value_tuple = 0x06

abbrev pub value_list : ℕ
value_list = 0x07

abbrev pub value_absent : ℕ
value_absent = 0x08

abbrev pub value_present : ℕ
value_present = 0x09

abbrev pub value_fun : ℕ
value_fun = 0x0A

-- types in signatures
abbrev pub sig_abstract : ℕ
sig_abstract = 0x00

abbrev pub sig_manifest : ℕ
sig_manifest = 0x01

-- atoms of versions
abbrev pub atom_number : ℕ
atom_number = 0x01

abbrev pub atom_my_name : ℕ
atom_my_name = 0x02

-- atoms of constraints
abbrev pub range_one : ℕ
range_one = 0x01

abbrev pub range_between : ℕ
range_between = 0x02

abbrev pub range_up_to : ℕ
range_up_to = 0x03

abbrev pub range_from : ℕ
range_from = 0x04

-- constraints
abbrev pub constraint_ranges : ℕ
constraint_ranges = 0x01

abbrev pub constraint_exact : ℕ
constraint_exact = 0x02

-- atoms of resolvespecs
abbrev pub resolve_static_link : ℕ
resolve_static_link = 0x01

abbrev pub resolve_here_already : ℕ
resolve_here_already = 0x02

abbrev pub resolve_uri : ℕ
resolve_uri = 0x03

-- definitions
abbrev pub def_module : ℕ
def_module = 0x01

abbrev pub def_import : ℕ
def_import = 0x02

-- what each packet begins with, and the same as a number of four bytes
abbrev pub packet_front : Bytes
packet_front = codes "ACUP"

abbrev pub packet_mark : ℕ
packet_mark = 0x41435550

-- the version behind it: types in full, or a table of types
abbrev pub packet_in_full : ℕ
packet_in_full = 0x01

abbrev pub packet_by_table : ℕ
packet_by_table = 0x03
