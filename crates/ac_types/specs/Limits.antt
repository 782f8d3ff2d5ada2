-- The limits of the language and of its formats, each once and under a name of its own.
use Rattle.std.specs.Prelude.{ℕ, Bool, ◌+◌, ◌^◌, ◌&&◌, nat_le, List, length}

-- the bytes of a text: of a program, or of a module of a shelf
abbrev pub longest_text : ℕ
longest_text = 1048576

-- the bytes that are read of the file of a text: one more shows that it is too long
abbrev pub longest_read : ℕ
longest_read = longest_text + 1

-- the openers that are unclosed at a place of a text
abbrev pub most_openers : ℕ
most_openers = 200

-- the heights of an expression, of a pattern, and of a type as it is written
abbrev pub highest_expression : ℕ
highest_expression = 500

abbrev pub highest_pattern : ℕ
highest_pattern = 500

abbrev pub highest_written_type : ℕ
highest_written_type = 100

-- the bytes of an identifier
abbrev pub longest_word : ℕ
longest_word = 255

-- the ints that a literal stands for are below
abbrev pub literals_end : ℕ
literals_end = 2 ^ 63

-- the atoms of a version, and of a constraint
abbrev pub most_version_atoms : ℕ
most_version_atoms = 8

-- the definitions of a program
abbrev pub most_definitions : ℕ
most_definitions = 4096

-- the types, and the values, of a signature, of a struct and of a likespec
abbrev pub most_items : ℕ
most_items = 1024

-- the arms of a match or a try
abbrev pub most_arms : ℕ
most_arms = 1024

-- the parts of a tuple, of its type and of its pattern
abbrev pub widest_tuple : ℕ
widest_tuple = 16

-- the variables in scope at a place
abbrev pub most_variables : ℕ
most_variables = 65535

-- the atoms of a resolvespec, and the bytes of a URI
abbrev pub most_resolves : ℕ
most_resolves = 16

abbrev pub longest_uri : ℕ
longest_uri = 1024

-- the parts of a type written out, and its height
abbrev pub most_type_parts : ℕ
most_type_parts = 4096

abbrev pub highest_type : ℕ
highest_type = 100

-- the bytes of a string, of a frame's content, and of a packet that spells its types in full
abbrev pub longest_string : ℕ
longest_string = 1048576

abbrev pub longest_frame : ℕ
longest_frame = 1048576

abbrev pub longest_packet : ℕ
longest_packet = 1048576

-- the bytes of a packet with a table of types, and those of the types in all its places, each spelled in full
abbrev pub longest_tabled : ℕ
longest_tabled = 4194304

-- the bytes of a packet with a table that says what one in full does
abbrev pub longest_renewed : ℕ
longest_renewed = 3844780

-- the nesting of a packet: of its values, terms and patterns on a path
abbrev pub deepest_nesting : ℕ
deepest_nesting = 500

-- the entries of an environment
abbrev pub most_entries : ℕ
most_entries = 65535

-- the bytes of the list of a shelf, and its entries
abbrev pub longest_shelf_list : ℕ
longest_shelf_list = 65536

abbrev pub most_shelf_entries : ℕ
most_shelf_entries = 256

-- the files of a `check`, and the programs of a `chain`
abbrev pub most_checked : ℕ
most_checked = 256

abbrev pub most_chained : ℕ
most_chained = 16

-- the digits of the number of steps that a command names, that number, and the steps of a command that names none
abbrev pub most_steps_digits : ℕ
most_steps_digits = 10

abbrev pub most_steps : ℕ
most_steps = 1000000000

abbrev pub default_steps : ℕ
default_steps = 1000000

-- the modules of a program that is made
abbrev pub most_modules : ℕ
most_modules = 1000

-- a URI isn't empty
abbrev pub is_uri : List ℕ → Bool
is_uri u = nat_le 1 (length u) && nat_le (length u) longest_uri
