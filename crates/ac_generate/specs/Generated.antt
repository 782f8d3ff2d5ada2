-- The code of terms, values, entries and programs, added to what is there.
use Rattle.std.specs.Prelude.{◌≡◌, ℕ, suc, ◌+◌, List, [], ◌∷◌, ◌++◌, length, None, Some}
use Rattle.ac_code.specs.Code as instr
use Rattle.ac_code.specs.Code.{Instr, Block, Code}
use Rattle.ac_code.specs.Table.{Table, placed}
use Rattle.ac_code.specs.declared.block.Block as code
use Rattle.ac_terms.specs.Terms.{Home, Main, In, Expr, PValue}
use Rattle.ac_terms.specs.Defs.{Field, Entry, Environment, module_at}
use Rattle.ac_generate.specs.Sizes.{lambdas, value_lambdas}
use Rattle.ac_generate.specs.Generate.{code as code_at, blocks, value_code, value_blocks}

-- a block that was made from no lambda
abbrev pub own_block : Home → List Instr → Block
own_block c instrs = record { home = c; lambda = None; context = []; instrs = instrs }

-- a field returns, the main program stops
abbrev pub ending : Home → Instr
ending Main = instr.Stop
ending (In k) = instr.Return

-- the blocks of a term of that home, its own block last, where n are finished
abbrev pub term_blocks : Home → Expr → ℕ → List Block
term_blocks c e n = blocks c [] e n ++ own_block c (code_at e 0 n ++ ending c ∷ []) ∷ []

-- the blocks of a packed value, its own block last, which is at home in the main program
abbrev pub packed_blocks : PValue → ℕ → List Block
packed_blocks v n = value_blocks v n ++ own_block Main (value_code v n ++ instr.Return ∷ []) ∷ []

abbrev pub with_blocks : List Block → Code → Code
with_blocks bs K = record { blocks = K.blocks ++ bs; fields = K.fields }

-- the code with a term, and the number of the term's own block
abbrev pub generated : Home → Expr → Code → Code
generated c e K = with_blocks (term_blocks c e (length K.blocks)) K

abbrev pub block_number : Expr → Code → ℕ
block_number e K = length K.blocks + lambdas e

-- the code with a packed value, and the number of its own block
abbrev pub value_generated : PValue → Code → Code
value_generated v K = with_blocks (packed_blocks v (length K.blocks)) K

abbrev pub value_number : PValue → Code → ℕ
value_number v K = length K.blocks + value_lambdas v

-- the code with the fields of a home, in order, and the numbers of their own blocks
abbrev pub fields_generated : Home → List Field → Code → Code
fields_generated c [] K = K
fields_generated c (f ∷ fs) K = fields_generated c fs (generated c f.term K)

abbrev pub field_numbers : Home → List Field → Code → List ℕ
field_numbers c [] K = []
field_numbers c (f ∷ fs) K = block_number f.term K ∷ field_numbers c fs (generated c f.term K)

-- the code with an entry's fields: only a module has any
abbrev pub entry_generated : Environment → ℕ → Code → Code
entry_generated E i K = elim (module_at E i) [
  | None ↦ K
  | Some m ↦ record { blocks = (fields_generated (In i) m.fields K).blocks; fields = placed i (field_numbers (In i) m.fields K) K.fields }
]

-- the code with some entries, of which the first is entry i
abbrev pub entries_generated : Environment → ℕ → List Entry → Code → Code
entries_generated E i [] K = K
entries_generated E i (e ∷ es) K = entries_generated E (suc i) es (entry_generated E i K)

-- a program: its entries in order, then its term
abbrev pub program_code : Environment → Expr → Code
program_code E e = generated Main e (entries_generated E 0 E (record { blocks = []; fields = [] }))

-- the blocks that a table had stand where they stood
abbrev pub KeepsBlocks : Table → Table → Type 0
KeepsBlocks new old = (more : List code.Block) × (new.blocks ≡ old.blocks ++ more)
