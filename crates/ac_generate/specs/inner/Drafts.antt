-- What is written so far: the instructions of a block, and the blocks that are finished.
use Rattle.std.specs.Prelude.{ℕ, suc, ◌+◌, List, [], ◌∷◌, ◌++◌, map, length, set}
use Rattle.ac_types.specs.Types.{Typ}
use Rattle.ac_terms.specs.Terms.{Home, Pattern, Expr, Exprs, Arms, no_arms, arm, PValue, PValues}
use Rattle.ac_code.specs.Code as instr
use Rattle.ac_code.specs.Code.{Instr, Block}
use Rattle.ac_code.specs.ReadCode.{instr_of, block_of}
use Rattle.ac_generate.specs.declared.writer.Writer as code
use Rattle.ac_generate.specs.Sizes.{size, variable_count, unbind}
use Rattle.ac_generate.specs.Generate.{code as code_at, all_code, seq_code, rest_code, arm_code, value_code, all_value_code, lambda_block, blocks, all_blocks, arm_blocks, value_blocks, all_value_blocks}

-- with the number of the first block that is new
pub record Draft : Type 0 where
  pub first : ℕ
  pub instrs : List Instr
  pub blocks : List Block

unfoldable pub draft_of : code.Writer → Draft
draft_of w = record { first = w.first; instrs = map instr_of w.instrs.items; blocks = map block_of w.finished.items }

-- where the next instruction stands, and the number of the next block
abbrev pub address : Draft → ℕ
address d = length d.instrs

abbrev pub count : Draft → ℕ
count d = d.first + length d.blocks

unfoldable pub put : Instr → Draft → Draft
put i d = record { first = d.first; instrs = d.instrs ++ i ∷ []; blocks = d.blocks }

unfoldable pub put_all : List Instr → Draft → Draft
put_all is d = record { first = d.first; instrs = d.instrs ++ is; blocks = d.blocks }

-- another instruction at an address
unfoldable pub set_at : ℕ → Instr → Draft → Draft
set_at k i d = record { first = d.first; instrs = set d.instrs k i; blocks = d.blocks }

-- jumps at some addresses
abbrev pub jumps_at : List ℕ → ℕ → Draft → Draft
jumps_at [] to d = d
jumps_at (k ∷ ks) to d = jumps_at ks to (set_at k (instr.Jump to) d)

-- a block begins; it ends, and what was written before goes on
unfoldable pub block_begun : Draft → Draft
block_begun d = record { first = d.first; instrs = []; blocks = d.blocks }

unfoldable pub block_ended : Home → Expr → List Typ → List Instr → Draft → Draft
block_ended c l G before d = record { first = d.first; instrs = before; blocks = d.blocks ++ lambda_block c l G d.instrs ∷ [] }

-- with the code of a term, of terms, of the parts of a sequence
unfoldable pub wrote : Home → List Typ → Expr → Draft → Draft
wrote c G e d = record { first = d.first; instrs = d.instrs ++ code_at e (address d) (count d); blocks = d.blocks ++ blocks c G e (count d) }

unfoldable pub wrote_all : Home → List Typ → Exprs → Draft → Draft
wrote_all c G es d = record { first = d.first; instrs = d.instrs ++ all_code es (address d) (count d); blocks = d.blocks ++ all_blocks c G es (count d) }

unfoldable pub wrote_seq : Home → List Typ → Exprs → Draft → Draft
wrote_seq c G es d = record { first = d.first; instrs = d.instrs ++ seq_code es (address d) (count d); blocks = d.blocks ++ all_blocks c G es (count d) }

unfoldable pub wrote_rest : Home → List Typ → Exprs → Draft → Draft
wrote_rest c G es d = record { first = d.first; instrs = d.instrs ++ rest_code es (address d) (count d); blocks = d.blocks ++ all_blocks c G es (count d) }

-- with the code of an arm, of some arms, whose jumps to the end are still open
unfoldable pub wrote_arm : Home → List Typ → Pattern → Expr → Draft → Draft
wrote_arm c G q b d = record { first = d.first; instrs = d.instrs ++ arm_code 0 (arm q b no_arms) (address d) (count d); blocks = d.blocks ++ arm_blocks c G (arm q b no_arms) (count d) }

unfoldable pub wrote_arms : Home → List Typ → Arms → Draft → Draft
wrote_arms c G cases d = record { first = d.first; instrs = d.instrs ++ arm_code 0 cases (address d) (count d); blocks = d.blocks ++ arm_blocks c G cases (count d) }

-- where the jump of an arm that begins at address p stands, and those of some arms
abbrev pub arm_end : Pattern → Expr → ℕ → ℕ
arm_end q b p = suc p + size b + length (unbind (variable_count q))

abbrev pub ends : Arms → ℕ → List ℕ
ends no_arms p = []
ends (arm q b rest) p = arm_end q b p ∷ ends rest (suc (arm_end q b p))

-- with the code of a packed value, of packed values
unfoldable pub wrote_value : PValue → Draft → Draft
wrote_value v d = record { first = d.first; instrs = d.instrs ++ value_code v (count d); blocks = d.blocks ++ value_blocks v (count d) }

unfoldable pub wrote_values : PValues → Draft → Draft
wrote_values vs d = record { first = d.first; instrs = d.instrs ++ all_value_code vs (count d); blocks = d.blocks ++ all_value_blocks vs (count d) }
