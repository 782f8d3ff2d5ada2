-- What the adding of blocks to a table needs.
use Rattle.std.proofs.Common.{◌≡◌, ℕ, zero, suc, ◌+◌, List, [], ◌∷◌, ◌++◌, length, length-append, map, take, Option, None, Some, Result, Ok, Err, IfOk, refl, sym, ap, ap₂, ◌∙◌, arith}
use Rattle.std.proofs.lemmas.List.{map-append, length-map, append-nil}
use Rattle.std.proofs.Math.Seq.{take-append_seam}
use Rattle.std.specs.Prelude.{option_map, option_and_then, slice_get}
use Rattle.ac_types.specs.Types.{Typ}
use Rattle.ac_terms.specs.declared.term.Home as code_home
use Rattle.ac_terms.specs.declared.def.Entry as code_entry
use Rattle.ac_terms.specs.declared.env.Env as code_env
use Rattle.ac_code.specs.declared.instr.Instr as code_instr
use Rattle.ac_generate.specs.declared.writer.Writer as code_writer
use Rattle.ac_terms.proofs.EnvLaws.{entry_get}
use Rattle.ac_terms.specs.Terms.{Home, In, Expr, PValue}
use Rattle.ac_terms.specs.Defs.{Module, Def, Entry, Environment, module_of, module_at}
use Rattle.ac_terms.specs.Read.{home_of, def_of_code, entry_of, environment_of}
use Rattle.ac_code.specs.declared.block.Block as code_block
use Rattle.ac_code.specs.declared.context.Context.TheVariants as context
use Rattle.ac_code.specs.declared.instr.CodeId.{CodeId}
use Rattle.ac_code.specs.Code.{Instr, Block, Code}
use Rattle.ac_code.specs.Table.{Table, appended, first_blocks, placed, with_fields}
use Rattle.ac_code.specs.ReadCode.{instr_of, block_of, table_code, block_id}
use Rattle.ac_code.proofs.ContextLaws.{context_of-Empty}
use Rattle.ac_generate.specs.inner.Drafts.{Draft, draft_of, wrote, wrote_value}
use Rattle.ac_generate.specs.Generate.{code, blocks, value_code, value_blocks}
use Rattle.ac_generate.specs.Generated.{own_block, ending, with_blocks, generated, block_number, value_number, fields_generated, field_numbers, entry_generated, KeepsBlocks}
use Rattle.ac_generate.proofs.SizeLaws.{block_count, value_block_count}

-- some blocks, and one more
stored : (t0 t1 : Table) (bs all : List code_block.Block) (b : code_block.Block) → all ≡ bs ++ b ∷ [] → t1 ≡ appended all t0 → table_code t1 ≡ with_blocks (map block_of bs ++ block_of b ∷ []) (table_code t0)
stored t0 t1 bs all b ha h =
    ap table_code h
    ∙ ap (λ (x : List code_block.Block). table_code (appended x t0)) ha
    ∙ ap (λ (x : List Block). record { blocks = x; fields = map (map block_id) t0.fields }) (
    map-append block_of t0.blocks (bs ++ b ∷ []) ∙ ap (λ (x : List Block). map block_of t0.blocks ++ x) (map-append block_of bs (b ∷ []))
    )

-- how many blocks there are then
pub stored_count : (n : ℕ) (t0 t1 : Table) (bs all : List code_block.Block) (b : code_block.Block) → n ≡ length t1.blocks → all ≡ bs ++ b ∷ [] → t1 ≡ appended all t0 → n ≡ length t0.blocks + length (map block_of bs) + 1
stored_count n t0 t1 bs all b hn ha h =
    let added = ap length ha ∙ length-append bs (b ∷ []) in
    let whole = hn ∙ ap (λ (t : Table). length t.blocks) h ∙ length-append t0.blocks all in
    let same = length-map bs block_of in
    omega (arith, added, whole, same)

-- a table that is cut back to its old blocks is the old one, where only blocks were added
pub cut_back : (old more new : Table) (n : ℕ) → KeepsBlocks more old → more.fields ≡ old.fields → n ≡ length old.blocks → new ≡ first_blocks n more → new ≡ old
cut_back old more new n (bs, e) hf hn h =
    h ∙ ap₂ (λ (x : List code_block.Block) (y : List (List CodeId)). record { blocks = x; fields = y }) (ap₂ take hn e ∙ take-append_seam old.blocks bs) hf

pub kept_blocks : (new old : Table) → new ≡ old → KeepsBlocks new old
kept_blocks new old h = ([], ap (λ (t : Table). t.blocks) h ∙ sym (append-nil old.blocks))

abbrev entry_code : ℕ → Code → Option Module → Code
entry_code i K o = elim o [
  | None ↦ K
  | Some m ↦ record { blocks = (fields_generated (In i) m.fields K).blocks; fields = placed i (field_numbers (In i) m.fields K) K.fields }
]

-- nothing is written yet
abbrev pub fresh : ℕ → Draft
fresh n = record { first = n; instrs = []; blocks = [] }

pub whole_stored : (t0 t1 : Table) (bs all : List code_block.Block) (h : code_home.Home) (is xs : List code_instr.Instr) (last : code_instr.Instr) → all ≡ bs ++ record { home = h; lambda = None; context = context.Empty; instrs = is } ∷ [] →
    is ≡ xs ++ last ∷ [] → t1 ≡ appended all t0 → table_code t1 ≡ with_blocks (map block_of bs ++ own_block (home_of h) (map instr_of xs ++ instr_of last ∷ []) ∷ []) (table_code t0)
whole_stored t0 t1 bs all h is xs last ha hi h1 =
    stored t0 t1 bs all (record { home = h; lambda = None; context = context.Empty; instrs = is }) ha h1
    ∙ ap₂ (λ (ts : List Typ) (l : List Instr). with_blocks (map block_of bs ++ record { home = home_of h; lambda = None; context = ts; instrs = l } ∷ []) (table_code t0)) context_of-Empty (ap (map instr_of) hi ∙ map-append instr_of xs (last ∷ []))

pub if_ok : {A E : Type 0} {P Q : A → Type 0} (r : Result A E) → ((a : A) → P a → Q a) → IfOk r P → IfOk r Q
if_ok (Ok a) f h = f a h
if_ok (Err e) f h = tt

pub fresh_written : (w : code_writer.Writer) (n : ℕ) → w.first ≡ n → w.instrs.items ≡ [] → w.finished.items ≡ [] → draft_of w ≡ fresh n
unfolding draft_of
fresh_written w n hn hi hf =
    ap (λ (x : ℕ). record { first = x; instrs = map instr_of w.instrs.items; blocks = map block_of w.finished.items }) hn
    ∙ ap₂ (λ (x : List code_instr.Instr) (y : List code_block.Block). record { first = n; instrs = map instr_of x; blocks = map block_of y }) hi hf

-- an entry that is a module, and one that is none
pub entry_module : (e : code_env.Env) (i : ℕ) (x : code_entry.Entry) (d : Def) → Some x ≡ slice_get e.entries i → def_of_code x.def ≡ d → module_at (environment_of e) i ≡ module_of d
entry_module e i x d h is =
    ap (λ (o : Option Entry). option_and_then module_of (option_map (λ (y : Entry). y.def) o)) (entry_get e i ∙ ap (option_map entry_of) (sym h)) ∙ ap module_of is

pub module_generated : (E : Environment) (i : ℕ) (m : Module) (K X : Code) → module_at E i ≡ Some m → X ≡ record { blocks = (fields_generated (In i) m.fields K).blocks; fields = placed i (field_numbers (In i) m.fields K) K.fields } → X ≡ entry_generated E i K
module_generated E i m K X e h = h ∙ sym (ap (entry_code i K) e)

pub nothing_generated : (E : Environment) (i : ℕ) (K : Code) → module_at E i ≡ None → K ≡ entry_generated E i K
nothing_generated E i K e = sym (ap (entry_code i K) e)

plus_none : (n : ℕ) → n + 0 ≡ n
plus_none n = omega arith

module _ (c : Home) (e : Expr) (G : List Typ) (d0 d : Draft) (K : Code) (n : ℕ) (hG : G ≡ []) (h0 : d0 ≡ fresh n) (hn : n ≡ length K.blocks) (hd : d ≡ wrote c G e d0) where
  same : d ≡ wrote c [] e (fresh (length K.blocks))
  same = hd ∙ ap₂ (λ (x : List Typ) (y : Draft). wrote c x e y) hG (h0 ∙ ap fresh hn)

  wrote_blocks : d.blocks ≡ blocks c [] e (length K.blocks)
  unfolding wrote
  wrote_blocks = ap (λ (x : Draft). x.blocks) same ∙ ap (blocks c [] e) (plus_none (length K.blocks))

  wrote_instrs : d.instrs ≡ code e 0 (length K.blocks)
  unfolding wrote
  wrote_instrs = ap (λ (x : Draft). x.instrs) same ∙ ap (code e 0) (plus_none (length K.blocks))

  pub term_stored : (K' : Code) (i : Instr) → i ≡ ending c → K' ≡ with_blocks (d.blocks ++ own_block c (d.instrs ++ i ∷ []) ∷ []) K → K' ≡ generated c e K
  term_stored K' i hi h =
      h ∙ ap₂ (λ (x : List Block) (y : List Instr). with_blocks (x ++ own_block c (y ++ i ∷ []) ∷ []) K) wrote_blocks wrote_instrs
      ∙ ap (λ (x : Instr). with_blocks (blocks c [] e (length K.blocks) ++ own_block c (code e 0 (length K.blocks) ++ x ∷ []) ∷ []) K) hi

  pub term_numbered : (k m : ℕ) → m ≡ n → k ≡ m + length d.blocks → k ≡ block_number e K
  term_numbered k m hm h = h ∙ ap₂ ◌+◌ (hm ∙ hn) (ap length wrote_blocks ∙ block_count c [] e (length K.blocks))

module _ (v : PValue) (d0 d : Draft) (K : Code) (n : ℕ) (h0 : d0 ≡ fresh n) (hn : n ≡ length K.blocks) (hd : d ≡ wrote_value v d0) where
  same' : d ≡ wrote_value v (fresh (length K.blocks))
  same' = hd ∙ ap (wrote_value v) (h0 ∙ ap fresh hn)

  value_blocks_are : d.blocks ≡ value_blocks v (length K.blocks)
  unfolding wrote_value
  value_blocks_are = ap (λ (x : Draft). x.blocks) same' ∙ ap (value_blocks v) (plus_none (length K.blocks))

  value_instrs_are : d.instrs ≡ value_code v (length K.blocks)
  unfolding wrote_value
  value_instrs_are = ap (λ (x : Draft). x.instrs) same' ∙ ap (value_code v) (plus_none (length K.blocks))

  pub value_stored : (K' : Code) (c : Home) (i : Instr) → K' ≡ with_blocks (d.blocks ++ own_block c (d.instrs ++ i ∷ []) ∷ []) K → K' ≡ with_blocks (value_blocks v (length K.blocks) ++ own_block c (value_code v (length K.blocks) ++ i ∷ []) ∷ []) K
  value_stored K' c i h = h ∙ ap₂ (λ (x : List Block) (y : List Instr). with_blocks (x ++ own_block c (y ++ i ∷ []) ∷ []) K) value_blocks_are value_instrs_are

  pub value_numbered : (k m : ℕ) → m ≡ n → k ≡ m + length d.blocks → k ≡ value_number v K
  value_numbered k m hm h = h ∙ ap₂ ◌+◌ (hm ∙ hn) (ap length value_blocks_are ∙ value_block_count v (length K.blocks))

-- the numbers of an entry's fields, kept
pub placed_map : (i : ℕ) (ids : List CodeId) (fs : List (List CodeId)) → map (map block_id) (placed i ids fs) ≡ placed i (map block_id ids) (map (map block_id) fs)
placed_map zero ids [] = refl
placed_map zero ids (x ∷ fs) = refl
placed_map (suc i) ids [] = ap (λ (l : List (List ℕ)). [] ∷ l) (placed_map i ids [])
placed_map (suc i) ids (x ∷ fs) = ap (λ (l : List (List ℕ)). map block_id x ∷ l) (placed_map i ids fs)

pub fields_kept : (i : ℕ) (ids : List CodeId) (t0 t1 t2 : Table) (K : Code) (numbers : List ℕ) → table_code t1 ≡ K → t1.fields ≡ t0.fields → map block_id ids ≡ numbers → t2 ≡ with_fields i ids t1 →
    table_code t2 ≡ record { blocks = K.blocks; fields = placed i numbers (map (map block_id) t0.fields) }
fields_kept i ids t0 t1 t2 K numbers hK hf hi h =
    ap table_code h ∙ ap₂ (λ (x : List Block) (y : List (List ℕ)). record { blocks = x; fields = y }) (ap (λ (X : Code). X.blocks) hK)
    (placed_map i ids t1.fields ∙ ap₂ (λ (x : List ℕ) (y : List (List CodeId)). placed i x (map (map block_id) y)) hi hf)
