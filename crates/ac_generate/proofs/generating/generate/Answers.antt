use Rattle.std.proofs.Common.{◌∙◌, length, sym}
use Rattle.std.proofs.lemmas.List.{length-map}
use Rattle.ac_terms.specs.Read.{home_of, expr_of}
use Rattle.ac_code.specs.ReadCode.{instr_of, block_of, table_code}
use Rattle.ac_generate.specs.inner.Drafts.{draft_of}
use Rattle.ac_code.proofs.ContextLaws.{context_of-Empty}
use Rattle.ac_generate.proofs.Written.{on_ok}
use Rattle.ac_generate.proofs.TableLaws.{if_ok, fresh_written, term_stored, term_numbered}
use Rattle.ac_generate.proofs.generating.generate.Goals as goal

pub returns-clause-ok : goal.returns-clause-ok
returns-clause-ok c =
    on_ok c.store.result (term_stored (home_of c.args.home) (expr_of c.args.term.now) _ (draft_of c.new-writer.result) (draft_of c.term.new.self) (table_code c.args.table.now) c.len.result
    context_of-Empty (fresh_written c.new-writer.result c.len.result c.new-writer.ensures.first c.new-writer.ensures.instrs c.new-writer.ensures.finished) (c.len.ensures ∙ sym (length-map c.args.table.now.blocks block_of)) c.in_ok-term.ensures
    (table_code c.store.new.table) (instr_of c.ending.result) c.ending.ensures) c.store.ensures.ok

pub returns-clause-number : goal.returns-clause-number
returns-clause-number c =
    if_ok c.store.result (λ id h. term_numbered (home_of c.args.home) (expr_of c.args.term.now) _ (draft_of c.new-writer.result) (draft_of c.term.new.self) (table_code c.args.table.now) c.len.result
    context_of-Empty (fresh_written c.new-writer.result c.len.result c.new-writer.ensures.first c.new-writer.ensures.instrs c.new-writer.ensures.finished) (c.len.ensures ∙ sym (length-map c.args.table.now.blocks block_of)) c.in_ok-term.ensures
    id.0 (length c.args.table.now.blocks) (sym c.len.ensures) h) c.store.ensures.number
