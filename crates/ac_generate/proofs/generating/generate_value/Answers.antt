use Rattle.std.proofs.Common.{◌∙◌, length, sym}
use Rattle.std.proofs.lemmas.List.{length-map}
use Rattle.ac_terms.specs.Terms.{Main}
use Rattle.ac_terms.specs.Read.{value_of}
use Rattle.ac_code.specs.Code.{Return}
use Rattle.ac_code.specs.ReadCode.{block_of, table_code}
use Rattle.ac_generate.specs.inner.Drafts.{draft_of}
use Rattle.ac_generate.proofs.Written.{on_ok}
use Rattle.ac_generate.proofs.TableLaws.{if_ok, fresh_written, value_stored, value_numbered}
use Rattle.ac_generate.proofs.generating.generate_value.Goals as goal

pub returns-clause-ok : goal.returns-clause-ok
returns-clause-ok c =
    on_ok c.store.result (value_stored (value_of c.args.value.now) (draft_of c.new-writer.result) (draft_of c.value.new.self) (table_code c.args.table.now) c.len.result
    (fresh_written c.new-writer.result c.len.result c.new-writer.ensures.first c.new-writer.ensures.instrs c.new-writer.ensures.finished) (c.len.ensures ∙ sym (length-map c.args.table.now.blocks block_of)) c.in_ok-value.ensures
    (table_code c.store.new.table) Main Return) c.store.ensures.ok

pub returns-clause-number : goal.returns-clause-number
returns-clause-number c =
    if_ok c.store.result (λ id h. value_numbered (value_of c.args.value.now) (draft_of c.new-writer.result) (draft_of c.value.new.self) (table_code c.args.table.now) c.len.result
    (fresh_written c.new-writer.result c.len.result c.new-writer.ensures.first c.new-writer.ensures.instrs c.new-writer.ensures.finished) (c.len.ensures ∙ sym (length-map c.args.table.now.blocks block_of)) c.in_ok-value.ensures
    id.0 (length c.args.table.now.blocks) (sym c.len.ensures) h) c.store.ensures.number
