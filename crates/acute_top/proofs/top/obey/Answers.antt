use Rattle.std.proofs.Common.{refl, sym, ap, arith}
use Rattle.ac_outside.specs.Outside.{Contents}
use Rattle.acute_files.specs.ReadOrder.{without_list}
use Rattle.acute_top.specs.Stages.{AtTexts}
use Rattle.acute_top.proofs.FileLaws.{named_counted}
use Rattle.acute_top.proofs.top.obey.Goals as goal

pub returns-in-Run-clause-ends : goal.returns-in-Run-clause-ends
returns-in-Run-clause-ends g c = rw c.in-Run.is c.run_file.ensures.ends

pub returns-in-Run-clause-kept : goal.returns-in-Run-clause-kept
returns-in-Run-clause-kept g c = rw c.in-Run.is c.run_file.ensures.kept

pub returns-in-Names-clause-ends : goal.returns-in-Names-clause-ends
returns-in-Names-clause-ends g c = rw c.in-Names.is (AtTexts, (refl, c.show_file.ensures.only), c.show_file.ensures.ends)

pub returns-in-Names-clause-kept : goal.returns-in-Names-clause-kept
returns-in-Names-clause-kept g c = rw c.in-Names.is (λ told name h. ap (λ (k : Contents). k name) (c.show_file.ensures.same told))

pub returns-in-Code-clause-ends : goal.returns-in-Code-clause-ends
returns-in-Code-clause-ends g c = rw c.in-Code.is (AtTexts, (refl, c.show_file-in-Code.ensures.only), c.show_file-in-Code.ensures.ends)

pub returns-in-Code-clause-kept : goal.returns-in-Code-clause-kept
returns-in-Code-clause-kept g c = rw c.in-Code.is (λ told name h. ap (λ (k : Contents). k name) (c.show_file-in-Code.ensures.same told))

pub returns-in-Make-clause-ends : goal.returns-in-Make-clause-ends
returns-in-Make-clause-ends g c = rw c.in-Make.is (AtTexts, (refl, without_list refl), c.make_program.ensures _)

pub returns-in-Make-clause-kept : goal.returns-in-Make-clause-kept
returns-in-Make-clause-kept g c = rw c.in-Make.is (λ told name h. refl)

pub returns-in-Check-clause-ends : goal.returns-in-Check-clause-ends
returns-in-Check-clause-ends g c = rw (c.in-Check.is, sym c.as_slice-names.ensures.value) (AtTexts, (refl, c.check_files.ensures.only), c.check_files.ensures.ends)

pub returns-in-Check-clause-kept : goal.returns-in-Check-clause-kept
returns-in-Check-clause-kept g c = rw c.in-Check.is (λ told name h. ap (λ (k : Contents). k name) (c.check_files.ensures.same told))

pub chain_files-requires : goal.chain_files-requires
chain_files-requires g c =
    let short = rw c.in-Chain.is at c.requires.short in
    let named = named_counted c.in-Chain.chain.files.items in
    rw c.as_slice-programs.ensures.value (omega (arith, short, named))

pub returns-in-Chain-clause-ends : goal.returns-in-Chain-clause-ends
returns-in-Chain-clause-ends g c = rw (c.in-Chain.is, sym c.as_slice-programs.ensures.value) (AtTexts, (refl, c.chain_files.ensures.only), c.chain_files.ensures.ends)

pub returns-in-Chain-clause-kept : goal.returns-in-Chain-clause-kept
returns-in-Chain-clause-kept g c = rw c.in-Chain.is (λ told name h. ap (λ (k : Contents). k name) (c.chain_files.ensures.same told))

pub returns-in-Audit-clause-ends : goal.returns-in-Audit-clause-ends
returns-in-Audit-clause-ends g c = rw c.in-Audit.is (AtTexts, (refl, c.audit_file.ensures.only), c.audit_file.ensures.ends)

pub returns-in-Audit-clause-kept : goal.returns-in-Audit-clause-kept
returns-in-Audit-clause-kept g c = rw c.in-Audit.is (λ told name h. ap (λ (k : Contents). k name) (c.audit_file.ensures.same told))

pub returns-in-Pipe-clause-ends : goal.returns-in-Pipe-clause-ends
returns-in-Pipe-clause-ends g c = rw c.in-Pipe.is (AtTexts, (refl, c.pipe_files.ensures.only), c.pipe_files.ensures.ends)

pub returns-in-Pipe-clause-kept : goal.returns-in-Pipe-clause-kept
returns-in-Pipe-clause-kept g c = rw c.in-Pipe.is (λ told name h. ap (λ (k : Contents). k name) (c.pipe_files.ensures.same told))

pub returns-in-Pipe-clause-unspawned : goal.returns-in-Pipe-clause-unspawned
returns-in-Pipe-clause-unspawned g c = rw c.in-Pipe.is (λ none. absurd none)
