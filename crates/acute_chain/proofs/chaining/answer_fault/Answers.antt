use Rattle.ac_chain.specs.declared.chained.ChainFault.TheVariants as fault
use Rattle.acute_answers.specs.declared.status.TheConstants.Status.{REFUSED, CLASH}
use Rattle.acute_chain.specs.Chaining.{program_line, clash_line}
use Rattle.acute_chain.proofs.GivenLaws.{told}
use Rattle.acute_chain.proofs.chaining.answer_fault.Goals as goal

pub returns-in-Refused : goal.returns-in-Refused
returns-in-Refused c =
    let f = c.in-Refused in
    rw f.is (told (fault.Refused f.program f.refusal) REFUSED (program_line f.program f.refusal.part f.refusal.kind) (λ a h. h) tt c.program_line.result c.tell.result c.program_line.ensures c.tell.ensures)

pub returns-in-Clash : goal.returns-in-Clash
returns-in-Clash c =
    let f = c.in-Clash in
    rw f.is (told (fault.Clash f.program1 f.entry1 f.program2 f.entry2) CLASH (clash_line f.program1 f.entry1 f.program2 f.entry2) (λ a h. h) tt c.clash_line-line.result c.tell-in-Clash.result c.clash_line-line.ensures c.tell-in-Clash.ensures)
