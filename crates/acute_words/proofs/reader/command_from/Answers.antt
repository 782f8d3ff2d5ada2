use Rattle.std.proofs.Common.{rules, ◌≡◌, ◌∙◌, sym, ap, subst, codes, option_map, IfOk}
use Rattle.acute_words.specs.Commands.{code, files_of, names, request_of}
use Rattle.acute_words.proofs.Getters.{all_found, first_found, whether_found}
use Rattle.acute_words.specs.inner.ByKind.{asked_of}
use Rattle.acute_words.proofs.Asked.{audit_is, chain_is, check_is, make_is, pipe_is, run_is}
use Rattle.acute_words.proofs.reader.command_from.Goals as goal

pub returns-in-Run : goal.returns-in-Run
returns-in-Run c = λ g rows.
    let m = c.args.matches.now in
    let steps = c.get_str.ensures ∙ first_found m g (codes "steps") rows in
    let from = c.get_str-in-Run.ensures ∙ first_found m g (codes "in") rows in
    let to = c.get_str-in-Run-2.ensures ∙ first_found m g (codes "out") rows in
    c.run_from.ensures ∙ run_is g _ _ _ _ (c.program_in.ensures g rows) steps from to ∙ ap (λ k. asked_of k g) (sym c.in-Run.is)

pub returns-in-Names : goal.returns-in-Names
returns-in-Names c = λ g rows.
    let named : option_map request_of c.map.result ≡ option_map names (option_map files_of c.program_in-in-Names.result) = search rules in
    named ∙ ap (option_map names) (c.program_in-in-Names.ensures g rows) ∙ ap (λ k. asked_of k g) (sym c.in-Names.is)

pub returns-in-Code : goal.returns-in-Code
returns-in-Code c = λ g rows.
    let named : option_map request_of c.map-in-Code.result ≡ option_map code (option_map files_of c.program_in-in-Code.result) = search rules in
    named ∙ ap (option_map code) (c.program_in-in-Code.ensures g rows) ∙ ap (λ k. asked_of k g) (sym c.in-Code.is)

pub returns-in-Make : goal.returns-in-Make
returns-in-Make c = λ g rows.
    let m = c.args.matches.now in
    let seed = c.get_str-in-Make.ensures ∙ first_found m g (codes "SEED") rows in
    let modules = c.get_str-in-Make-2.ensures ∙ first_found m g (codes "MODULES") rows in
    let runs = c.contains_id.ensures ∙ whether_found m g (codes "run") rows in
    c.make_from.ensures ∙ make_is g _ _ _ seed modules runs ∙ ap (λ k. asked_of k g) (sym c.in-Make.is)

pub returns-in-Check : goal.returns-in-Check
returns-in-Check c = λ g rows.
    let m = c.args.matches.now in
    let files = c.get_strs.ensures ∙ all_found m g (codes "FILE") rows in
    let shelf = c.get_str-in-Check.ensures ∙ first_found m g (codes "shelf") rows in
    let asked = check_is g _ _ files shelf ∙ ap (λ k. asked_of k g) (sym c.in-Check.is) in
    subst (λ r. IfOk c.check_from.result (λ o. option_map request_of o ≡ r)) asked c.check_from.ensures

pub returns-in-Chain : goal.returns-in-Chain
returns-in-Chain c = λ g rows.
    let m = c.args.matches.now in
    let files = c.get_strs-in-Chain.ensures ∙ all_found m g (codes "FILE") rows in
    let shelf = c.get_str-in-Chain.ensures ∙ first_found m g (codes "shelf") rows in
    let steps = c.get_str-in-Chain-2.ensures ∙ first_found m g (codes "steps") rows in
    let asked = chain_is g _ _ _ files shelf steps ∙ ap (λ k. asked_of k g) (sym c.in-Chain.is) in
    subst (λ r. IfOk c.chain_from.result (λ o. option_map request_of o ≡ r)) asked c.chain_from.ensures

pub returns-in-Audit : goal.returns-in-Audit
returns-in-Audit c = λ g rows.
    let m = c.args.matches.now in
    let file = c.get_str-in-Audit.ensures ∙ first_found m g (codes "PROGRAM") rows in
    let shelf = c.get_str-in-Audit-2.ensures ∙ first_found m g (codes "shelf") rows in
    let channel = c.get_str-in-Audit-3.ensures ∙ first_found m g (codes "CHANNEL") rows in
    let type = c.get_str-in-Audit-4.ensures ∙ first_found m g (codes "as") rows in
    c.audit_from.ensures ∙ audit_is g _ _ _ _ _ c.program_from.ensures file shelf channel type ∙ ap (λ k. asked_of k g) (sym c.in-Audit.is)

pub returns-in-Pipe : goal.returns-in-Pipe
returns-in-Pipe c = λ g rows.
    let m = c.args.matches.now in
    let tool = c.get_str-in-Pipe.ensures ∙ first_found m g (codes "TOOL") rows in
    let sender = c.get_str-in-Pipe-2.ensures ∙ first_found m g (codes "A") rows in
    let file = c.get_str-in-Pipe-3.ensures ∙ first_found m g (codes "B") rows in
    let shelf = c.get_str-in-Pipe-4.ensures ∙ first_found m g (codes "shelf") rows in
    let written = c.get_str-in-Pipe-5.ensures ∙ first_found m g (codes "steps") rows in
    c.pipe_from.ensures ∙ pipe_is g _ _ _ _ _ _ tool sender c.program_from-in-Pipe.ensures file shelf written ∙ ap (λ k. asked_of k g) (sym c.in-Pipe.is)
