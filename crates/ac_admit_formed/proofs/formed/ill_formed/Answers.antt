use Rattle.std.proofs.Common.{◌≡◌, ◌∙◌, sym, ap, ℕ, true, arith, rules, tests}
use Rattle.std.proofs.lemmas.Grind.{common_steps}
use Rattle.ac_terms.specs.declared.def.Entry as code
use Rattle.ac_terms.specs.Bounds.{fits_def}
use Rattle.ac_terms.specs.Defs.{Entry}
use Rattle.ac_terms.specs.Read.{environment_of, entry_of}
use Rattle.ac_rules.specs.Modules.{is_well_formed}
use Rattle.ac_admit_formed.proofs.FormedLaws.{wrong_next, fits_next}
use Rattle.ac_admit_formed.proofs.formed.ill_formed.Goals as goal

pub loop-i-preserved : goal.loop-i-preserved
loop-i-preserved c =
    let E = environment_of c.args.env.now in
    let i : ℕ = c.loop-i.i in
    let es = c.entries-entries.result.now in
    let x = c.index-entries-i.result in
    let passed : c.in_ok-is_well_formed.field-0 ≡ true = (let h = c.if-not-branch.false in first_of (cc, search (rules, tests), grind (arith, common_steps))) in
    let formed : is_well_formed E i (entry_of x).def ≡ true =
    ap (λ (y : code.Entry). is_well_formed E i (entry_of y).def) c.index-entries-i.is ∙ sym c.in_ok-is_well_formed.ensures ∙ passed in
    record {
      fits = fits_next (λ (e : Entry). fits_def e.def) i es x (omega arith) c.index-entries-i.is c.loop-i.invariant.fits;
      left = c.loop-i.invariant.left ∙ wrong_next (is_well_formed E) i es x (omega arith) c.index-entries-i.is formed;
    }
