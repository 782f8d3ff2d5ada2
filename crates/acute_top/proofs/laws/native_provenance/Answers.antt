use Rattle.std.proofs.Common.{◌≡◌, ℕ, Bool, List, [], ◌++◌, refl, ap, arith}
use Rattle.ac_types.specs.Types.{Bytes}
use Rattle.ac_rules.specs.Views.{Coloured}
use Rattle.ac_load_rules.specs.Accepting.{Shelved}
use Rattle.acute_files.proofs.Wider.{good_shelf}
use Rattle.ac_chain.specs.ChainMeaning.{Runs, console_of}
use Rattle.ac_chain.specs.ChainTexts.{texts_of}
use Rattle.ac_chain.proofs.ProvenanceLaws.{runs_provenance}
use Rattle.acute_answers.specs.declared.status.Status.{Status}
use Rattle.acute_answers.specs.declared.status.TheConstants.Status.{FINISHED}
use Rattle.acute_answers.specs.Answers.{ShownAnswer}
use Rattle.acute_chain.specs.Chaining.{Chains, refused_program, clashing, ran, lines_behind}
use Rattle.acute_top.proofs.laws.native_provenance.Goals as goal

-- its programs have run
has_run : (texts : List Bytes) (shelf : List Shelved) (steps : ℕ) (told : Bool) (console : Bytes) (a : ShownAnswer) → Chains Coloured texts shelf steps told console a → a.status ≡ FINISHED → (r : Runs Coloured texts shelf steps told) × (a.printed ≡ console_of r.ends ++ lines_behind 1 [] r.ends)
has_run texts shelf steps told _ _ (refused_program program part kind x) is = let e : 1 ≡ 0 = ap (λ (s : Status). s.0) is in absurd (omega (arith, e))
has_run texts shelf steps told _ _ (clashing a i b j x) is = let e : 8 ≡ 0 = ap (λ (s : Status). s.0) is in absurd (omega (arith, e))
has_run texts shelf steps told _ _ (ran r h) is = (r, refl)

pub returns : goal.returns
returns c = λ programs list steps files told a x is.
    let good = good_shelf files list x.shelf x.is_shelf in
    let run = has_run (texts_of x.texts) x.shelf steps told x.console a (x.chains Coloured) is in
    (run.0, run.1, runs_provenance (texts_of x.texts) x.shelf steps told good.0 good.1 run.0)
