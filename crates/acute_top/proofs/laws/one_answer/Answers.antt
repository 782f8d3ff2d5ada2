use Rattle.std.proofs.Common.{◌≡◌, ℕ, Bool, IsTrue, List, Option, refl, subst}
use Rattle.ac_types.specs.Types.{Bytes}
use Rattle.ac_types.specs.declared.text.Text.{Text}
use Rattle.ac_rules.specs.Views.{Plain}
use Rattle.acute_words.specs.Commands.{ProgramFiles, Request, run, names, code, make, check, chain, audit, pipe}
use Rattle.ac_load_rules.specs.Accepting.{Shelved}
use Rattle.acute_files.specs.ChannelFiles.{HasFrames}
use Rattle.acute_files.specs.Files.{Reading}
use Rattle.ac_chain.specs.ChainTexts.{texts_of}
use Rattle.acute_answers.specs.declared.showing.Showing.{Showing}
use Rattle.acute_answers.specs.declared.showing.Showing.TheVariants.{Names, Code}
use Rattle.acute_answers.specs.Answers.{ShownAnswer}
use Rattle.acute_answers.specs.Auditing.{Audits}
use Rattle.acute_answers.specs.Checking.{Checks}
use Rattle.acute_answers.specs.Showing.{Shows}
use Rattle.acute_answers.proofs.OneAnswer.{Alike, one_shown, one_made, one_checked, one_audited}
use Rattle.acute_chain.specs.Chaining.{Chains}
use Rattle.acute_top.specs.ChainEndings.{ChainsFiles}
use Rattle.acute_top.specs.Giving.{Gives, ShowsFile, ChecksFiles, AuditsFile}
use Rattle.acute_top.proofs.FileLaws.{one_text, one_shelf, one_list, one_channel}
use Rattle.acute_top.proofs.OneChain.{AlikeWhere, one_chain}
use Rattle.acute_top.proofs.laws.one_answer.Goals as goal

-- one status, and but for `check` one print
abbrev OneAnswer : Request → ShownAnswer → ShownAnswer → Type 0
OneAnswer r a b = (a.status ≡ b.status) × (((files : List Bytes) (list : Option Bytes) → r ≡ check files list → ⊥) → a.printed ≡ b.printed)

alike : (r : Request) (a b : ShownAnswer) → Alike a b → OneAnswer r a b
alike r a b is = (is.0, λ other. is.1)

module _ (files : Bytes → Reading) (told : (name : Bytes) → IsTrue (files name).told) (a b : ShownAnswer) where
  showing : (what : Showing) (p : ProgramFiles) → ShowsFile what files p a → ShowsFile what files p b → Alike a b
  showing what p x y =
      let text = one_text (files p.file) (told p.file) x.text y.text x.is_text y.is_text in
      let shelf = one_shelf files told x.is_shelf y.is_shelf in
      one_shown what y.text y.shelf a b (subst (λ (s : List Shelved). Shows what y.text s a) shelf (subst (λ (t : Bytes). Shows what t x.shelf a) text x.shows)) y.shows

  checking : (checked : List Bytes) (list : Option Bytes) → ChecksFiles files checked list a → ChecksFiles files checked list b → a.status ≡ b.status
  checking checked list x y =
      let texts = one_list files told checked x.texts y.texts x.are_texts y.are_texts in
      let shelf = one_shelf files told x.is_shelf y.is_shelf in
      one_checked checked y.texts y.shelf a b (subst (λ (s : List Shelved). Checks checked y.texts s a) shelf (subst (λ (t : List Text). Checks checked t x.shelf a) texts x.checks)) y.checks

  auditing : (p : ProgramFiles) (channel type : Bytes) → AuditsFile files p channel type a → AuditsFile files p channel type b → Alike a b
  auditing p channel type x y =
      let text = one_text (files p.file) (told p.file) x.text y.text x.is_text y.is_text in
      let shelf = one_shelf files told x.is_shelf y.is_shelf in
      let first = subst (λ (t : Bytes). Audits t x.shelf type (HasFrames (files channel)) a) text x.audits in
      one_audited y.text y.shelf type (HasFrames (files channel)) (one_channel (files channel) (told channel)) a b (subst (λ (s : List Shelved). Audits y.text s type (HasFrames (files channel)) a) shelf first) y.audits

  one : (r : Request) → Gives files r a → Gives files r b → OneAnswer r a b
  one (run p steps from to) x y = absurd x
  one (names p) x y = alike (names p) a b (showing Names p x y)
  one (code p) x y = alike (code p) a b (showing Code p x y)
  one (make seed modules runs) x y = alike (make seed modules runs) a b (one_made seed modules runs a b x y)
  one (check checked list) x y = (checking checked list x y, λ other. absurd (other checked list refl))
  one (chain programs list steps) x y = absurd x
  one (audit p channel type) x y = alike (audit p channel type) a b (auditing p channel type x y)
  one (pipe tool sender p steps written) x y = absurd x

  chaining : (programs : List Bytes) (list : Option Bytes) (steps : ℕ) (shown : Bool) → ChainsFiles files programs list steps shown a → ChainsFiles files programs list steps shown b → AlikeWhere shown a b
  chaining programs list steps shown x y =
      let texts = one_list files told programs x.texts y.texts x.are_texts y.are_texts in
      let shelf = one_shelf files told x.is_shelf y.is_shelf in
      let first = subst (λ (t : List Text). Chains Plain (texts_of t) x.shelf steps shown x.console a) texts (x.chains Plain) in
      one_chain (texts_of y.texts) y.shelf Plain steps shown x.console y.console a b (subst (λ (s : List Shelved). Chains Plain (texts_of y.texts) s steps shown x.console a) shelf first) (y.chains Plain)

pub returns-clause-found : goal.returns-clause-found
returns-clause-found c = λ r files told a b x y. one files told a b r x y

pub returns-clause-chained : goal.returns-clause-chained
returns-clause-chained c = λ programs list steps shown files told a b x y. chaining files told a b programs list steps shown x y
