-- What a text gives is one thing; only where a place in `syntax` stands two lines may differ.
use Rattle.std.proofs.Common.{◌≡◌, ◌∙◌, ℕ, Bool, true, false, ◌&&◌, List, [], ◌∷◌, length, refl, sym, ap, ap₂, subst}
use Rattle.std.specs.Prelude.{if◌then◌else◌}
use Rattle.std.specs.List.{list_all}
use Rattle.ac_types.specs.Types.{Bytes, Typ}
use Rattle.ac_types.specs.declared.text.Text.{Text}
use Rattle.ac_terms.specs.Terms.{Expr}
use Rattle.ac_terms.specs.Defs.{Environment}
use Rattle.ac_rules.specs.Views.{Mode, Coloured}
use Rattle.ac_meaning.specs.Writes.{Write, Console, written}
use Rattle.ac_load_rules.specs.Accepting.{Shelved}
use Rattle.ac_load.specs.Loading.{Loads}
use Rattle.ac_batch.specs.Verdicts.{IsVerdict, AreVerdicts, accepted, refused}
use Rattle.ac_batch.specs.declared.verdict.Verdict.{Verdict}
use Rattle.acute_answers.specs.declared.showing.Showing.{Showing}
use Rattle.acute_answers.specs.declared.status.TheConstants.Status.{FINISHED, REFUSED}
use Rattle.acute_answers.specs.Answers.{ShownAnswer}
use Rattle.ac_channels.specs.ChannelFrames.{ChannelFrames}
use Rattle.ac_audit.specs.TypeTexts.{IsTypeText, RefusesType}
use Rattle.ac_audit.proofs.TypeLaws.{one_text, text_or_refused}
use Rattle.ac_audit.proofs.VerdictLaws.{one_list}
use Rattle.acute_answers.specs.Auditing.{AuditsFrames, refused_channel, audited, RefusesAudit, refused_program, refused_type, Audits, not_audited, read_channel, frames_status, frame_lines}
use Rattle.acute_answers.specs.Checking.{Checks, checked, is_accepted}
use Rattle.acute_answers.specs.Making.{Makes, RunsMade, ended, stopped, run_lines}
use Rattle.acute_answers.specs.Showing.{Shows, not_shown, is_shown, shown}
use Rattle.acute_answers.proofs.LoadedLaws.{not_rejected, one_program}
use Rattle.acute_answers.proofs.TextLaws.{one_in}

-- one status, and one print
abbrev pub Alike : ShownAnswer → ShownAnswer → Type 0
Alike a b = (a.status ≡ b.status) × (a.printed ≡ b.printed)

pub one_shown : (what : Showing) (text : Bytes) (shelf : List Shelved) (a b : ShownAnswer) → Shows what text shelf a → Shows what text shelf b → Alike a b
one_shown what text shelf _ _ (not_shown part kind x) (not_shown n k y) = (refl, refl)
one_shown what text shelf _ _ (not_shown part kind x) (is_shown E e T y) = absurd (not_rejected x y)
one_shown what text shelf _ _ (is_shown E e T x) (not_shown n k y) = absurd (not_rejected y x)
one_shown what text shelf _ _ (is_shown E e T x) (is_shown F f U y) =
    let same = one_program x y in
    (refl, ap₂ (λ (G : Environment) (g : Expr). shown what G g) same.0 same.1)

one_run : (mode : Mode) (steps modules : ℕ) (text : Bytes) (a b : ShownAnswer) → RunsMade mode steps modules text a → RunsMade mode steps modules text b → Alike a b
one_run mode steps modules text _ _ (ended x means is) (ended y others same) =
    (refl, ap (λ (w : List Write). run_lines modules (length text) (length (written Console w))) (one_in mode means others).1)
one_run mode steps modules text _ _ (ended x means is) (stopped y others not) = absurd (not (sym (one_in mode means others).0 ∙ is))
one_run mode steps modules text _ _ (stopped x means not) (ended y others same) = absurd (not ((one_in mode means others).0 ∙ same))
one_run mode steps modules text _ _ (stopped x means not) (stopped y others nor) = ((one_in mode means others).0, refl)

pub one_made : (seed modules : ℕ) (runs : Bool) (a b : ShownAnswer) → Makes seed modules runs a → Makes seed modules runs b → Alike a b
one_made seed modules true a b x y = one_run Coloured _ modules _ a b (x Coloured) (y Coloured)
one_made seed modules false a b x y = let same : a ≡ b = x ∙ sym y in (ap (λ (z : ShownAnswer). z.status) same, ap (λ (z : ShownAnswer). z.printed) same)

one_verdict : (text : Bytes) (shelf : List Shelved) (v w : Verdict) → IsVerdict text shelf v → IsVerdict text shelf w → is_accepted v ≡ is_accepted w
one_verdict text shelf _ _ (accepted x) (accepted y) = refl
one_verdict text shelf _ _ (accepted x) (refused y) = absurd (not_rejected y x)
one_verdict text shelf _ _ (refused x) (accepted y) = absurd (not_rejected x y)
one_verdict text shelf _ _ (refused x) (refused y) = refl

one_verdicts : (texts : List Text) (shelf : List Shelved) (vs ws : List Verdict) → AreVerdicts texts shelf vs → AreVerdicts texts shelf ws → list_all is_accepted vs ≡ list_all is_accepted ws
one_verdicts [] shelf [] [] x y = refl
one_verdicts [] shelf [] (w ∷ ws) x y = absurd y
one_verdicts [] shelf (v ∷ vs) ws x y = absurd x
one_verdicts (t ∷ texts) shelf [] ws x y = absurd x
one_verdicts (t ∷ texts) shelf (v ∷ vs) [] x y = absurd y
one_verdicts (t ∷ texts) shelf (v ∷ vs) (w ∷ ws) x y = ap₂ (λ (b c : Bool). b && c) (one_verdict t.0 shelf v w x.0 y.0) (one_verdicts texts shelf vs ws x.1 y.1)

pub one_checked : (names : List Bytes) (texts : List Text) (shelf : List Shelved) (a b : ShownAnswer) → Checks names texts shelf a → Checks names texts shelf b → a.status ≡ b.status
one_checked names texts shelf _ _ (checked vs x) (checked ws y) = ap (λ (b : Bool). if b then FINISHED else REFUSED) (one_verdicts texts shelf vs ws x y)

-- one answer of one channel
one_of_frames : (E : Environment) (T : Typ) (f : ChannelFrames) (a b : ShownAnswer) → AuditsFrames E T f a → AuditsFrames E T f b → Alike a b
one_of_frames E T _ _ _ (refused_channel k) (refused_channel _) = (refl, refl)
one_of_frames E T _ _ _ (audited ss vs x) (audited _ ws y) =
    let same = one_list E T ss vs ws x y in
    (ap frames_status same, ap frame_lines same)

one_refused : (text : Bytes) (shelf : List Shelved) (type : Bytes) (a b : ShownAnswer) → RefusesAudit text shelf type a → RefusesAudit text shelf type b → Alike a b
one_refused text shelf type _ _ (refused_program part kind x) (refused_program n k y) = (refl, refl)
one_refused text shelf type _ _ (refused_program part kind x) (refused_type E e T k loads y) = (refl, refl)
one_refused text shelf type _ _ (refused_type E e T k loads y) (refused_program part kind x) = (refl, refl)
one_refused text shelf type _ _ (refused_type E e T k loads y) (refused_type F f U l others z) = (refl, refl)

not_refused : (text : Bytes) (shelf : List Shelved) (type : Bytes) (a : ShownAnswer) (E : Environment) (e : Expr) (T U : Typ) → RefusesAudit text shelf type a → Loads text shelf E e T → IsTypeText E type U → ⊥
not_refused text shelf type _ E e T U (refused_program part kind x) loads is = not_rejected x loads
not_refused text shelf type _ E e T U (refused_type F f V k others y) loads is =
    let same = one_program others loads in text_or_refused E type U k is (subst (λ (G : Environment). RefusesType G type k) same.0 y)

pub one_audited : (text : Bytes) (shelf : List Shelved) (type : Bytes) (Has : ChannelFrames → Type 0) → ((f g : ChannelFrames) → Has f → Has g → f ≡ g) → (a b : ShownAnswer) → Audits text shelf type Has a → Audits text shelf type Has b → Alike a b
one_audited text shelf type Has one a b (not_audited x) (not_audited y) = one_refused text shelf type a b x y
one_audited text shelf type Has one a b (not_audited x) (read_channel E e T U f loads is has says) = absurd (not_refused text shelf type a E e T U x loads is)
one_audited text shelf type Has one a b (read_channel E e T U f loads is has says) (not_audited y) = absurd (not_refused text shelf type b E e T U y loads is)
one_audited text shelf type Has one a b (read_channel E e T U f loads is has says) (read_channel F g V W h others are too tells) =
    let same = (one_program loads others).0 in
    let frames : f ≡ h = one f h has too in
    let ty : U ≡ W = one_text F type U W (subst (λ (G : Environment). IsTypeText G type U) same is) are in
    one_of_frames F W h a b
    (subst (λ (x : ChannelFrames). AuditsFrames F W x a) frames (subst (λ (V : Typ). AuditsFrames F V f a) ty (subst (λ (G : Environment). AuditsFrames G U f a) same says))) tells
