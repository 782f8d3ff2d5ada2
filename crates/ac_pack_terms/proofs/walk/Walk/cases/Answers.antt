use Rattle.std.proofs.Common.{◌≡◌, ℕ, suc, List, ◌∷◌, map, length, Result, rules, arith}
use Rattle.ac_types.specs.Types.{Bytes}
use Rattle.ac_terms.specs.Terms.{arms}
use Rattle.ac_terms.specs.Spelling.{two_written}
use Rattle.ac_terms.specs.Heads.{Head, before}
use Rattle.ac_terms.specs.declared.term.Arm.{Arm}
use Rattle.ac_terms.specs.Read.{arm_of}
use Rattle.ac_pack_heads.specs.declared.stop.Stop.{Stop}
use Rattle.ac_pack_terms.specs.declared.piece.PackContext.{PackContext}
use Rattle.ac_pack_terms.specs.declared.piece.Around.{Around}
use Rattle.ac_pack_terms.specs.declared.walk.Walk.{Walk}
use Rattle.ac_pack_terms.specs.Pieces.{arms_at, arms_written_at, cases_written}
use Rattle.ac_pack_terms.specs.inner.Goes.{Visits}
use Rattle.ac_pack_terms.proofs.FormLaws.{counted_arms}
use Rattle.ac_pack_terms.proofs.walk.Walk.cases.Goals as goal

by_count : (s : PackContext) (a : Around) (d : ℕ) (cs : List Arm) (bs : Bytes) (r : Result Unit Stop) (ns : List ℕ) (old new : Walk) →
    ((h : Head) (hs : List Head) → arms_written_at s d (arms_at s a (arms (map arm_of cs))) ≡ h ∷ hs → Visits r (before bs (h ∷ hs)) ns old new) → (length cs ≡ 0 → ⊥) → bs ≡ two_written (length cs) →
    Visits r (cases_written s d (arms_at s a (arms (map arm_of cs)))) ns old new
by_count s a d cs bs r ns old new v some e = counted_arms s a d cs bs r ns old new some e v

pub returns : goal.returns
returns c =
    by_count c.args.self.now.site c.args.around (suc c.args.outer) c.args.cases.now _ c.before-2.result _ c.args.self.now c.before-2.new.self c.before-2.ensures (λ e. absurd (omega (arith, c.in-Ok.ensures)))
    (search rules)
