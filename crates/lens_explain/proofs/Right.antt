-- Verdicts of texts that are refused.
use Rattle.std.proofs.Common.{◌≡◌, refl, sym, subst, arith, List, [], ◌∷◌, map, Result, Ok, Err, IfOk}
use Rattle.std.specs.Prelude.{Contains}
use Rattle.ac_types.specs.Types.{Bytes}
use Rattle.ac_types.specs.declared.memory.Memory.{Memory}
use Rattle.ac_load_rules.specs.Accepting.{Shelved}
use Rattle.lens_explain.specs.Verdicts.{IsRejected, IsRight, refused}
use Rattle.lens_explain.specs.declared.explained.Explained.{Explained}
use Rattle.lens_explain.specs.declared.explained.TextVerdict.{TextVerdict}
use Rattle.lens_explain.specs.declared.explained.TextVerdict.TheVariants.{Refused}

-- where a text is rejected, it is right that it is refused
pub refused_right : (text : Bytes) (shelf : List Shelved) → IsRejected text shelf → (r : Result Explained Memory) → IfOk r (λ x. x.verdict ≡ Refused) → IfOk r (λ x. IsRight text shelf x.verdict)
refused_right text shelf h (Ok x) is = subst (λ (v : TextVerdict). IsRight text shelf v) (sym is) (refused h)
refused_right text shelf h (Err m) is = tt

-- the only text of a shelf is among its texts
pub only_text : (texts : List Shelved) (only : Shelved) → texts ≡ only ∷ [] → Contains (map (λ (s : Shelved). s.text) texts) only.text
only_text texts only is = subst (λ (ts : List Shelved). Contains (map (λ (s : Shelved). s.text) ts) only.text) (sym is) (0, omega arith, refl)
