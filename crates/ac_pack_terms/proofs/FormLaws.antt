-- The reading of each form, and what its parts speak of.
use Rattle.std.proofs.Common.{◌≡◌, refl, sym, ap, ap₂, ◌∙◌, ℕ, suc, List, [], ◌∷◌, ◌++◌, map, length, Result}
use Rattle.std.proofs.lemmas.List.{map-append}
use Rattle.std.proofs.lemmas.List.Concat.{flat_map-append}
use Rattle.ac_types.specs.Types.{Bytes}
use Rattle.ac_terms.specs.Terms.{Home, Pattern, PWild, PVar, PInt, PBool, PStr, PUnit, PTuple, PNil, PCons, PAbsent, PPresent, PExn, PExnOf, Arms, no_arms, arm, arms, exprs}
use Rattle.ac_terms.specs.Defs.{Environment}
use Rattle.ac_terms.specs.Read.{home_of, expr_of, arm_of}
use Rattle.ac_terms.specs.declared.term.Arm.{Arm}
use Rattle.ac_terms.specs.declared.term.Term.{Term}
use Rattle.ac_terms.specs.Spelling.{two_written, arm_count, term_count}
use Rattle.ac_terms.specs.Heads.{Head, before, pattern_heads, term_heads, arm_heads}
use Rattle.ac_terms.specs.Renumbered.{all_renumbered, arms_renumbered}
use Rattle.ac_canon.proofs.PatternForms.{pattern_laws as read_patterns}
use Rattle.ac_terms.proofs.TermForms.{term_forms}
use Rattle.ac_canon.proofs.ValueForms.{term_laws as read_terms}
use Rattle.ac_pack_heads.specs.declared.stop.Stop.{Stop}
use Rattle.ac_meaning.specs.BareTerms.{bare_all, bare_arms}
use Rattle.ac_meaning.specs.BareReduction.{BareWritten, inst_all, inst_arms}
use Rattle.ac_meaning.specs.BarePacking.{bare_packed_terms, bare_packed_arms}
use Rattle.ac_pack_terms.specs.declared.piece.PackContext.{PackContext}
use Rattle.ac_pack_terms.specs.declared.piece.Around.{Around}
use Rattle.ac_pack_terms.specs.declared.walk.Walk.{Walk}
use Rattle.ac_pack_terms.specs.Pieces.{entries_at, number_at, captured_at, arms_at, arms_written_at, cases_written}
use Rattle.ac_pack_terms.specs.inner.Goes.{Visits}
use Rattle.ac_pack_terms.proofs.WalkLaws.{wants_memory, visits_same}

-- a pattern has a first head
pub first_head : (d : ℕ) (p : Pattern) → (h : Head) × (hs : List Head) × (pattern_heads d p ≡ h ∷ hs)
first_head d PWild = (_, _, refl)
first_head d (PVar T) = (_, _, refl)
first_head d (PInt n) = (_, _, refl)
first_head d (PBool b) = (_, _, refl)
first_head d (PStr s) = (_, _, refl)
first_head d PUnit = (_, _, refl)
first_head d (PTuple ps) = (_, _, refl)
first_head d PNil = (_, _, refl)
first_head d (PCons p q) = (_, _, refl)
first_head d PAbsent = (_, _, refl)
first_head d (PPresent p) = (_, _, refl)
first_head d (PExn k) = (_, _, refl)
first_head d (PExnOf k p) = (_, _, refl)

arms_counted : (E : Environment) (f : ℕ → ℕ) (b : ℕ) (ws : BareWritten) (c : Home) (cs : List Arm) → arm_count (arms_renumbered f (bare_packed_arms E (inst_arms b ws (bare_arms c (arms (map arm_of cs)))))) ≡ length cs
arms_counted E f b ws c [] = refl
arms_counted E f b ws c (x ∷ cs) = ap suc (arms_counted E f b ws c cs)

pub site_arms_counted : (s : PackContext) (a : Around) (cs : List Arm) → arm_count (arms_renumbered (number_at s) (arms_at s a (arms (map arm_of cs)))) ≡ length cs
site_arms_counted s a cs = arms_counted (entries_at s) (number_at s) a.binders (captured_at s a) (home_of a.home) cs

pub terms_counted : (E : Environment) (f : ℕ → ℕ) (b : ℕ) (ws : BareWritten) (c : Home) (ts : List Term) → term_count (all_renumbered f (bare_packed_terms E (inst_all b ws (bare_all c (exprs (map expr_of ts)))))) ≡ length ts
terms_counted E f b ws c [] = refl
terms_counted E f b ws c (t ∷ ts) = ap suc (terms_counted E f b ws c ts)

-- some arms have a first head
some_head : (d : ℕ) (all : Arms) → (arm_count all ≡ 0 → ⊥) → (h : Head) × (hs : List Head) × (arm_heads two_written d all ≡ h ∷ hs)
some_head d no_arms some = absurd (some refl)
some_head d (arm p e rest) some =
    let q = first_head d p in
    (q.0, (q.1 ++ term_heads two_written d e) ++ arm_heads two_written d rest, ap (λ hs. (hs ++ term_heads two_written d e) ++ arm_heads two_written d rest) q.2)

-- arms behind their count
pub counted_arms : (s : PackContext) (a : Around) (d : ℕ) (cs : List Arm) (bs : Bytes) (r : Result Unit Stop) (ns : List ℕ) (old new : Walk) → (length cs ≡ 0 → ⊥) → bs ≡ two_written (length cs) →
    ((h : Head) (hs : List Head) → arms_written_at s d (arms_at s a (arms (map arm_of cs))) ≡ h ∷ hs → Visits r (before bs (h ∷ hs)) ns old new) → Visits r (cases_written s d (arms_at s a (arms (map arm_of cs)))) ns old new
counted_arms s a d cs bs r ns old new some e v =
    let n = site_arms_counted s a cs in
    let p = some_head d (arms_renumbered (number_at s) (arms_at s a (arms (map arm_of cs)))) (λ q. some (sym n ∙ q)) in
    visits_same r (before bs (p.0 ∷ p.1)) _ ns ns old new (ap₂ before (e ∙ ap two_written (sym n)) (sym p.2)) refl (v p.0 p.1 p.2)

pub ruleset pattern_laws = (wants_memory, read_patterns, flat_map-append, map-append)

pub ruleset form_laws = (term_forms)

pub ruleset term_laws = (wants_memory, read_terms, terms_counted, flat_map-append, map-append)

pub ruleset case_laws = (wants_memory)
