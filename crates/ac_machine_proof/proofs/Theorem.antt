-- The machine ends as the reduction without brackets does.
use Rattle.std.proofs.Common.{◌≡◌, ℕ, Bool, [], None, refl, sym, ap, ◌∙◌, subst, arith}
use Rattle.ac_types.specs.Types.{Bytes, Typ}
use Rattle.ac_types.proofs.FirstLaws.{none≢some}
use Rattle.ac_terms.specs.Terms.{Main, Expr, Value}
use Rattle.ac_terms.specs.Defs.{Environment}
use Rattle.ac_code.specs.Code as instr
use Rattle.ac_code.specs.Code.{Code}
use Rattle.ac_generate.specs.Generated.{program_code}
use Rattle.ac_rules.specs.Views.{Mode, Coloured}
use Rattle.ac_rules.specs.Typing.{all_of}
use Rattle.ac_rules.specs.Coherent.{IsCoherent}
use Rattle.ac_values.specs.Values.{MValue, MEnd}
use Rattle.ac_machine_engine.specs.States.{Run, beginning}
use Rattle.ac_meaning.specs.Worlds.{World, fresh}
use Rattle.ac_meaning.specs.Acts.{Outcome, Returned, Raised, Spent, Stuck, Over}
use Rattle.ac_meaning.specs.Reduction.{Ends}
use Rattle.ac_meaning.specs.Laws.{IsTypedProgram, bare_end}
use Rattle.ac_meaning.specs.BareTerms.{BareValue, bare_term}
use Rattle.ac_meaning.specs.BareReduction.{look_main, BareEnds}
use Rattle.ac_meaning.proofs.Results.{Result, Fine, Raising, Spending, Wrongly, TooDeep}
use Rattle.ac_meaning.proofs.Runs.{leads_same}
use Rattle.ac_meaning.proofs.Follows.{Does}
use Rattle.ac_meaning.proofs.Endings.{ending, does_end, some_end}
use Rattle.ac_meaning.proofs.NeverStuck.{never_stuck}
use Rattle.ac_machine_proof.specs.Source.{IsOfSource}
use Rattle.ac_machine_proof.specs.Running.{on, machine_step, RunEnds}
use Rattle.ac_machine_proof.specs.Alike.{bare_outcome, program_block, RunsAlike, Compiles}
use Rattle.ac_machine_proof.specs.Placed.{HasCode, IsPlaced}
use Rattle.ac_machine_proof.proofs.Has.{Stands}
use Rattle.ac_machine_proof.proofs.Placing.{own_block_has}
use Rattle.ac_meaning.proofs.BareEval.{depth}
use Rattle.ac_meaning.proofs.Admitted.{grow, arrives}
use Rattle.ac_meaning.proofs.Crossings.{Stays}
use Rattle.ac_meaning.proofs.BareInst.{inst_none}
use Rattle.ac_meaning.proofs.BareReduces.{reduces}
use Rattle.ac_meaning.proofs.BareEndings.{one_bare_end, ends_alike}
use Rattle.ac_machine_proof.proofs.Lands.{Kept, Around, Right, Vars, to_more, once, run1}
use Rattle.ac_machine_proof.proofs.Stays.{stands_stays}
use Rattle.ac_machine_proof.proofs.Follows.{Here}
use Rattle.ac_machine_proof.proofs.Calls.{machine_runs}
use Rattle.ac_machine_proof.proofs.Programs.{program_placed, program_has}
use Rattle.ac_machine_proof.proofs.Sources.{coherent_sources, typed_source}

-- what the interpreter says of a program
abbrev said : ℕ → World → Expr → Result BareValue
said N z e = depth N N (bare_term Main e) Main [] z

module _ (E : Environment) (coherent : IsCoherent E) (e : Expr) (input : Bytes) (sends : Bool) (N : ℕ) where
  said_does : Does N Stays look_main (bare_term Main e) (fresh E input sends) (said N (fresh E input sends) e)
  said_does = subst (λ t. Does N Stays look_main t (fresh E input sends) (said N (fresh E input sends) e)) (inst_none (bare_term Main e) 0) (reduces grow N N (bare_term Main e) Main [] (fresh E input sends) coherent (omega arith))

  bare_ends : BareEnds E e input sends N (ending (said N (fresh E input sends) e))
  bare_ends = does_end N Stays look_main (bare_term Main e) (fresh E input sends) (said N (fresh E input sends) e) said_does

pub one_run_end : (E : Environment) (K : Code) (block : ℕ) (input : Bytes) (sends : Bool) (N : ℕ) (o p : Outcome (Code × MValue)) → RunEnds E K block input sends N o → RunEnds E K block input sends N p → o ≡ p
one_run_end E K block input sends N o p a b = let same = leads_same machine_step (on K (Run (beginning block N)) (fresh E input sends)) (Over o) (Over p) refl refl a b in cc

-- a program's block, over code that is placed
module _ (E : Environment) (K : Code) (coherent : IsCoherent E) (placed : IsPlaced E K) (e : Expr) (block : ℕ) (has : HasCode K Main e block) (N : ℕ) where
  abbrev begun : Around
  begun = record { block = block; env = MEnd; stack = []; frames = []; handlers = [] }

  abbrev none_kept : Kept
  none_kept = record { code = K; values = λ b. None }

  nothing_wrong : (input : Bytes) (sends : Bool) → Right none_kept (fresh E input sends)
  nothing_wrong input sends = record { coherent = coherent; placed = placed; knows = λ b m h. absurd (none≢some h) }

  -- the machine's end, for each of the interpreter's that isn't stuck
  abbrev Halted : Bytes → Bool → Result BareValue → Type 0
  Halted input sends d = (ending d ≡ Stuck → ⊥) → (p : Outcome (Code × MValue)) × RunEnds E K block input sends N p × (bare_outcome p ≡ ending d)

  halted : (input : Bytes) (sends : Bool) (q : ℕ) → Stands K block q instr.Stop → (d : Result BareValue) → Here N begun q none_kept (on K (Run (beginning block N)) (fresh E input sends)) d → Halted input sends d
  halted input sends q stop (Fine v z) g u =
      let h = g.it in
      let l : Kept = h.1 in
      (Returned (l.code, h.0) z, to_more h.5 (to_more (run1 N (stands_stays K l.code h.2.ext block q instr.Stop stop)) (once refl)), ap (λ v. Returned v z) h.3.1)
  halted input sends q stop (Raising x z) g u = (Raised x z, g.it.3, refl)
  halted input sends q stop (Spending z) g u = (Spent z, g.it, refl)
  halted input sends q stop Wrongly g u = absurd (u refl)
  halted input sends q stop TooDeep g u = absurd (u refl)

  target : (input : Bytes) (sends : Bool) → Halted input sends (said N (fresh E input sends) e)
  target input sends =
      let b = own_block_has K Main e block has in
      let z = fresh E input sends in
      let none : Vars none_kept [] MEnd [] = record { valid = tt; are = refl } in
      halted input sends b.end b.last (said N z e) (machine_runs N N e Main [] [] begun b.end none_kept z b.at_home none b.body (nothing_wrong input sends))

-- the law for every table in which the code stands, and for the table of a program
pub placed_alike : (E : Environment) (K : Code) (e : Expr) (block : ℕ) → IsCoherent E → IsPlaced E K → HasCode K Main e block → RunsAlike E K block e
placed_alike E K e block coherent placed has = record {
  ends = λ input sends N o a u.
      let d = said N (fresh E input sends) e in
      let same : ending d ≡ o = one_bare_end E e input sends N (ending d) o (bare_ends E coherent e input sends N) a in
      let t = target E K coherent placed e block has N input sends (λ s. u (sym same ∙ s)) in
      (t.0, t.1, t.2 ∙ same);
  once = one_run_end E K block;
}

pub program_is_placed : (E : Environment) (e : Expr) → IsCoherent E → IsOfSource e → IsPlaced E (program_code E e) × HasCode (program_code E e) Main e (program_block E e)
program_is_placed E e coherent source = let sources = coherent_sources E coherent in (program_placed E e sources source, program_has E e sources source)

pub program_alike : (E : Environment) (e : Expr) → IsCoherent E → IsOfSource e → RunsAlike E (program_code E e) (program_block E e) e
program_alike E e coherent source = let p = program_is_placed E e coherent source in placed_alike E (program_code E e) e (program_block E e) coherent p.0 p.1

-- programs
unstuck : (o : Outcome Value) → bare_end o ≡ Stuck → o ≡ Stuck
unstuck (Returned v z) e = absurd cc
unstuck (Raised x z) e = absurd cc
unstuck (Spent z) e = absurd cc
unstuck Stuck e = refl

module _ (E : Environment) (e : Expr) (T : Typ) (program : IsTypedProgram E e T) where
  alike : RunsAlike E (program_code E e) (program_block E e) e
  alike = program_alike E e program.coherent (typed_source Coloured E e (all_of E Main) T program.source program.typed)

  -- the machine's end that stands for an end of the program
  matches : (mode : Mode) (input : Bytes) (sends : Bool) (N : ℕ) (o : Outcome Value) → Ends mode E e input sends N o → (p : Outcome (Code × MValue)) × RunEnds E (program_code E e) (program_block E e) input sends N p × (bare_outcome p ≡ bare_end o)
  matches mode input sends N o h = alike.ends input sends N (bare_end o) (ends_alike arrives E e T program mode input sends N o h) (λ s. never_stuck arrives E e T program mode input sends N (subst (Ends mode E e input sends N) (unstuck o s) h))

  agrees : (mode : Mode) (input : Bytes) (sends : Bool) (N : ℕ) (o : Outcome Value) (p : Outcome (Code × MValue)) → Ends mode E e input sends N o → RunEnds E (program_code E e) (program_block E e) input sends N p → bare_outcome p ≡ bare_end o
  agrees mode input sends N o p a b = let m = matches mode input sends N o a in ap bare_outcome (alike.once input sends N p m.0 b m.1) ∙ m.2

  pub compiles : Compiles E e
  compiles = record {
    ends = λ input sends N. let o = some_end grow Coloured E e input sends N program.coherent in let m = matches Coloured input sends N o.0 o.1 in (m.0, m.1);
    once = alike.once;
    never_stuck = λ input sends N h.
        let o = some_end grow Coloured E e input sends N program.coherent in
        never_stuck arrives E e T program Coloured input sends N (subst (Ends Coloured E e input sends N) (unstuck o.0 (sym (agrees Coloured input sends N o.0 Stuck o.1 h))) o.1);
    agrees = agrees;
  }
