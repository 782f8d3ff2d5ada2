-- What a chain of texts gives is one thing; only the line of a refusal may have another place in `syntax`.
use Rattle.std.proofs.Common.{◌≡◌, ◌∙◌, refl, sym, ap, ap₂, subst, ℕ, Bool, true, IsTrue, List, [], ◌∷◌, ◌++◌}
use Rattle.ac_types.specs.Types.{Bytes}
use Rattle.ac_types.proofs.FirstLaws.{none≢some, some_eq}
use Rattle.ac_terms.specs.Terms.{Expr, Value}
use Rattle.ac_terms.specs.Defs.{Environment}
use Rattle.ac_rules.specs.Views.{Mode}
use Rattle.ac_meaning.specs.Writes.{Channel, written}
use Rattle.ac_meaning.specs.Acts.{Outcome, writes_of}
use Rattle.ac_meaning.specs.Reduction.{Ends}
use Rattle.ac_meaning.proofs.Runs.{one_end}
use Rattle.ac_load_rules.specs.Accepting.{Shelved}
use Rattle.ac_load.specs.Loading.{Rejects}
use Rattle.ac_load.specs.declared.kind.Kind.{Kind}
use Rattle.ac_chain.specs.declared.chained.ChainFault.{ChainFault}
use Rattle.ac_chain.specs.declared.chained.ChainFault.TheVariants as fault
use Rattle.ac_chain.specs.ChainTexts.{LoadAs, RejectsFirst}
use Rattle.ac_chain.specs.Clashes.{first_program_clash}
use Rattle.ac_chain.specs.ChainMeaning.{RunInTurn, Runs, console_of}
use Rattle.ac_chain.proofs.LoadLaws.{one_list}
use Rattle.acute_answers.specs.declared.status.TheConstants.Status.{REFUSED}
use Rattle.acute_answers.specs.Answers.{ShownAnswer}
use Rattle.acute_answers.proofs.LoadedLaws.{not_rejected}
use Rattle.acute_chain.specs.Chaining.{Chains, ClashAt, refused_program, clashing, ran, clash_line, lines_behind}

-- one status; one print, where output tells; and one line, but for refusals
abbrev pub AlikeWhere : Bool → ShownAnswer → ShownAnswer → Type 0
AlikeWhere told a b = (a.status ≡ b.status) × ((IsTrue told → a.printed ≡ b.printed) × ((a.status ≡ REFUSED → ⊥) → a.line ≡ b.line))

-- programs that run in turn end in one way, where all that they read is told
one_course : (mode : Mode) (N : ℕ) (told : Bool) → IsTrue told → (ps : List (Environment × Expr)) (left : Bytes) (os us : List (Outcome Value)) → RunInTurn mode N told ps left os → RunInTurn mode N told ps left us → os ≡ us
one_course mode N told t [] left [] [] r s = refl
one_course mode N told t [] left [] (u ∷ us) r s = absurd s
one_course mode N told t [] left (o ∷ os) us r s = absurd r
one_course mode N told t (p ∷ ps) left [] us r s = absurd r
one_course mode N told t (p ∷ ps) left (o ∷ os) [] r s = absurd s
one_course mode N told t (p ∷ ps) left (o ∷ os) (u ∷ us) r s =
    let input : r.0.input ≡ s.0.input = sym (r.0.is_input t) ∙ s.0.is_input t in
    let same : o ≡ u = one_end mode p.0 p.1 s.0.input true N o u (subst (λ (i : Bytes). Ends mode p.0 p.1 i true N o) input r.0.ends) s.0.ends in
    let rest = subst (λ (x : Outcome Value). RunInTurn mode N told ps (written Channel (writes_of x)) os) same r.1 in
    ap₂ (λ (x : Outcome Value) (xs : List (Outcome Value)). x ∷ xs) same (one_course mode N told t ps (written Channel (writes_of u)) os us rest s.1)

-- texts that all load have none that is rejected
none_rejected : (before : List Bytes) (text : Bytes) (after : List Bytes) (shelf : List Shelved) (ps : List (Environment × Expr)) (part : ℕ) (kind : Kind) → Rejects text shelf part kind → LoadAs (before ++ text ∷ after) shelf ps → ⊥
none_rejected [] text after shelf [] part kind x l = l
none_rejected [] text after shelf (p ∷ ps) part kind x l = not_rejected x l.0.1
none_rejected (t ∷ before) text after shelf [] part kind x l = l
none_rejected (t ∷ before) text after shelf (p ∷ ps) part kind x l = none_rejected before text after shelf ps part kind x l.1

-- the line of a clash
abbrev line_of : ChainFault → Bytes
line_of (fault.Clash a i b j) = clash_line a i b j
line_of f = []

module _ (texts : List Bytes) (shelf : List Shelved) where
  all_load : (program part : ℕ) (kind : Kind) → RejectsFirst texts shelf program part kind → (ps : List (Environment × Expr)) → LoadAs texts shelf ps → ⊥
  all_load program part kind x ps l = none_rejected x.before x.text x.after shelf ps part kind x.rejected (subst (λ (ts : List Bytes). LoadAs ts shelf ps) x.order l)

  one_clash : (a i b j c k d l : ℕ) → ClashAt texts shelf a i b j → ClashAt texts shelf c k d l → clash_line a i b j ≡ clash_line c k d l
  one_clash a i b j c k d l x y =
      let same = one_list texts shelf x.programs y.programs x.load y.load in
      ap line_of (some_eq (sym x.is_first ∙ ap (first_program_clash 0) same ∙ y.is_first))

  module _ (mode : Mode) (N : ℕ) (told : Bool) where
    no_clash : (a i b j : ℕ) → ClashAt texts shelf a i b j → Runs mode texts shelf N told → ⊥
    no_clash a i b j x r =
        let same = one_list texts shelf r.programs x.programs r.load x.load in
        none≢some (sym r.apart ∙ ap (first_program_clash 0) same ∙ x.is_first)

    one_ends : (r s : Runs mode texts shelf N told) → IsTrue told → r.ends ≡ s.ends
    one_ends r s t =
        let same = one_list texts shelf r.programs s.programs r.load s.load in
        one_course mode N told t s.programs [] r.ends s.ends (subst (λ (ps : List (Environment × Expr)). RunInTurn mode N told ps [] r.ends) same r.run) s.run

    pub one_chain : (x y : Bytes) (a b : ShownAnswer) → Chains mode texts shelf N told x a → Chains mode texts shelf N told y b → AlikeWhere told a b
    one_chain _ _ _ _ (refused_program p n k x) (refused_program q m l y) = (refl, ((λ t. refl), (λ other. absurd (other refl))))
    one_chain _ _ _ _ (refused_program p n k x) (clashing a i b j y) = absurd (all_load p n k x y.programs y.load)
    one_chain _ _ _ _ (refused_program p n k x) (ran r h) = absurd (all_load p n k x r.programs r.load)
    one_chain _ _ _ _ (clashing a i b j x) (refused_program p n k y) = absurd (all_load p n k y x.programs x.load)
    one_chain _ _ _ _ (clashing a i b j x) (clashing c k d l y) = (refl, ((λ t. refl), (λ other. one_clash a i b j c k d l x y)))
    one_chain _ _ _ _ (clashing a i b j x) (ran r h) = absurd (no_clash a i b j x r)
    one_chain _ _ _ _ (ran r h) (refused_program p n k y) = absurd (all_load p n k y r.programs r.load)
    one_chain _ _ _ _ (ran r h) (clashing a i b j y) = absurd (no_clash a i b j y r)
    one_chain _ _ _ _ (ran r h) (ran s k) = (refl, ((λ t. ap (λ (os : List (Outcome Value)). console_of os ++ lines_behind 1 [] os) (one_ends r s t)), (λ other. refl)))
