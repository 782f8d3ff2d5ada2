use Rattle.std.proofs.Common.{◌≡◌, ◌∙◌, ap, sym, subst, length, Some, None, Result, Ok, Err, arith}
use Rattle.std.specs.Prelude.{IfOk, IfErr}
use Rattle.std.specs.List.{list_all}
use Rattle.std.proofs.lemmas.List.{length-map}
use Rattle.ac_types.specs.ReadTypes.{typ_of}
use Rattle.ac_terms.specs.Defs.{Environment}
use Rattle.ac_terms.specs.Read.{environment_of, seen_of, entry_of, expr_of}
use Rattle.ac_terms.specs.declared.env.Env.{Env}
use Rattle.ac_terms.specs.declared.term.Term.{Term}
use Rattle.ac_rules.specs.declared.loaded.Loaded.{Loaded}
use Rattle.ac_load_rules.specs.Counted.{has_counted}
use Rattle.ac_load_causes.specs.PartCauses.{term_type, part_cause, Tells}
use Rattle.ac_load_causes.specs.declared.fault.PartFault.{PartFault}
use Rattle.ac_load.proofs.TreeLaws.{linked_length, still_counted}
use Rattle.ac_load.proofs.part.linked_part.Goals as goal

-- what is said of the entries and the term that were given is said of those of the answer
of_its_own : (P : Loaded → Environment → Term → Type 0) (r : Result Loaded PartFault) (env : Env) (main : Term) →
    IfOk r (λ l. l.env ≡ env) → IfOk r (λ l. l.main ≡ main) → IfOk r (λ l. P l (environment_of env) main) → IfOk r (λ l. P l (environment_of l.env) l.main)
of_its_own P (Ok l) env main e m h = subst (λ (x : Env). P l (environment_of x) l.main) (sym e) (subst (P l (environment_of env)) (sym m) h)
of_its_own P (Err f) env main e m h = tt

pub typed_part-requires-clause-few : goal.typed_part-requires-clause-few
typed_part-requires-clause-few c =
    let a = ap length c.in-Ok.ensures.entries in
    let b = linked_length (seen_of c.args.seen.now) c.args.front (environment_of c.args.env) in
    let d = length-map c.in-Ok.env.entries entry_of in
    let e = length-map c.args.env.entries entry_of in
    let few = c.requires.few in
    omega (arith, a, b, d, e, few)

pub typed_part-requires-clause-counted : goal.typed_part-requires-clause-counted
typed_part-requires-clause-counted c =
    ap (list_all has_counted) c.in-Ok.ensures.entries
    ∙ still_counted (seen_of c.args.seen.now) c.args.front (environment_of c.args.env) c.requires.counted

pub returns-in-Ok-clause-typed : goal.returns-in-Ok-clause-typed
returns-in-Ok-clause-typed c =
    of_its_own (λ l E t. term_type E (expr_of t) ≡ Some (typ_of l.ty)) c.typed_part.result c.in-Ok.env c.args.main c.typed_part.ensures.entries c.typed_part.ensures.main c.typed_part.ensures.typed

pub returns-in-Ok-clause-sound : goal.returns-in-Ok-clause-sound
returns-in-Ok-clause-sound c =
    of_its_own (λ l E t. part_cause E c.args.front (expr_of t) ≡ None) c.typed_part.result c.in-Ok.env c.args.main c.typed_part.ensures.entries c.typed_part.ensures.main c.typed_part.ensures.sound

pub returns-in-Ok-clause-refused : goal.returns-in-Ok-clause-refused
returns-in-Ok-clause-refused c =
    subst (λ (E : Environment). IfErr c.typed_part.result (λ f. Tells f (part_cause E c.args.front (expr_of c.args.main)))) c.in-Ok.ensures.entries c.typed_part.ensures.refused
