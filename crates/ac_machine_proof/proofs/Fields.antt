-- The machine comes to the values of fields: it runs their blocks once, and keeps what they return.
use Rattle.std.proofs.Common.{◌≡◌, ℕ, zero, suc, Bool, true, false, cond, List, [], ◌∷◌, Option, Some, None, refl, sym, ap, ap₂, ◌∙◌, subst}
use Rattle.std.specs.Prelude.{slice_get, nat_eq, option_and_then, option_map}
use Rattle.std.proofs.lemmas.Bool.{eqb-true}
use Rattle.ac_types.specs.Types.{Bytes}
use Rattle.ac_types.proofs.FirstLaws.{some_eq}
use Rattle.ac_terms.specs.Spelling.{term_count}
use Rattle.ac_terms.specs.Terms.{Home, Main, In, Expr, Int, Boolean, Str, Unit', Exn, ExnOf, Tuple, Nil, Empty, Present, Cons, Own, Ref, Lam, Rec, Exprs, no_exprs, expr}
use Rattle.ac_terms.specs.Defs.{Environment, Entry, Field, Module, Def, AModule, AnImport, AMark, module_of, module_behind, field_number}
use Rattle.ac_code.specs.Code as instr
use Rattle.ac_code.specs.Code.{Code, field_code, module_fields as fields_there, fields_in}
use Rattle.ac_rules.specs.Typing.{fields_of}
use Rattle.ac_values.specs.Values.{MValue, MInt, MBool, MStr, MUnit, MExn, MTuple, MNil, MCons, MAbsent, MPresent, MClosure, MEnd}
use Rattle.ac_machine_engine.specs.States.{Run, keeping}
use Rattle.ac_machine_engine.specs.Machine.{parts_of_value, fetched, pushes_field}
use Rattle.ac_machine_engine.specs.Fields.{block_of_own, ref_block, block_of_field}
use Rattle.ac_meaning.specs.Worlds.{World}
use Rattle.ac_meaning.specs.References.{own_field, target}
use Rattle.ac_meaning.specs.BareTerms.{BareValue, WTuple, WCons, WPresent, WLam, WRec, bare_value', bare_term, bare_all}
use Rattle.ac_meaning.proofs.Results.{Pure, Got, Bad, Deep, lift, and_then}
use Rattle.ac_meaning.proofs.Eval.{place}
use Rattle.ac_machine_proof.specs.Running.{Running}
use Rattle.ac_machine_meaning.specs.Stands.{stands}
use Rattle.ac_machine_proof.specs.Placed.{HasField}
use Rattle.ac_machine_proof.proofs.Has.{AtHome, home_of, Stands, Has, HasAll, HasBlock}
use Rattle.ac_machine_meaning.specs.Valid.{Valid}
use Rattle.ac_machine_proof.proofs.Agreeing.{Agree, opening_agrees}
use Rattle.ac_meaning.proofs.BareEval.{with_text, own_by, ref_by, worth, worth_all, worth_field, opening, opened}
use Rattle.ac_meaning.proofs.BareInst.{inst_none}
use Rattle.ac_machine_proof.proofs.Lands.{Kept, and_later, Around, pushed, under, run, core, at, Says, SaysOf, KeptFor, Right, to_more, here, same, lands, lands_later, nothing_said, not_followed, valid_later, means_later, Vars, pure_seq, pure_seq1, run1, next}
use Rattle.ac_machine_proof.proofs.Stays.{home_is, home_stays, stands_stays, has_stays, all_stay}
use Rattle.ac_machine_proof.proofs.Placing.{own_block_has}
use Rattle.ac_machine_proof.proofs.Follows.{Here, HereAll, one_more, makes_plain, makes_all, texts, shut}

abbrev from_module : Option Module → List Field
from_module o = elim o [ None ↦ [] | Some m ↦ m.fields ]

fields_in_is : (o : Option Entry) → fields_in o ≡ from_module (option_and_then module_of (option_map (λ (e : Entry). e.def) o))
fields_in_is None = refl
fields_in_is (Some e) = by e.def
  where
    by : (d : Def) → fields_there d ≡ from_module (module_of d)
    by (AModule m) = refl
    by (AnImport i) = refl
    by (AMark t) = refl

module _ (E : Environment) (K : Code) where
  abbrev code_of : Option (ℕ × ℕ) → Option ℕ
  code_of o = option_and_then (λ (p : ℕ × ℕ). field_code K p.0 p.1) o

  code_in_module : (x : Bytes) (m : ℕ) → block_of_field E K x m ≡ code_of (option_map (λ f. (m, f)) (field_number x (fields_of E (In m))))
  code_in_module x m = ap (λ fs. option_and_then (λ f. field_code K m f) (field_number x fs)) (fields_in_is (slice_get E m)) ∙ by (field_number x (fields_of E (In m)))
    where
      by : (o : Option ℕ) → option_and_then (λ f. field_code K m f) o ≡ code_of (option_map (λ f. (m, f)) o)
      by None = refl
      by (Some f) = refl

  -- the block of a reference is that of the field that it comes to
  ref_is : (j : ℕ) (x : Bytes) → ref_block E K j x ≡ code_of (target E j x)
  ref_is j x = by (option_and_then (module_behind j) (slice_get E j))
    where
      by : (o : Option ℕ) → option_and_then (block_of_field E K x) o ≡ code_of (option_and_then (λ m. option_map (λ f. (m, f)) (field_number x (fields_of E (In m)))) o)
      by None = refl
      by (Some m) = code_in_module x m

module _ (N : ℕ) (z : World) where
  abbrev E : Environment
  E = z.environment

  -- the fields have these values
  pub record FieldsRun (q : ℕ → ℕ → Pure BareValue) : Type 0 where
    pub runs : (j f : ℕ) {r : Around} {p : ℕ} {k : Kept} → Right k z → Here N r p k (run k (pushes_field (field_code k.code j f) (core N r p r.stack k z.made)) z) (lift (q j f) z)

  pub own_runs : (q : ℕ → ℕ → Pure BareValue) → FieldsRun q → (c : Home) (f : ℕ) {r : Around} {p : ℕ} {k : Kept} → Right k z → Here N r p k (run k (pushes_field (block_of_own k.code c f) (core N r p r.stack k z.made)) z) (lift (own_by q c f) z)
  own_runs q h Main f i = nothing_said N
  own_runs q h (In j) f i = h.runs j f i

  pub ref_runs : (q : ℕ → ℕ → Pure BareValue) → FieldsRun q → (j : ℕ) (x : Bytes) {r : Around} {p : ℕ} {k : Kept} → Right k z → Here N r p k (run k (pushes_field (ref_block E k.code j x) (core N r p r.stack k z.made)) z) (lift (ref_by q (target E j x)) z)
  ref_runs q h j x {r} {p} {k} i = subst (λ o. Here N r p k (run k (pushes_field o (core N r p r.stack k z.made)) z) (lift (ref_by q (target E j x)) z)) (sym (ref_is E k.code j x)) (by (target E j x))
    where
      by : (o : Option (ℕ × ℕ)) → Here N r p k (run k (pushes_field (code_of E k.code o) (core N r p r.stack k z.made)) z) (lift (ref_by q o) z)
      by None = nothing_said N
      by (Some t) = h.runs t.0 t.1 i

  -- an own field of a block that is at home there
  pub own_at : (q : ℕ → ℕ → Pure BareValue) → FieldsRun q → (c : Home) (f : ℕ) {r : Around} {p : ℕ} {k : Kept} → AtHome k.code r.block c → Right k z → Here N r p k (run k (pushes_field (block_of_own k.code (home_of k.code r.block) f) (core N r p r.stack k z.made)) z) (lift (own_by q c f) z)
  own_at q h c f {r} {p} {k} a i = subst (λ b. Here N r p k (run k (pushes_field (block_of_own k.code b f) (core N r p r.stack k z.made)) z) (lift (own_by q c f) z)) (sym (home_is k.code r.block c a)) (own_runs q h c f i)

  -- a valuable term in its block, without variables
  module _ (q : ℕ → ℕ → Pure BareValue) (h : FieldsRun q) (c : Home) where
    abbrev Worth : Around → ℕ → ℕ → Kept → Pure BareValue → Type 0
    Worth r p s k w = Here N r s k (at N r p r.stack k z) (lift w z)

    no_vars : (k : Kept) (es : MValue) → es ≡ MEnd → Vars k [] es []
    no_vars k es e = subst (λ es. Vars k [] es []) (sym e) (record { valid = tt; are = refl })

    mutual
      worth_runs : (e : Expr) (r : Around) (p s : ℕ) {k : Kept} → AtHome k.code r.block c → r.env ≡ MEnd → Has k.code c e [] r.block p s → Right k z → Worth r p s k (worth E q c (bare_term c e))
      worth_runs (Int n) r p s a v d i = next N d.0 d.1 (lands N (MInt n) (tt, refl) i here)
      worth_runs (Boolean b) r p s a v d i = next N d.0 d.1 (lands N (MBool b) (tt, refl) i here)
      worth_runs (Str t) r p s a v d i = next N d.0 d.1 (lands N (MStr t) (tt, refl) i here)
      worth_runs Unit' r p s a v d i = next N d.0 d.1 (lands N MUnit (tt, refl) i here)
      worth_runs (Exn n) r p s a v d i = next N d.1 d.2 (lands N (MExn n) (tt, refl) i (makes_plain N n d.0))
      worth_runs (ExnOf n e) r p s {k} a v d i = pure_seq1 N (worth E q c (bare_term c e)) (with_text n) z refl (worth_runs e r p d.0 a v d.2 i) (λ x l later w i. next N (stands_stays k.code l.code later.ext _ _ _ d.3) d.4 (texts N n x d.1 w i))
      worth_runs (Tuple es) r p s {k} a v d i = pure_seq N (worth_all E q c (bare_all c es)) (λ vs. Got (WTuple vs)) z refl (all_worth_runs es r p d.0 a v d.1 i) (λ xs vs l later w i. next N (stands_stays k.code l.code later.ext _ _ _ d.2) d.3 (lands N (MTuple (parts_of_value xs)) (w.0, ap WTuple w.1) i (makes_all N xs (term_count es) w.2)))
      worth_runs (Nil T) r p s a v d i = next N d.0 d.1 (lands N MNil (tt, refl) i here)
      worth_runs (Empty T) r p s a v d i = next N d.0 d.1 (lands N MAbsent (tt, refl) i here)
      worth_runs (Present e) r p s {k} a v d i = pure_seq1 N (worth E q c (bare_term c e)) (λ w. Got (WPresent w)) z refl (worth_runs e r p d.0 a v d.1 i) (λ x l later w i. next N (stands_stays k.code l.code later.ext _ _ _ d.2) d.3 (lands N (MPresent x) (w, refl) i here))
      worth_runs (Cons e t) r p s {k} a v d i =
          pure_seq1 N (worth E q c (bare_term c e)) (λ v. and_then (worth E q c (bare_term c t)) (λ w. Got (WCons v w))) z refl (worth_runs e r p d.0 a v d.2 i)
          (λ x l later w i. pure_seq1 N (worth E q c (bare_term c t)) (λ u. Got (WCons (stands l.code x) u)) z refl
          (worth_runs t (pushed x r) d.0 d.1 (home_stays k.code l.code later.ext _ _ a) v (has_stays k.code l.code later.ext c t [] _ _ _ d.3) i)
          (λ y m more u i. next N (stands_stays k.code m.code (and_later later more).ext _ _ _ d.4) d.5 (lands N (MCons x y) ((valid_later x more w, u), ap (λ w. WCons w (stands m.code y)) (means_later x more w)) i here)))
      worth_runs (Own f) r p s a v d i = next N d.0 d.1 (own_at q h c f a i)
      worth_runs (Ref j x) r p s a v d i = next N d.0 d.1 (ref_runs q h j x i)
      worth_runs (Lam T e) r p s {k} a v d i =
          let g = shut N c [] (Lam T e) d.0 d.2 false r.env (no_vars k r.env v) in
          next N d.1 d.3 (lands N (MClosure d.0 false r.env) (g.0, g.1 ∙ ap (WLam c T) (inst_none (bare_term c e) 1)) i here)
      worth_runs (Rec T U e) r p s {k} a v d i =
          let g = shut N c [] (Rec T U e) d.0 d.2 true r.env (no_vars k r.env v) in
          next N d.1 d.3 (lands N (MClosure d.0 true r.env) (g.0, g.1 ∙ ap (WRec c T U) (inst_none (bare_term c e) 2)) i here)
      worth_runs _ r p s a v d i = not_followed N

      all_worth_runs : (es : Exprs) (r : Around) (p s : ℕ) {k : Kept} → AtHome k.code r.block c → r.env ≡ MEnd → HasAll k.code c es [] r.block p s → Right k z → HereAll N (term_count es) r s k (at N r p r.stack k z) (lift (worth_all E q c (bare_all c es)) z)
      all_worth_runs no_exprs r p s {k} a v d i = lands N [] (tt, refl, refl) i (same (ap (λ s. at N r s r.stack k z) (sym d)))
      all_worth_runs (expr e es) r p s {k} a v d i =
          pure_seq1 N (worth E q c (bare_term c e)) (λ v. and_then (worth_all E q c (bare_all c es)) (λ vs. Got (bare_value' v vs))) z refl (worth_runs e r p d.0 a v d.1 i)
          (λ x l later w i. pure_seq N (worth_all E q c (bare_all c es)) (λ vs. Got (bare_value' (stands l.code x) vs)) z refl
          (all_worth_runs es (pushed x r) d.0 s (home_stays k.code l.code later.ext _ _ a) v (all_stay k.code l.code later.ext c es [] _ _ _ d.2) i)
          (λ xs vs m more u i. lands N (x ∷ xs) (one_more N x xs vs more w u) i here))

  -- what is said of one field
  says_by : (p : Pure BareValue) (v w : BareValue) → Agree (Got v) p → v ≡ w → Says p w
  says_by (Got u) v w h e = sym h ∙ e
  says_by Bad v w h e = h
  says_by Deep v w h e = tt

  says_all : (s j f : ℕ) (v : BareValue) (K : Code) (m : MValue) → opening E s j f ≡ Got v → v ≡ stands K m → SaysOf z K j f m
  says_all s j f v K m e d t = says_by (opening E t j f) v (stands K m) (subst (λ p. Agree p (opening E t j f)) e (opening_agrees E s t j f)) d

  abbrev with_kept : ℕ → MValue → Kept → Kept
  with_kept b x k = record { code = k.code; values = keeping b x k.values }

  -- with one more value kept, that of field f of entry j
  keeps_right : (j f b : ℕ) (x : MValue) (k : Kept) → field_code k.code j f ≡ Some b → Valid k.code x → SaysOf z k.code j f x → Right k z → Right (with_kept b x k) z
  keeps_right j f b x k e v d i = record { coherent = i.coherent; placed = i.placed; knows = λ c m h. by c m (nat_eq c b) refl h }
    where
      by : (c : ℕ) (m : MValue) (t : Bool) → nat_eq c b ≡ t → cond t (Some x) (k.values c) ≡ Some m → KeptFor (with_kept b x k) z c m
      by c m false t h = let w = i.knows c m h in record { entry = w.entry; field = w.field; is_own = w.is_own; valid = w.valid; says = w.says }
      by c m true t h =
          let is_b : c ≡ b = eqb-true c b t in
          let same : x ≡ m = some_eq h in
          record { entry = j; field = f; is_own = e ∙ ap Some (sym is_b); valid = subst (Valid k.code) same v; says = subst (λ m. SaysOf z k.code j f m) same d }

  -- a value that is kept
  kept_lands : (m : MValue) (p : Pure BareValue) {r : Around} {q : ℕ} {k : Kept} → Valid k.code m → Says p (stands k.code m) → Right k z → Here N r q k (at N r q (m ∷ r.stack) k z) (lift p z)
  kept_lands m (Got w) v h i = lands N m (v, sym h) i here
  kept_lands m Bad v h i = absurd h
  kept_lands m Deep v h i = not_followed N

  -- the block of a field has come to its value, which it returns, and which is kept
  returns_kept : (j f b end : ℕ) (r : Around) (p : ℕ) (w : Pure BareValue) {k : Kept} {s : Running} → field_code k.code j f ≡ Some b → ((v : BareValue) → w ≡ Got v → (l : Kept) (m : MValue) → v ≡ stands l.code m → SaysOf z l.code j f m) → Stands k.code b end instr.Return →
      Here N (under b MEnd (record { block = r.block; address = p; env = r.env; keeps = true }) r) end k s (lift w z) → Here N r p k s (lift w z)
  returns_kept j f b end r p (Got v) {k} e d last l =
      let g = l.it in
      let x = g.0 in
      let m = g.1 in
      lands_later N x (record { ext = g.2.ext; fields = g.2.fields }) g.3 (keeps_right j f b x m (g.2.fields j f b e) g.3.0 (d v refl m x (sym g.3.1)) g.4) (to_more g.5 (run1 N (stands_stays k.code m.code g.2.ext _ _ _ last)))
  returns_kept j f b end r p Bad e d last l = nothing_said N
  returns_kept j f b end r p Deep e d last l = not_followed N

  field_runs : (s : ℕ) → FieldsRun (opening E s) → (j f : ℕ) {r : Around} {p : ℕ} {k : Kept} → Right k z → (o : Option Expr) → own_field E (In j) f ≡ o → (c : Option ℕ) → field_code k.code j f ≡ c → HasField k.code j o c → Here N r p k (run k (pushes_field c (core N r p r.stack k z.made)) z) (lift (worth_field E (opening E s) j (option_map (bare_term (In j)) o)) z)
  field_runs s h j f i None eo c ec d = nothing_said N
  field_runs s h j f i (Some e) eo None ec d = absurd d
  field_runs s h j f {r} {p} {k} i (Some e) eo (Some b) ec d = by (k.values b) refl
    where
      is_worth : opening E (suc s) j f ≡ worth E (opening E s) (In j) (bare_term (In j) e)
      is_worth = ap (λ o. worth_field E (opening E s) j (option_map (bare_term (In j)) o)) eo

      block : HasBlock k.code (In j) e instr.Return b
      block = own_block_has k.code (In j) e b d

      by : (o : Option MValue) → k.values b ≡ o → Here N r p k (run k (Run (fetched o b (core N r p r.stack k z.made))) z) (lift (worth E (opening E s) (In j) (bare_term (In j) e)) z)
      by (Some m) ek =
          let w = i.knows b m ek in
          let same = i.placed.own w.entry w.field j f b w.is_own ec in
          let says : SaysOf z k.code j f m = subst (λ (y : ℕ × ℕ). SaysOf z k.code y.0 y.1 m) (ap₂ (λ a b. (a, b)) same.0 same.1) w.says in
          kept_lands m (worth E (opening E s) (In j) (bare_term (In j) e)) w.valid (subst (λ p. Says p (stands k.code m)) is_worth (says (suc s))) i
      by None ek =
          let r1 = under b MEnd (record { block = r.block; address = p; env = r.env; keeps = true }) r in
          returns_kept j f b block.end r p (worth E (opening E s) (In j) (bare_term (In j) e)) ec (λ v g l m q. says_all (suc s) j f v l.code m (is_worth ∙ g) q) block.last (worth_runs (opening E s) h (In j) e r1 0 block.end block.at_home refl block.body i)

  opening_runs : (s : ℕ) → FieldsRun (opening E s)
  opening_runs zero = record { runs = λ j f i. not_followed N }
  opening_runs (suc s) = record { runs = λ j f {r} {p} {k} i. field_runs s (opening_runs s) j f i (own_field E (In j) f) refl (field_code k.code j f) refl (i.placed.fields j f) }

  pub opened_runs : FieldsRun (opened E)
  opened_runs = record { runs = λ j f i. (opening_runs (suc (place j f))).runs j f i }
