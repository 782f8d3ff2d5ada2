-- The machine follows the interpreter without brackets, on code that stands where it should.
use Rattle.std.proofs.Common.{◌≡◌, ℕ, zero, suc, Bool, true, false, cond, List, [], ◌∷◌, length, Option, Some, None, refl, sym, ap, ap₂, ◌∙◌, subst}
use Rattle.std.specs.Prelude.{slice_get, option_and_then, option_map, unwrap_or}
use Rattle.ac_types.specs.Types.{Bytes, Typ}
use Rattle.ac_types.specs.Exceptions.{has_text}
use Rattle.ac_terms.specs.Terms.{Home, Expr}
use Rattle.ac_rules.specs.Coherent.{IsCoherent}
use Rattle.ac_machine_proof.specs.Placed.{IsPlaced}
use Rattle.ac_code.specs.Constants.{Const, PrimitiveAnswer, Yields, Prints, Sends, Receives, Fails, NoSense, Meaning, One, Two, primitive_answer}
use Rattle.ac_values.specs.Values.{MValue, MBool, MStr, MUnit, MExn, MExnOf, MTuple, MClosure, MMore}
use Rattle.ac_values.specs.ValueReaders.{entry, without}
use Rattle.ac_machine_engine.specs.States.{Handler, MState, Run, state_given}
use Rattle.ac_machine_primitives.specs.Consts.{consts_in, const_value}
use Rattle.ac_machine_engine.specs.Machine.{parts_of_value, exn_value, answers, performs, makes_exn, makes_tuple, jumps_if_not, raises}
use Rattle.ac_meaning.specs.Worlds.{Exception, World, end_of_file_exn, no_channel, bad_frame, with_receive}
use Rattle.ac_outside.specs.Frames.{Frame as frame, Whole, Bad as bad, AtEnd, next_frame}
use Rattle.ac_meaning.specs.PrimitiveSteps.{answer_at}
use Rattle.ac_meaning.specs.BareTerms.{BareValue, WUnit, BareValues, bare_value'}
use Rattle.ac_meaning.specs.BareReduction.{BareWritten, slot_in, consts_of}
use Rattle.ac_meaning.proofs.Results.{Result, Fine, Raising, Spending, Wrongly, TooDeep, M, then', give, lift}
use Rattle.ac_meaning.proofs.Eval.{sends, receives, answering}
use Rattle.ac_machine_proof.specs.Running.{Running, sent, frame_received}
use Rattle.ac_machine_meaning.specs.Stands.{closed, closure_of, stands, all_stand, environment_values}
use Rattle.ac_machine_proof.proofs.Has.{Keeps, Unbinds}
use Rattle.ac_machine_meaning.specs.Valid.{IsThere, Valid, ValidEnv, AllValid}
use Rattle.ac_machine_meaning.proofs.Meanings.{closure_is, closed_same}
use Rattle.ac_machine_proof.proofs.Shows.{consts_is, constant_is, constant_valid, push_all, takes_all}
use Rattle.ac_meaning.proofs.BareEval.{with_text, opening, found, branching, throws, constant}
use Rattle.ac_machine_proof.proofs.Lands.{Kept, Later, Around, push, with_env, with_handler, outside, run, core, at, Says, Right, To, to_more, here, same, Lands, further, after, lands, lands_later, raised_to, spent_at, nothing_said, not_followed, Shows, valid_later, means_later, Vars, run1, raises_to, prints_to, sends_to, receives_to}

-- where the definitions are the same, what is kept is right too
pub right_still : {k : Kept} {z y : World} → y.environment ≡ z.environment → Right k z → Right k y
right_still {k} {z} {y} e i = record {
  coherent = subst IsCoherent (sym e) i.coherent;
  placed = subst (λ E. IsPlaced E k.code) (sym e) i.placed;
  knows = λ b m h. let w = i.knows b m h in record { entry = w.entry; field = w.field; is_own = w.is_own; valid = w.valid; says = subst (λ E. (s : ℕ) → Says (opening E s w.entry w.field) (stands k.code m)) (sym e) w.says };
}

module _ (N : ℕ) where
  abbrev pub Here : Around → ℕ → Kept → Running → Result BareValue → Type 0
  Here r q k s d = Lands N Shows push r q k s d

  -- some values in order, so many
  abbrev pub ShowAll : ℕ → Kept → List MValue → BareValues → Type 0
  ShowAll n k xs vs = AllValid k.code (parts_of_value xs) × (all_stand k.code (parts_of_value xs) ≡ vs) × (length xs ≡ n)

  abbrev pub HereAll : ℕ → Around → ℕ → Kept → Running → Result BareValues → Type 0
  HereAll n r q k s d = Lands N (ShowAll n) push_all r q k s d

  -- one value more in front of some
  pub one_more : {n : ℕ} {k l : Kept} (x : MValue) (xs : List MValue) (ws : BareValues) → Later k l → Valid k.code x → ShowAll n l xs ws → ShowAll (suc n) l (x ∷ xs) (bare_value' (stands k.code x) ws)
  one_more x xs ws later v u = ((valid_later x later v, u.0), ap₂ bare_value' (means_later x later v) u.1, ap suc u.2)

  -- the variables of an environment
  pub loads_value : (i : ℕ) (es : MValue) (G : List Typ) {r : Around} {p : ℕ} {k : Kept} {z : World} → ValidEnv k.code es → Right k z → Here r p k (run k (state_given (entry i es) (λ m. Run (record (core N r p r.stack k z.made) { stack = m ∷ r.stack }))) z) (found (slot_in (environment_values k.code es G) i) z)
  loads_value zero (MMore a b) [] v i = lands N a (v.0, refl) i here
  loads_value zero (MMore a b) (T ∷ G) v i = lands N a (v.0, refl) i here
  loads_value (suc n) (MMore a b) [] v i = loads_value n b [] v.1 i
  loads_value (suc n) (MMore a b) (T ∷ G) v i = loads_value n b G v.1 i
  loads_value zero _ G v i = nothing_said N
  loads_value (suc n) _ G v i = nothing_said N

  -- exceptions
  first : (b : Bool) (s t : MState) → b ≡ true → cond b s t ≡ s
  first b s t h = ap (λ b. cond b s t) h

  second : (b : Bool) (s t : MState) → b ≡ false → cond b s t ≡ t
  second b s t h = ap (λ b. cond b s t) h

  pub makes_text : (n : ℕ) (s : Bytes) {r : Around} {p : ℕ} {k : Kept} {z : World} → has_text n ≡ true → To (run k (makes_exn n (core N r p (MStr s ∷ r.stack) k z.made)) z) (at N r p (MExnOf n (MStr s) ∷ r.stack) k z)
  makes_text n s {r} {p} {k} {z} h = same (ap (λ s. run k s z) (first (has_text n) _ _ h))

  pub texts : (n : ℕ) (x : MValue) {r : Around} {p : ℕ} {k : Kept} {z : World} → has_text n ≡ true → Valid k.code x → Right k z → Here r p k (run k (makes_exn n (core N r p (x ∷ r.stack) k z.made)) z) (lift (with_text n (stands k.code x)) z)
  texts n (MStr s) {r} {p} {k} {z} h v i = lands N (MExnOf n (MStr s)) (tt, refl) i (makes_text n s h)
  texts n (MClosure b f es) {r} {p} {k} {z} h v i = closure_is (λ v. Here r p k (run k (makes_exn n (core N r p (MClosure b f es ∷ r.stack) k z.made)) z) (lift (with_text n v) z)) (λ h T e. nothing_said N) (λ h T U e. nothing_said N) (slice_get k.code.blocks b) f (λ G. environment_values k.code es G)
  texts n (MExnOf j (MStr s)) h v i = nothing_said N
  texts n (MExnOf j _) h v i = absurd v
  texts n _ h v i = nothing_said N

  pub makes_plain : (n : ℕ) {r : Around} {p : ℕ} {k : Kept} {z : World} → has_text n ≡ false → To (run k (makes_exn n (core N r p r.stack k z.made)) z) (at N r p (MExn n ∷ r.stack) k z)
  makes_plain n {r} {p} {k} {z} h = same (ap (λ s. run k s z) (second (has_text n) _ _ h))

  pub throws_value : (x : MValue) (p : ℕ) {r : Around} {q : ℕ} {k : Kept} {z : World} → Valid k.code x → Right k z → Here r q k (run k (raises (core N r p (x ∷ r.stack) k z.made)) z) (throws (stands k.code x) z)
  throws_value (MExn n) p {r} {q} {k} {z} v i = raised_to N i (raises_to N (record { number = n; text = None }) r p r.stack k z)
  throws_value (MExnOf n (MStr s)) p {r} {q} {k} {z} v i = raised_to N i (raises_to N (record { number = n; text = Some s }) r p r.stack k z)
  throws_value (MExnOf n _) p v i = absurd v
  throws_value (MClosure b f es) p {r} {q} {k} {z} v i = closure_is (λ v. Here r q k (run k (raises (core N r p (MClosure b f es ∷ r.stack) k z.made)) z) (throws v z)) (λ h T e. nothing_said N) (λ h T U e. nothing_said N) (slice_get k.code.blocks b) f (λ G. environment_values k.code es G)
  throws_value _ p v i = nothing_said N

  -- a truth value chooses where it goes on
  pub branches : (x : MValue) {r : Around} {a p q : ℕ} {k : Kept} {z : World} (m n : M BareValue) → Here r q k (at N r p r.stack k z) (m z) → Here r q k (at N r a r.stack k z) (n z) → Here r q k (run k (jumps_if_not a (core N r p (x ∷ r.stack) k z.made)) z) (branching (stands k.code x) m n z)
  branches (MBool true) m n y f = y
  branches (MBool false) m n y f = f
  branches (MClosure b g es) {r} {a} {p} {q} {k} {z} m n y f = closure_is (λ v. Here r q k (run k (jumps_if_not a (core N r p (MClosure b g es ∷ r.stack) k z.made)) z) (branching v m n z)) (λ h T e. nothing_said N) (λ h T U e. nothing_said N) (slice_get k.code.blocks b) g (λ G. environment_values k.code es G)
  branches (MExnOf j (MStr s)) m n y f = nothing_said N
  branches (MExnOf j _) m n y f = nothing_said N
  branches _ m n y f = nothing_said N

  -- primitives
  sends_text : (b : Bool) (s : Bytes) {r : Around} {p : ℕ} {k : Kept} {z : World} → Right k z → Here r p k (sent b s k.code (core N r p r.stack k z.made) (outside z)) (sends b WUnit s z)
  sends_text true s i = lands N MUnit (tt, refl) (right_still refl i) here
  sends_text false s {r} {p} {k} {z} i = raised_to N i (raises_to N no_channel r p r.stack k z)

  receives_text : (f : frame) {r : Around} {p : ℕ} {k : Kept} {z : World} → Right k z → Here r p k (frame_received f k.code (core N r p r.stack k z.made) (outside z)) (receives constant f z)
  receives_text (Whole s rest) i = lands N (MStr s) (tt, refl) (right_still refl i) here
  receives_text (bad n got) {r} {p} {k} {z} i = raised_to N (right_still refl i) (raises_to N bad_frame r p r.stack k (with_receive z))
  receives_text AtEnd {r} {p} {k} {z} i = raised_to N (right_still refl i) (raises_to N end_of_file_exn r p r.stack k (with_receive z))

  answers_with : (a : PrimitiveAnswer) {r : Around} {p : ℕ} {k : Kept} {z : World} → Right k z → Here r p k (run k (answers a (core N r p r.stack k z.made)) z) (answering constant a z)
  answers_with (Yields d) {k = k} i = lands N (const_value d) (constant_valid k.code d, constant_is k.code d) i here
  answers_with (Prints s) {r} {p} {k} {z} i = lands N MUnit (tt, refl) (right_still refl i) (prints_to N s r p r.stack k z)
  answers_with (Sends s) {r} {p} {k} {z} i = after N (sends_to N s r p r.stack k z) (sends_text z.has_channel s i)
  answers_with Receives {r} {p} {k} {z} i = after N (receives_to N r p r.stack k z) (receives_text (next_frame z.input) i)
  answers_with (Fails n s) {r} {p} {k} {z} i = raised_to N i (raises_to N (record { number = n; text = s }) r p r.stack k z)
  answers_with NoSense i = nothing_said N

  -- the constants that a primitive takes, and those of a wrong number of arguments
  takes_consts : (m : Meaning) (o : Option (List Const)) {r : Around} {p : ℕ} {k : Kept} {z : World} → Right k z → Here r p k (run k (state_given o (λ ds. answers (primitive_answer m ds) (core N r p r.stack k z.made))) z) (answering constant (answer_at (Some m) o) z)
  takes_consts m None i = nothing_said N
  takes_consts m (Some ds) i = answers_with (primitive_answer m ds) i

  abbrev more : Option Const → Option (List Const) → Option (List Const)
  more o p = option_and_then (λ (d : Const). option_map (λ ds. d ∷ ds) p) o

  too_many1 : (f : Const → PrimitiveAnswer) (o p : Option Const) (q : Option (List Const)) → answer_at (Some (One f)) (more o (more p q)) ≡ NoSense
  too_many1 f None p q = refl
  too_many1 f (Some d) None q = refl
  too_many1 f (Some d) (Some e) None = refl
  too_many1 f (Some d) (Some e) (Some ds) = refl

  too_few2 : (f : Const → Const → PrimitiveAnswer) (o : Option Const) → answer_at (Some (Two f)) (more o (Some [])) ≡ NoSense
  too_few2 f None = refl
  too_few2 f (Some d) = refl

  too_many2 : (f : Const → Const → PrimitiveAnswer) (o p q : Option Const) (l : Option (List Const)) → answer_at (Some (Two f)) (more o (more p (more q l))) ≡ NoSense
  too_many2 f None p q l = refl
  too_many2 f (Some d) None q l = refl
  too_many2 f (Some d) (Some e) None l = refl
  too_many2 f (Some d) (Some e) (Some g) None = refl
  too_many2 f (Some d) (Some e) (Some g) (Some ds) = refl

  no_sense : {r : Around} {p : ℕ} {k : Kept} {s : Running} (a : PrimitiveAnswer) (z : World) → a ≡ NoSense → Here r p k s (answering constant a z)
  no_sense {r} {p} {k} {s} a z e = subst (λ a. Here r p k s (answering constant a z)) (sym e) (nothing_said N)

  operates_with : (m : Meaning) (xs : List MValue) {r : Around} {p : ℕ} {k : Kept} {z : World} → Right k z → Here r p k (run k (performs m (core N r p (push_all xs r.stack) k z.made)) z) (answering constant (answer_at (Some m) (consts_in xs)) z)
  operates_with (One f) [] i = nothing_said N
  operates_with (One f) (x ∷ []) i = takes_consts (One f) (consts_in (x ∷ [])) i
  operates_with (One f) (x ∷ y ∷ xs) i = no_sense _ _ (too_many1 f _ _ (consts_in xs))
  operates_with (Two f) [] i = nothing_said N
  operates_with (Two f) (x ∷ []) i = no_sense _ _ (too_few2 f _)
  operates_with (Two f) (x ∷ y ∷ []) i = takes_consts (Two f) (consts_in (x ∷ y ∷ [])) i
  operates_with (Two f) (x ∷ y ∷ v ∷ xs) i = no_sense _ _ (too_many2 f _ _ _ (consts_in xs))

  pub operates : (o : Option Meaning) (xs : List MValue) {r : Around} {p : ℕ} {k : Kept} {z : World} → Right k z → Here r p k (run k (state_given o (λ m. performs m (core N r p (push_all xs r.stack) k z.made))) z) (answering constant (answer_at o (consts_of (all_stand k.code (parts_of_value xs)))) z)
  operates None xs i = nothing_said N
  operates (Some m) xs {r} {p} {k} {z} i = subst (λ o. Here r p k (run k (performs m (core N r p (push_all xs r.stack) k z.made)) z) (answering constant (answer_at (Some m) o) z)) (sym (consts_is k.code xs)) (operates_with m xs i)

  -- a handled part: its value goes past the handler, its exception into it
  abbrev pub handler_at : Around → ℕ → Handler
  handler_at r l = record { block = r.block; address = l; env = r.env; stack = r.stack; frames = r.frames }

  pub tried : {r : Around} {a t q : ℕ} {k : Kept} {s : Running} (d : Result BareValue) (g : Exception → M BareValue) → Here (with_handler (handler_at r a) r) t k s d → ((y : MValue) (l : Kept) (z : World) → Later k l → To (at N (with_handler (handler_at r a) r) t (y ∷ r.stack) l z) (at N r q (y ∷ r.stack) l z)) →
      ((x : Exception) (l : Kept) (z : World) → Later k l → Right l z → Here r q l (at N r a (exn_value x.number x.text ∷ r.stack) l z) (g x z)) → Here r q k s (then' d give g)
  tried (Fine v z) g f past arms = let h = f.it in lands_later N h.0 h.2 h.3 h.4 (to_more h.5 (past h.0 h.1 z h.2))
  tried (Raising x z) g f past arms = let h = f.it in further N h.1 h.3 (arms x h.0 z h.1 h.2)
  tried (Spending z) g f past arms = spent_at N f.it
  tried Wrongly g f past arms = nothing_said N
  tried TooDeep g f past arms = not_followed N

  -- variables are dropped
  pub drops : (n : ℕ) (r : Around) (es : MValue) {p q : ℕ} (st : List MValue) (k : Kept) (z : World) → Unbinds k.code n r.block p q → without n es ≡ Some r.env → To (at N (with_env es r) p st k z) (at N r q st k z)
  drops zero r es {p} {q} st k z u e = same (ap₂ (λ q (o : Option MValue). at N (with_env (unwrap_or o es) r) q st k z) (sym u) e)
  drops (suc n) r es {p} {q} st k z u e = to_more (run1 N u.0) (same (ap₂ (λ q (o : Option MValue). run k (state_given o (λ fs. Run (core N (with_env fs r) q st k z.made))) z) (sym u.1) e))

  -- a closure of a lambda
  pub shut : {k : Kept} (c : Home) (G : List Typ) (l : Expr) (f : ℕ) → Keeps k.code c G l f → (b : Bool) (es : MValue) {vs : BareWritten} → Vars k G es vs → Shows k (MClosure f b es) (closed c (Some l) G b (λ H. vs))
  shut {k} c G l f h b es {vs} v = ((subst IsThere (sym h.1) tt, v.valid), ap (λ o. closure_of o b (λ G. environment_values k.code es G)) h.1 ∙ closed_same c (Some l) G b (λ G. environment_values k.code es G) (λ H. vs) v.are)

  -- the values of a tuple are taken from the stack
  pub makes_all : (xs : List MValue) (n : ℕ) {r : Around} {p : ℕ} {k : Kept} {z : World} → length xs ≡ n → To (run k (makes_tuple n (core N r p (push_all xs r.stack) k z.made)) z) (at N r p (MTuple (parts_of_value xs) ∷ r.stack) k z)
  makes_all xs n {r} {p} {k} {z} h = same (ap (λ (o : Option (List MValue × List MValue)). run k (state_given o (λ q. Run (record (core N r p (push_all xs r.stack) k z.made) { stack = MTuple (parts_of_value q.0) ∷ q.1 }))) z) (takes_all xs r.stack n h))
