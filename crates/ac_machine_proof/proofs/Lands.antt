-- What it means that the machine follows the interpreter without brackets, and how one part comes after another. The table of code and the definitions grow meanwhile.
use Rattle.std.proofs.Common.{◌≡◌, ℕ, suc, List, [], ◌∷◌, Option, Some, None, refl, sym, ap, subst}
use Rattle.std.specs.Prelude.{slice_get}
use Rattle.ac_types.specs.Types.{Bytes, Typ}
use Rattle.ac_types.proofs.FirstLaws.{none≢some}
use Rattle.ac_code.specs.Code.{Instr, Block, Code, field_code}
use Rattle.ac_rules.specs.Coherent.{IsCoherent}
use Rattle.ac_values.specs.Values.{MValue, MUnit}
use Rattle.ac_machine_engine.specs.States.{CallFrame, Handler, Core, MState, Run, Paused, AskPrint, AskSend, AskReceive, state_given}
use Rattle.ac_machine_engine.specs.Machine.{act, exec, exec_in, exn_value, exn_raised}
use Rattle.ac_meaning.specs.Writes.{Print}
use Rattle.ac_meaning.specs.Worlds.{Exception, World, with_write}
use Rattle.ac_outside.specs.Frames.{next_frame}
use Rattle.ac_meaning.specs.Acts.{Raised, Spent, Over, Leads}
use Rattle.ac_meaning.specs.BareTerms.{BareValue}
use Rattle.ac_meaning.specs.BareReduction.{BareWritten}
use Rattle.ac_meaning.proofs.Runs.{leads_on}
use Rattle.ac_meaning.proofs.Results.{Result, Fine, Raising, Spending, Wrongly, TooDeep, M, then', raise, follow, Pure, Got, Bad, Deep, lift, and_then}
use Rattle.ac_machine_proof.specs.Running.{Running, on, machine_step, sent, frame_received}
use Rattle.ac_machine_meaning.specs.Stands.{stands, environment_values}
use Rattle.ac_machine_proof.specs.Placed.{IsPlaced}
use Rattle.ac_machine_proof.proofs.Has.{code_in, home_in, home_of, Stands}
use Rattle.ac_machine_meaning.proofs.Extended.{Ext, ext_refl, ext_on}
use Rattle.ac_machine_meaning.specs.Valid.{Valid, ValidEnv}
use Rattle.ac_machine_meaning.proofs.Meanings.{valid_stays, env_valid_stays, meaning_stays, variables_stay}
use Rattle.ac_meaning.proofs.BareEval.{opening}

-- the table of code as it stands, and the values that are kept, by blocks
pub record Kept : Type 0 where
  pub code : Code
  pub values : ℕ → Option MValue

-- code may have been added since; blocks and fields are what they were
pub record Later (k l : Kept) : Type 0 where
  pub ext : Ext k.code l.code
  pub fields : (j f b : ℕ) → field_code k.code j f ≡ Some b → field_code l.code j f ≡ Some b

pub at_once : (k : Kept) → Later k k
at_once k = record { ext = ext_refl k.code; fields = λ j f b e. e }

pub and_later : {k l m : Kept} → Later k l → Later l m → Later k m
and_later {k} {l} {m} a b = record { ext = ext_on k.code l.code m.code a.ext b.ext; fields = λ j f c e. b.fields j f c (a.fields j f c e) }

-- what stands around the code that runs
pub record Around : Type 0 where
  pub block : ℕ
  pub env : MValue
  pub stack : List MValue
  pub frames : List CallFrame
  pub handlers : List Handler

abbrev pub push : MValue → List MValue → List MValue
push m st = m ∷ st

abbrev pub pushed : MValue → Around → Around
pushed m r = record { block = r.block; env = r.env; stack = m ∷ r.stack; frames = r.frames; handlers = r.handlers }

abbrev pub with_env : MValue → Around → Around
with_env es r = record { block = r.block; env = es; stack = r.stack; frames = r.frames; handlers = r.handlers }

abbrev pub with_handler : Handler → Around → Around
with_handler h r = record { block = r.block; env = r.env; stack = r.stack; frames = r.frames; handlers = h ∷ r.handlers }

-- another block, under a frame
abbrev pub under : ℕ → MValue → CallFrame → Around → Around
under b es f r = record { block = b; env = es; stack = r.stack; frames = f ∷ r.frames; handlers = r.handlers }

-- the machine counts the applications
abbrev pub outside : World → World
outside z = record z { made = 0 }

-- the machine in a state, over the code as it stands
abbrev pub run : Kept → MState → World → Running
run k s z = on k.code s (outside z)

-- a value that the interpreter gives, unless it wasn't followed so far
abbrev pub Says : Pure BareValue → BareValue → Type 0
Says (Got w) v = w ≡ v
Says Bad v = ⊥
Says Deep v = Unit {0}

-- the value of a field, at any depth
abbrev pub SaysOf : World → Code → ℕ → ℕ → MValue → Type 0
SaysOf z K j f m = (s : ℕ) → Says (opening z.environment s j f) (stands K m)

-- that a block keeps a value of the field that it is of
pub record KeptFor (k : Kept) (z : World) (b : ℕ) (m : MValue) : Type 0 where
  pub entry : ℕ
  pub field : ℕ
  pub is_own : field_code k.code entry field ≡ Some b
  pub valid : Valid k.code m
  pub says : SaysOf z k.code entry field m

-- the definitions are coherent, their code is placed, and what is kept is the values of fields
pub record Right (k : Kept) (z : World) : Type 0 where
  pub coherent : IsCoherent z.environment
  pub placed : IsPlaced z.environment k.code
  pub knows : (b : ℕ) (m : MValue) → k.values b ≡ Some m → KeptFor k z b m

abbrev pub To : Running → Running → Type 0
To s t = Leads machine_step s t

pub to_more : {s t u : Running} → To s t → To t u → To s u
to_more {s} {t} {u} a b = leads_on machine_step s t u a b

pub here : {s : Running} → To s s
here = (0, refl)

pub once : {s t : Running} → machine_step s ≡ t → To s t
once e = (1, e)

pub same : {s t : Running} → s ≡ t → To s t
same e = (0, e)

-- a machine value that stands for a value
abbrev pub Shows : Kept → MValue → BareValue → Type 0
Shows k x v = Valid k.code x × (stands k.code x ≡ v)

pub valid_later : {k l : Kept} (x : MValue) → Later k l → Valid k.code x → Valid l.code x
valid_later {k} {l} x e h = valid_stays k.code l.code e.ext x h

pub means_later : {k l : Kept} (x : MValue) → Later k l → Valid k.code x → stands l.code x ≡ stands k.code x
means_later {k} {l} x e h = meaning_stays k.code l.code e.ext x h

-- an environment whose variables have these values
pub record Vars (k : Kept) (G : List Typ) (es : MValue) (vs : BareWritten) : Type 0 where
  pub valid : ValidEnv k.code es
  pub are : environment_values k.code es G ≡ vs

pub vars_later : {k l : Kept} {G : List Typ} (es : MValue) {vs : BareWritten} → Later k l → Vars k G es vs → Vars l G es vs
vars_later {k} {l} {G} es {vs} e h = record { valid = env_valid_stays k.code l.code e.ext es h.valid; are = subst (λ ws. ws ≡ vs) (sym (variables_stay k.code l.code e.ext es G h.valid)) h.are }

module _ (N : ℕ) where
  abbrev pub core : Around → ℕ → List MValue → Kept → ℕ → Core
  core r p st k n = record { block = r.block; address = p; env = r.env; stack = st; frames = r.frames; handlers = r.handlers; kept = k.values; budget = N; made = n }

  abbrev pub at : Around → ℕ → List MValue → Kept → World → Running
  at r p st k z = run k (Run (core r p st k z.made)) z

  -- where a raised exception leads
  abbrev pub thrown : Exception → List Handler → Kept → World → Running
  thrown x [] k z = Over (Raised x z)
  thrown x (h ∷ hs) k z = run k (Run (record { block = h.block; address = h.address; env = h.env; stack = exn_value x.number x.text ∷ h.stack; frames = h.frames; handlers = hs; kept = k.values; budget = N; made = z.made })) z

  -- with what the values are, and how they stand on the stack
  module _ {P A : Type 0} (Holds : Kept → P → A → Type 0) (onto : P → List MValue → List MValue) where
    -- the machine does what the interpreter says: it comes to that address with the value on its stack, all else as it was, or to where the exception leads, or stops; meanwhile code may be added
    abbrev pub Follows : Around → ℕ → Kept → Running → Result A → Type 0
    Follows r q k s (Fine a z) = (x : P) × (l : Kept) × Later k l × Holds l x a × Right l z × To s (at r q (onto x r.stack) l z)
    Follows r q k s (Raising x z) = (l : Kept) × Later k l × Right l z × To s (thrown x r.handlers l z)
    Follows r q k s (Spending z) = To s (Over (Spent z))
    Follows r q k s Wrongly = Unit {0}
    Follows r q k s TooDeep = Unit {0}

    -- as a record, so that its parameters are found
    pub record Lands (r : Around) (q : ℕ) (k : Kept) (s : Running) (d : Result A) : Type 0 where
      pub it : Follows r q k s d

  module _ {P A : Type 0} {Holds : Kept → P → A → Type 0} {onto : P → List MValue → List MValue} {r : Around} {q : ℕ} where
    -- after some steps, in which code may be added
    pub further : {j k : Kept} {s t : Running} {d : Result A} → Later j k → To s t → Lands Holds onto r q k t d → Lands Holds onto r q j s d
    further {j} {k} {s} {t} {d} e l h = record { it = go d h.it }
      where
        go : (d : Result A) → Follows Holds onto r q k t d → Follows Holds onto r q j s d
        go (Fine a z) f = (f.0, f.1, and_later e f.2, f.3, f.4, to_more l f.5)
        go (Raising x z) f = (f.0, and_later e f.1, f.2, to_more l f.3)
        go (Spending z) f = to_more l f
        go Wrongly f = tt
        go TooDeep f = tt

    pub after : {k : Kept} {s t : Running} {d : Result A} → To s t → Lands Holds onto r q k t d → Lands Holds onto r q k s d
    after {k} l h = further (at_once k) l h

    pub lands : {s : Running} {a : A} {z : World} {k : Kept} (x : P) → Holds k x a → Right k z → To s (at r q (onto x r.stack) k z) → Lands Holds onto r q k s (Fine a z)
    lands {k = k} x h i l = record { it = (x, k, at_once k, h, i, l) }

    pub lands_later : {s : Running} {a : A} {z : World} {j k : Kept} (x : P) → Later j k → Holds k x a → Right k z → To s (at r q (onto x r.stack) k z) → Lands Holds onto r q j s (Fine a z)
    lands_later {k = k} x e h i l = record { it = (x, k, e, h, i, l) }

    pub raised_to : {s : Running} {x : Exception} {z : World} {k : Kept} → Right k z → To s (thrown x r.handlers k z) → Lands Holds onto r q k s (Raising x z)
    raised_to {k = k} i l = record { it = (k, at_once k, i, l) }

    pub spent_at : {k : Kept} {s : Running} {z : World} → To s (Over (Spent z)) → Lands Holds onto r q k s (Spending z)
    spent_at l = record { it = l }

    pub nothing_said : {k : Kept} {s : Running} → Lands Holds onto r q k s Wrongly
    nothing_said = record { it = tt }

    pub not_followed : {k : Kept} {s : Running} → Lands Holds onto r q k s TooDeep
    not_followed = record { it = tt }

    -- at another name of the address
    pub at_address : {p : ℕ} {k : Kept} {s : Running} {d : Result A} → p ≡ q → Lands Holds onto r q k s d → Lands Holds onto r p k s d
    at_address {p} {k} {s} {d} e l = subst (λ q. Lands Holds onto r q k s d) (sym e) l

    -- before some steps that lead elsewhere with the same value
    pub before : {r' : Around} {q' : ℕ} {k : Kept} {s : Running} {d : Result A} → r.handlers ≡ r'.handlers → Lands Holds onto r q k s d → ((x : P) (l : Kept) (z : World) → Later k l → To (at r q (onto x r.stack) l z) (at r' q' (onto x r'.stack) l z)) → Lands Holds onto r' q' k s d
    before {r'} {q'} {k} {s} {d} e h l = record { it = go d h.it }
      where
        go : (d : Result A) → Follows Holds onto r q k s d → Follows Holds onto r' q' k s d
        go (Fine a z) f = (f.0, f.1, f.2, f.3, f.4, to_more f.5 (l f.0 f.1 z f.2))
        go (Raising x z) f = (f.0, f.1, f.2, subst (λ hs. To s (thrown x hs f.0 z)) e f.3)
        go (Spending z) f = f
        go Wrongly f = tt
        go TooDeep f = tt

    -- a part, and what follows its value
    pub seq : {Q B : Type 0} {Holds' : Kept → Q → B → Type 0} {onto' : Q → List MValue → List MValue} {r' : Around} {q' : ℕ} {k : Kept} {s : Running} {d : Result A} (f : A → M B) → r.handlers ≡ r'.handlers → Lands Holds onto r q k s d →
        ((x : P) (a : A) (l : Kept) (z : World) → Later k l → Holds l x a → Right l z → Lands Holds' onto' r' q' l (at r q (onto x r.stack) l z) (f a z)) → Lands Holds' onto' r' q' k s (then' d f raise)
    seq {Q} {B} {Holds'} {onto'} {r'} {q'} {k} {s} {d} f e h go = by d h.it
      where
        by : (d : Result A) → Follows Holds onto r q k s d → Lands Holds' onto' r' q' k s (then' d f raise)
        by (Fine a z) g = step_on g.2 g.5 (go g.0 a g.1 z g.2 g.3 g.4)
          where
            step_on : {l : Kept} {t : Running} {c : Result B} → Later k l → To s t → Lands Holds' onto' r' q' l t c → Lands Holds' onto' r' q' k s c
            step_on {l} later to m = record { it = more _ m.it later to }
              where
                more : {t : Running} (c : Result B) → Follows Holds' onto' r' q' l t c → Later k l → To s t → Follows Holds' onto' r' q' k s c
                more (Fine b z) f e l = (f.0, f.1, and_later e f.2, f.3, f.4, to_more l f.5)
                more (Raising x z) f e l = (f.0, and_later e f.1, f.2, to_more l f.3)
                more (Spending z) f e l = to_more l f
                more Wrongly f e l = tt
                more TooDeep f e l = tt
        by (Raising x z) g = record { it = (g.0, g.1, g.2, subst (λ hs. To s (thrown x hs g.0 z)) e g.3) }
        by (Spending z) g = record { it = g }
        by Wrongly g = record { it = tt }
        by TooDeep g = record { it = tt }

  -- one value, and what follows it
  pub seq1 : {Q B : Type 0} {Holds' : Kept → Q → B → Type 0} {onto' : Q → List MValue → List MValue} {r r' : Around} {q q' : ℕ} {k : Kept} {s : Running} {d : Result BareValue} (f : BareValue → M B) → r.handlers ≡ r'.handlers → Lands Shows push r q k s d →
      ((x : MValue) (l : Kept) (z : World) → Later k l → Valid l.code x → Right l z → Lands Holds' onto' r' q' l (at r q (x ∷ r.stack) l z) (f (stands l.code x) z)) → Lands Holds' onto' r' q' k s (then' d f raise)
  seq1 {Holds' = Holds'} {onto' = onto'} {r} {r'} {q} {q'} f e h go = seq f e h (λ x a l z later p i. subst (λ v. Lands Holds' onto' r' q' l (at r q (x ∷ r.stack) l z) (f v z)) p.1 (go x l z later p.0 i))

  -- two values, and what follows them
  pub seq2 : {Q B : Type 0} {Holds' : Kept → Q → B → Type 0} {onto' : Q → List MValue → List MValue} {r : Around} {q t u : ℕ} {k : Kept} {s : Running} {d : Result BareValue} (m : M BareValue) (g : BareValue → BareValue → M B) → Lands Shows push r q k s d →
      ((x : MValue) (l : Kept) (z : World) → Later k l → Right l z → Lands Shows push (pushed x r) t l (at r q (x ∷ r.stack) l z) (m z)) →
      ((x y : MValue) (l : Kept) (z : World) → Later k l → Valid l.code x → Valid l.code y → Right l z → Lands Holds' onto' r u l (at r t (y ∷ x ∷ r.stack) l z) (g (stands l.code x) (stands l.code y) z)) → Lands Holds' onto' r u k s (then' d (λ v. follow m (λ w. g v w)) raise)
  seq2 {Holds' = Holds'} {onto' = onto'} {r = r} {t = t} {u = u} m g h k l =
      seq1 (λ v. follow m (λ w. g v w)) refl h
      (λ x c z later v i. seq1 (λ w. g (stands c.code x) w) refl (k x c z later i) (λ y d z more w i. subst (λ v. Lands Holds' onto' r u d (at r t (y ∷ x ∷ r.stack) d z) (g v (stands d.code y) z)) (means_later x more v) (l x y d z (and_later later more) (valid_later x more v) w i)))

  -- a pure part, and what follows its value
  pub pure_seq : {P A Q B : Type 0} {Holds : Kept → P → A → Type 0} {onto : P → List MValue → List MValue} {Holds' : Kept → Q → B → Type 0} {onto' : Q → List MValue → List MValue} {r r' : Around} {q q' : ℕ} {k : Kept} {s : Running} (p : Pure A) (f : A → Pure B) (z : World) → r.handlers ≡ r'.handlers → Lands Holds onto r q k s (lift p z) →
      ((x : P) (a : A) (l : Kept) → Later k l → Holds l x a → Right l z → Lands Holds' onto' r' q' l (at r q (onto x r.stack) l z) (lift (f a) z)) → Lands Holds' onto' r' q' k s (lift (and_then p f) z)
  pure_seq (Got a) f z e h go = let g = h.it in further g.2 g.5 (go g.0 a g.1 g.2 g.3 g.4)
  pure_seq Bad f z e h go = nothing_said
  pure_seq Deep f z e h go = not_followed

  pub pure_seq1 : {Q B : Type 0} {Holds' : Kept → Q → B → Type 0} {onto' : Q → List MValue → List MValue} {r r' : Around} {q q' : ℕ} {k : Kept} {s : Running} (p : Pure BareValue) (f : BareValue → Pure B) (z : World) → r.handlers ≡ r'.handlers → Lands Shows push r q k s (lift p z) →
      ((x : MValue) (l : Kept) → Later k l → Valid l.code x → Right l z → Lands Holds' onto' r' q' l (at r q (x ∷ r.stack) l z) (lift (f (stands l.code x)) z)) → Lands Holds' onto' r' q' k s (lift (and_then p f) z)
  pure_seq1 {Holds' = Holds'} {onto' = onto'} {r = r} {r' = r'} {q = q} {q' = q'} p f z e h go = pure_seq p f z e h (λ x a l later p i. subst (λ v. Lands Holds' onto' r' q' l (at r q (x ∷ r.stack) l z) (lift (f v) z)) p.1 (go x l later p.0 i))

  -- one instruction
  fetches : (k : Kept) (z : World) (c : Core) (i : Instr) → Stands k.code c.block c.address i → exec z.environment k.code c ≡ act z.environment k.code (home_of k.code c.block) i (record c { address = suc c.address })
  fetches k z c i e = by (slice_get k.code.blocks c.block) e
    where
      by : (o : Option Block) → slice_get (code_in o) c.address ≡ Some i → state_given o (exec_in z.environment k.code c) ≡ act z.environment k.code (home_in o) i (record c { address = suc c.address })
      by None e = absurd (none≢some e)
      by (Some b) e = ap (λ o. state_given o (λ i. act z.environment k.code b.home i (record c { address = suc c.address }))) e

  pub run1 : {r : Around} {p : ℕ} {k : Kept} {z : World} {i : Instr} → Stands k.code r.block p i → To (at r p r.stack k z) (run k (act z.environment k.code (home_of k.code r.block) i (core r (suc p) r.stack k z.made)) z)
  run1 {r} {p} {k} {z} {i} e = (1, ap (λ s. run k s z) (fetches k z (core r p r.stack k z.made) i e))

  -- an instruction, and what follows at the address after it
  pub next : {P A : Type 0} {Holds : Kept → P → A → Type 0} {onto : P → List MValue → List MValue} {r r0 : Around} {p q : ℕ} {k : Kept} {z : World} {i : Instr} {d : Result A} → Stands k.code r0.block p i → q ≡ suc p → Lands Holds onto r (suc p) k (run k (act z.environment k.code (home_of k.code r0.block) i (core r0 (suc p) r0.stack k z.made)) z) d → Lands Holds onto r q k (at r0 p r0.stack k z) d
  next h e l = at_address e (after (run1 h) l)

  -- exceptions
  pub raises_to : (x : Exception) (r : Around) (p : ℕ) (st : List MValue) (k : Kept) (z : World) → To (run k (exn_raised x.number x.text (core r p st k z.made) r.handlers) z) (thrown x r.handlers k z)
  raises_to x r p st k z = by r.handlers
    where
      by : (hs : List Handler) → To (run k (exn_raised x.number x.text (core r p st k z.made) hs) z) (thrown x hs k z)
      by [] = (1, refl)
      by (h ∷ hs) = (0, refl)

  -- the answers to pauses
  pub prints_to : (s : Bytes) (r : Around) (p : ℕ) (st : List MValue) (k : Kept) (z : World) → To (run k (Paused (AskPrint s) (core r p st k z.made)) z) (at r p (MUnit ∷ st) k (with_write (Print s) z))
  prints_to s r p st k z = (1, refl)

  pub sends_to : (s : Bytes) (r : Around) (p : ℕ) (st : List MValue) (k : Kept) (z : World) → To (run k (Paused (AskSend s) (core r p st k z.made)) z) (sent z.has_channel s k.code (core r p st k z.made) (outside z))
  sends_to s r p st k z = (1, refl)

  pub receives_to : (r : Around) (p : ℕ) (st : List MValue) (k : Kept) (z : World) → To (run k (Paused AskReceive (core r p st k z.made)) z) (frame_received (next_frame z.input) k.code (core r p st k z.made) (outside z))
  receives_to r p st k z = (1, refl)
