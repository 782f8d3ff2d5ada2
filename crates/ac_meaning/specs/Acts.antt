-- What is next in a term, and runs of steps.
use Rattle.std.specs.Prelude.{◌≡◌, ℕ, zero, suc, nat_lt, cond, List, [], Option, Some, None}
use Rattle.ac_meaning.specs.Writes.{Write}
use Rattle.ac_meaning.specs.Worlds.{Exception, World, Crossing, Trace, counted}

pub data Act (T A : Type 0) : Type 0 where
  -- the term is a value already
  Is : A → Act T A
  -- it becomes another, and nothing else changes
  Goes : T → Act T A
  -- it becomes another, and the world changes to this one
  Turns : World → T → Act T A
  -- it becomes another by an application, which is counted
  Applies : T → Act T A
  -- it raises an exception
  Raises : Exception → Act T A
  -- no rule is for it
  Wrong : Act T A

-- a term where there is one
abbrev pub becomes : {T A : Type 0} → Option T → Act T A
becomes None = Wrong
becomes (Some t) = Goes t

-- a term where there is one, and else this exception
abbrev pub or_raises : {T A : Type 0} → Exception → Option T → Act T A
or_raises x None = Raises x
or_raises x (Some t) = Goes t

-- what is next in a part is next in the whole: wrap puts the part back into it, done says what the whole does with the part's value, and catch what it does with its exception
abbrev pub within : {S T A B : Type 0} → (S → T) → (A → Act T B) → (Exception → Act T B) → Act S A → Act T B
within wrap done catch (Is a) = done a
within wrap done catch (Goes s) = Goes (wrap s)
within wrap done catch (Turns z s) = Turns z (wrap s)
within wrap done catch (Applies s) = Applies (wrap s)
within wrap done catch (Raises x) = catch x
within wrap done catch Wrong = Wrong

-- the whole raises what its part raises
abbrev pub part : {S T A B : Type 0} → (S → T) → (A → Act T B) → Act S A → Act T B
part wrap done a = within wrap done Raises a

-- two parts r and s, the left one first, where a and b are next in them
abbrev pub parts : {R S T A B C : Type 0} → (R → S → T) → R → S → (A → B → Act T C) → Act R A → Act S B → Act T C
parts wrap r s done a b = part (λ r'. wrap r' s) (λ v. part (λ s'. wrap r s') (λ w. done v w) b) a

-- how a run ends, and the world then
pub data Outcome (A : Type 0) : Type 0 where
  -- with a value
  Returned : A → World → Outcome A
  -- with an exception
  Raised : Exception → World → Outcome A
  -- in front of an application too many
  Spent : World → Outcome A
  -- where no rule is for the term
  Stuck : Outcome A

-- a state: a term and the world; or the end
pub data State (T A : Type 0) : Type 0 where
  At : T → World → State T A
  Over : Outcome A → State T A

-- the state that follows what is next, where N applications may be made
abbrev pub after : {T A : Type 0} → ℕ → World → Act T A → State T A
after N z (Is a) = Over (Returned a z)
after N z (Goes t) = At t z
after N z (Turns y t) = At t y
after N z (Applies t) = cond (nat_lt z.made N) (At t (counted z)) (Over (Spent z))
after N z (Raises x) = Over (Raised x z)
after N z Wrong = Over Stuck

-- one step, by what is next in a world
abbrev pub step_by : {T A : Type 0} → (World → T → Act T A) → ℕ → State T A → State T A
step_by look N (At t z) = after N z (look z t)
step_by look N (Over o) = Over o

-- k steps
abbrev pub iter : {S : Type 0} → (S → S) → ℕ → S → S
iter f zero s = s
iter f (suc k) s = iter f k (f s)

-- some number of steps leads from one state to another
abbrev pub Leads : {S : Type 0} → (S → S) → S → S → Type 0
Leads f s t = (k : ℕ) × (iter f k s ≡ t)

-- the writes of a run by its end
abbrev pub writes_of : {A : Type 0} → Outcome A → List Write
writes_of (Returned v z) = z.writes
writes_of (Raised x z) = z.writes
writes_of (Spent z) = z.writes
writes_of Stuck = []

-- the strings that marshal gave and that unmarshal read in a run, by its end
abbrev pub crossings_of : {A : Type 0} → Outcome A → List Crossing
crossings_of (Returned v z) = z.crossings
crossings_of (Raised x z) = z.crossings
crossings_of (Spent z) = z.crossings
crossings_of Stuck = []

-- what a run had done in front of each of its writes, by its end
abbrev pub before_writes_of : {A : Type 0} → Outcome A → List Trace
before_writes_of (Returned v z) = z.before_writes
before_writes_of (Raised x z) = z.before_writes
before_writes_of (Spent z) = z.before_writes
before_writes_of Stuck = []

-- what a run had done in front of each of its receives, by its end
abbrev pub receives_of : {A : Type 0} → Outcome A → List Trace
receives_of (Returned v z) = z.receives
receives_of (Raised x z) = z.receives
receives_of (Spent z) = z.receives
receives_of Stuck = []
