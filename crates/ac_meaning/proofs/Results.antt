-- How an evaluation ends, and evaluations one after the other.
use Rattle.ac_meaning.specs.Worlds.{Exception, World}

-- with a value, with an exception, in front of an application too many, at what has no meaning; or the evaluation was not followed so far
pub data Result (A : Type 0) : Type 0 where
  Fine : A → World → Result A
  Raising : Exception → World → Result A
  Spending : World → Result A
  Wrongly : Result A
  TooDeep : Result A

-- an evaluation, from world to world
abbrev pub M : Type 0 → Type 0
M A = World → Result A

abbrev pub then' : {A B : Type 0} → Result A → (A → M B) → (Exception → M B) → Result B
then' (Fine a z) f g = f a z
then' (Raising x z) f g = g x z
then' (Spending z) f g = Spending z
then' Wrongly f g = Wrongly
then' TooDeep f g = TooDeep

abbrev pub give : {A : Type 0} → A → M A
give a z = Fine a z

abbrev pub raise : {A : Type 0} → Exception → M A
raise x z = Raising x z

abbrev pub wrongly : {A : Type 0} → M A
wrongly z = Wrongly

abbrev pub follow : {A B : Type 0} → M A → (A → M B) → M B
follow m f z = then' (m z) f raise

abbrev pub handle : {A : Type 0} → M A → (Exception → M A) → M A
handle m g z = then' (m z) give g

-- what neither changes the world nor raises
pub data Pure (A : Type 0) : Type 0 where
  Got : A → Pure A
  Bad : Pure A
  Deep : Pure A

abbrev pub lift : {A : Type 0} → Pure A → M A
lift (Got a) z = Fine a z
lift Bad z = Wrongly
lift Deep z = TooDeep

abbrev pub and_then : {A B : Type 0} → Pure A → (A → Pure B) → Pure B
and_then (Got a) f = f a
and_then Bad f = Bad
and_then Deep f = Deep
