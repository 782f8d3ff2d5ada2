-- What is there only under conditions: a rule without the type of a part gives none.
use Rattle.std.proofs.Common.{◌≡◌, refl, Bool, true, false, ◌&&◌, Option, Some, None}
use Rattle.std.specs.Prelude.{option_and_then}
use Rattle.ac_types.specs.Partial.{given}

abbrev nothing : (A : Type 0) → Option A
nothing A = None

pub none_given : {A : Type 0} (h : Bool) → given h (nothing A) ≡ nothing A
none_given true = refl
none_given false = refl

pub given_both : {A : Type 0} (h k : Bool) (x : Option A) → given h (given k x) ≡ given (h && k) x
given_both true k x = refl
given_both false k x = refl

pub strict_one : {A B : Type 0} (R : Option A → Option B) → R None ≡ None → (h : Bool) (x : Option A) → R (given h x) ≡ given h (R x)
strict_one R n true x = refl
strict_one R n false x = n

-- of two parts, and of three
pub strict_two : {A B C : Type 0} (R : Option A → Option B → Option C) → ((y : Option B) → R None y ≡ None) → ((x : Option A) → R x None ≡ None)
    → (h k : Bool) (x : Option A) (y : Option B) → R (given h x) (given k y) ≡ given (h && k) (R x y)
strict_two R n m true true x y = refl
strict_two R n m true false x y = m x
strict_two R n m false k x y = n (given k y)

pub strict_three : {A B C D : Type 0} (R : Option A → Option B → Option C → Option D) → ((y : Option B) (z : Option C) → R None y z ≡ None)
    → ((x : Option A) (z : Option C) → R x None z ≡ None) → ((x : Option A) (y : Option B) → R x y None ≡ None)
    → (h k l : Bool) (x : Option A) (y : Option B) (z : Option C) → R (given h x) (given k y) (given l z) ≡ given (h && (k && l)) (R x y z)
strict_three R n m o true true true x y z = refl
strict_three R n m o true true false x y z = o x y
strict_three R n m o true false l x y z = m x (given l z)
strict_three R n m o false k l x y z = n (given k y) (given l z)

-- behind what is there
pub under : {A B : Type 0} (f g : A → Option B) (h : Bool) → ((a : A) → f a ≡ given h (g a)) → (o : Option A) → option_and_then f o ≡ given h (option_and_then g o)
under f g true e None = refl
under f g false e None = refl
under f g h e (Some a) = e a
