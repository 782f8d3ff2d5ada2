-- With which signs the parts of an expression begin, and which signs go on with one.
use Rattle.std.proofs.Common.{◌≡◌, ◌≤◌, ◌<◌, ℕ, suc, Bool, true, false, List, [], ◌∷◌, Option, Some, None, refl, ap, arith, if◌then◌else◌}
use Rattle.ac_syntax.specs.Signs.{Sign, Int, Str, Lower, Upper, Fixed, Other}
use Rattle.ac_syntax.specs.Trees.{Tree}
use Rattle.ac_syntax.specs.Patterns.{exception_sign, exception_with_string}
use Rattle.ac_syntax.specs.Expressions.{Operator, operator_of, is_bare, Level, Expr, Part, Binary, After, Unary, App, Args, Atom, Ending, Closed, Swallow, Parses, alone, sequence, let_in, let_rec, fun, rec, if_else, marshal, unmarshal, raise, operators, binary, unary, stop, left, right, once, minus, negative, not_, app, some, exn_with_string, applied, no_argument, argument, number, string, true_, false_, unit, exn, var, of_module, parens, tuple, nil, none, match_with, try_with, symbol_begins_atom, begins_atom, operator_front, symbol_front, sign_front, front, looseness}
use Rattle.ac_syntax.specs.declared.sign.Symbol.{Symbol}
use Rattle.ac_syntax.specs.declared.sign.Symbol.TheVariants.{Semicolon, Minus, Not, SomeWord, Let, Fun, Rec, If, Marshal, Unmarshal, Raise, Star, Slash, Mod, Plus, Caret, Cons, Equals, Less, And, Or, Failure, InvalidArgument, NotFound, DivisionByZero, MatchFailure, EndOfFile, SysError, MarshalFailure, UnmarshalFailure, ResolveFailure}
use Rattle.ac_syntax.proofs.Exceptions.{nothing_there}

-- the level that begins with this symbol: 1 an atom, 2 an app, 3 a unary, 4 a part, 5 none
abbrev pub other_rank : Symbol → ℕ
other_rank SomeWord = 2
other_rank Failure = 2
other_rank InvalidArgument = 2
other_rank SysError = 2
other_rank MarshalFailure = 2
other_rank UnmarshalFailure = 2
other_rank ResolveFailure = 2
other_rank Minus = 3
other_rank Not = 3
other_rank Let = 4
other_rank Fun = 4
other_rank Rec = 4
other_rank If = 4
other_rank Marshal = 4
other_rank Unmarshal = 4
other_rank Raise = 4
other_rank s = 5

abbrev pub symbol_rank : Symbol → ℕ
symbol_rank s = if symbol_begins_atom s then 1 else other_rank s

abbrev pub rank : List Sign → ℕ
rank (Int a n ∷ ts) = 1
rank (Str a x ∷ ts) = 1
rank (Lower a x ∷ ts) = 1
rank (Upper a x ∷ ts) = 1
rank (Fixed a t ∷ ts) = symbol_rank t
rank ts = 5

abbrev pub rank_of : Level → ℕ
rank_of Expr = 4
rank_of Part = 4
rank_of (Binary k) = 3
rank_of (After k at a) = 5
rank_of Unary = 3
rank_of App = 2
rank_of (Args at f) = 5
rank_of Atom = 1

exception_begins : {k : ℕ} (t : Symbol) → exception_sign t ≡ Some k → symbol_begins_atom t ≡ true
exception_begins NotFound e = refl
exception_begins DivisionByZero e = refl
exception_begins MatchFailure e = refl
exception_begins EndOfFile e = refl
exception_begins t e = nothing_there e

-- an exception with a string begins an app, and no atom
pub with_string_rank : {k : ℕ} (t : Symbol) → exception_with_string t ≡ Some k → symbol_rank t ≡ 2
with_string_rank Failure e = refl
with_string_rank InvalidArgument e = refl
with_string_rank SysError e = refl
with_string_rank MarshalFailure e = refl
with_string_rank UnmarshalFailure e = refl
with_string_rank ResolveFailure e = refl
with_string_rank t e = nothing_there e

atom_rank : (t : Symbol) → symbol_begins_atom t ≡ true → symbol_rank t ≡ 1
atom_rank t e = ap (λ (b : Bool). if b then 1 else other_rank t) e

pub atom_begins : {k : Ending} {ts r : List Sign} {e : Tree} → Parses Atom k ts e r → begins_atom ts ≡ true
atom_begins number = refl
atom_begins string = refl
atom_begins true_ = refl
atom_begins false_ = refl
atom_begins unit = refl
atom_begins (exn {t = t} e) = exception_begins t e
atom_begins var = refl
atom_begins of_module = refl
atom_begins (parens p) = refl
atom_begins (tuple p q) = refl
atom_begins (nil T) = refl
atom_begins (none T) = refl
atom_begins (match_with p q) = refl
atom_begins (try_with p q) = refl

other_rank_low : (t : Symbol) → other_rank t ≤ 5
other_rank_low SomeWord = omega arith
other_rank_low Failure = omega arith
other_rank_low InvalidArgument = omega arith
other_rank_low SysError = omega arith
other_rank_low MarshalFailure = omega arith
other_rank_low UnmarshalFailure = omega arith
other_rank_low ResolveFailure = omega arith
other_rank_low Minus = omega arith
other_rank_low Not = omega arith
other_rank_low Let = omega arith
other_rank_low Fun = omega arith
other_rank_low Rec = omega arith
other_rank_low If = omega arith
other_rank_low Marshal = omega arith
other_rank_low Unmarshal = omega arith
other_rank_low Raise = omega arith
other_rank_low s = omega arith

low_both : (b : Bool) (n : ℕ) → n ≤ 5 → (if b then 1 else n) ≤ 5
low_both true n h = omega arith
low_both false n h = h

symbol_rank_low : (t : Symbol) → symbol_rank t ≤ 5
symbol_rank_low t = low_both (symbol_begins_atom t) (other_rank t) (other_rank_low t)

rank_low : (ts : List Sign) → rank ts ≤ 5
rank_low [] = omega arith
rank_low (Int a n ∷ ts) = omega arith
rank_low (Str a x ∷ ts) = omega arith
rank_low (Lower a x ∷ ts) = omega arith
rank_low (Upper a x ∷ ts) = omega arith
rank_low (Fixed a t ∷ ts) = symbol_rank_low t
rank_low (Other a ∷ ts) = omega arith

pub begins : {l : Level} {k : Ending} {ts r : List Sign} {e : Tree} → Parses l k ts e r → rank ts ≤ rank_of l
begins (alone p) = begins p
begins (sequence p q) = begins p
begins (let_in T p q) = omega arith
begins (let_rec T U p q) = omega arith
begins (fun T p) = omega arith
begins (rec T U p) = omega arith
begins (if_else p q v) = omega arith
begins (marshal p q T) = omega arith
begins (unmarshal p T) = omega arith
begins (raise p T) = omega arith
begins (operators p) = omega (arith, begins p)
begins (binary p q) = begins p
begins (unary p) = begins p
begins stop = rank_low _
begins (left {t = t} o side p q) = symbol_rank_low t
begins (right {t = t} o side p) = symbol_rank_low t
begins (once {t = t} o side p) = symbol_rank_low t
begins (minus b p) = omega arith
begins negative = omega arith
begins (not_ p) = omega arith
begins (app p) = omega (arith, begins p)
begins (some p) = omega arith
begins (exn_with_string {t = t} e p) = omega (arith, with_string_rank t e)
begins (applied p q) = omega (arith, begins p)
begins no_argument = rank_low _
begins (argument p q) = rank_low _
begins number = omega arith
begins string = omega arith
begins true_ = omega arith
begins false_ = omega arith
begins unit = omega arith
begins (exn {t = t} e) = omega (arith, atom_rank t (exception_begins t e))
begins var = omega arith
begins of_module = omega arith
begins (parens p) = omega arith
begins (tuple p q) = omega arith
begins (nil T) = omega arith
begins (none T) = omega arith
begins (match_with p q) = omega arith
begins (try_with p q) = omega arith

-- a part of this level doesn't begin with signs of a looser rank
pub begins_not : {P : Type 0} {l : Level} {k : Ending} {ts r : List Sign} {e : Tree} → Parses l k ts e r → rank_of l < rank ts → P
begins_not p h = absurd (omega (arith, begins p))

-- an operator at the front goes on with its own level
pub front_operator : {x : ℕ × Operator} (p : ℕ) (t : Symbol) (ts : List Sign) → operator_of t ≡ Some x → front (Fixed p t ∷ ts) ≡ suc x.0
front_operator p Star ts e = ap operator_front e
front_operator p Slash ts e = ap operator_front e
front_operator p Mod ts e = ap operator_front e
front_operator p Plus ts e = ap operator_front e
front_operator p Minus ts e = ap operator_front e
front_operator p Caret ts e = ap operator_front e
front_operator p Cons ts e = ap operator_front e
front_operator p Equals ts e = ap operator_front e
front_operator p Less ts e = ap operator_front e
front_operator p And ts e = ap operator_front e
front_operator p Or ts e = ap operator_front e
front_operator p t ts e = nothing_there e

operator_front_positive : (o : Option (ℕ × Operator)) → 0 < operator_front o
operator_front_positive (Some x) = omega arith
operator_front_positive None = omega arith

symbol_front_positive : (t : Symbol) → 0 < symbol_front t
symbol_front_positive Semicolon = omega arith
symbol_front_positive t = operator_front_positive (operator_of t)

sign_front_positive : (ts : List Sign) → 0 < sign_front ts
sign_front_positive [] = omega arith
sign_front_positive (Int a n ∷ ts) = omega arith
sign_front_positive (Str a x ∷ ts) = omega arith
sign_front_positive (Lower a x ∷ ts) = omega arith
sign_front_positive (Upper a x ∷ ts) = omega arith
sign_front_positive (Fixed a t ∷ ts) = symbol_front_positive t
sign_front_positive (Other a ∷ ts) = omega arith

positive_both : (b : Bool) (n : ℕ) → 0 < n → 0 < (if b then 1 else n)
positive_both true n h = omega arith
positive_both false n h = h

pub front_positive : (ts : List Sign) → 0 < front ts
front_positive ts = positive_both (begins_atom ts) (sign_front ts) (sign_front_positive ts)

-- nothing goes on with an atom
pub atom_stops : {k : Ending} {ts r : List Sign} {e : Tree} → Parses Atom k ts e r → 0 < front r
atom_stops {r = r} p = front_positive r

-- an atom at the front goes on with a function
pub argument_goes_on : {P : Type 0} (ts : List Sign) → begins_atom ts ≡ true → 1 < front ts → P
argument_goes_on ts e h = let f : front ts ≡ 1 = ap (λ (b : Bool). if b then 1 else sign_front ts) e in absurd (omega arith)

-- a `;` goes on with an expr
pub semicolon_goes_on : {P : Type 0} {a : ℕ} (r s : List Sign) → r ≡ Fixed a Semicolon ∷ s → 8 < front r → P
semicolon_goes_on r s is h = absurd (omega (arith, ap front is))

-- an operator at the front goes on with its level
pub operator_goes_on : {P : Type 0} {k : ℕ} {o : Operator} (p : ℕ) (t : Symbol) (ts : List Sign) → operator_of t ≡ Some (suc k, o) → suc (suc k) < front (Fixed p t ∷ ts) → P
operator_goes_on p t ts is h = absurd (omega (arith, front_operator p t ts is))

-- what stands behind a first operand is no operator of a tighter level
pub front_stops : {k at : ℕ} {j : Ending} {a e : Tree} {r s : List Sign} → Parses (After (suc k) at a) j r e s → suc (suc k) < front s → suc k < front r
front_stops stop h = omega arith
front_stops (left {p = p} {t = t} {ts = ts} is side v w) h = omega (arith, front_operator p t ts is)
front_stops (right {p = p} {t = t} {ts = ts} is side v) h = omega (arith, front_operator p t ts is)
front_stops (once {p = p} {t = t} {ts = ts} is side v) h = omega (arith, front_operator p t ts is)

tighter : (k : Ending) (n : ℕ) → 8 < n → looseness Part k < n
tighter Closed n h = omega arith
tighter Swallow n h = omega arith

-- what doesn't go on with an expr doesn't go on with its last part
pub part_stops : {k : Ending} {ts r : List Sign} {e : Tree} → Parses Part k ts e r → 8 < front r → looseness Part k < front r
part_stops {k = k} {r = r} p h = tighter k (front r) h

-- what follows an INT that is a whole operand is no argument
number_app : {k : Ending} {q n : ℕ} {ts r : List Sign} {e : Tree} → Parses App k (Int q n ∷ ts) e r → 1 < front ts → is_bare (Int q n ∷ ts) e ≡ true
number_app (applied number no_argument) h = refl
number_app (applied number (argument p q)) h = argument_goes_on _ (atom_begins p) h

pub number_alone : {k : Ending} {q n : ℕ} {ts r : List Sign} {e : Tree} → Parses Unary k (Int q n ∷ ts) e r → 1 < front ts → is_bare (Int q n ∷ ts) e ≡ true
number_alone (app p) h = number_app p h
