-- What a reader of the code answers.
use Rattle.std.specs.Prelude.{◌≡◌, Option, Some, None, Result, Ok, Err}
use Rattle.ac_types.specs.Types.{Bytes}
use Rattle.ac_decode_pieces.specs.declared.fault.PieceFault.{PieceFault}
use Rattle.ac_decode_pieces.specs.declared.fault.PieceFault.TheVariants as fault

-- it gives nothing exactly where nothing is read, unless memory runs out
abbrev pub NoneRead : {A : Type 0} → PieceFault → Option A → Type 0
NoneRead (fault.Misfit at) read = read ≡ None
NoneRead fault.Short read = read ≡ None
NoneRead fault.Memory read = Unit {0}

-- it gives, seen so, what is read, and leaves what is left
abbrev pub ReadsAs : {X A : Type 0} → (X → A) → Result X PieceFault → Option (A × Bytes) → Bytes → Type 0
ReadsAs view (Ok x) read left = read ≡ Some (view x, left)
ReadsAs view (Err e) read left = NoneRead e read

-- what it gives says how reading goes on
abbrev pub ReadsOn : {X A : Type 0} → (X → Option A) → Result X PieceFault → Option A → Type 0
ReadsOn on (Ok x) read = read ≡ on x
ReadsOn on (Err e) read = NoneRead e read

-- something else is made of what it gives
abbrev pub MadeOfRead : {X Y A B : Type 0} → (X → A) → (Y → B) → (A → B) → Result X PieceFault → Result Y PieceFault → Type 0
MadeOfRead view seen c (Ok x) (Ok y) = seen y ≡ c (view x)
MadeOfRead view seen c (Err e) (Err f) = f ≡ e
MadeOfRead _ _ _ _ _ = ⊥
