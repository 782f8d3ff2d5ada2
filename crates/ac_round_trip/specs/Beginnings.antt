-- No spelling begins another.
use Rattle.std.specs.Prelude.{◌≡◌, Bool, ◌++◌, IsTrue}
use Rattle.ac_types.specs.Types.{Bytes}

-- of what passes the test: where bytes begin with two spellings, these are of one thing, and the same is left. So none is a proper prefix of another
abbrev pub NoneBegins : {A : Type 0} → (A → Bool) → (A → Bytes) → Type 0
NoneBegins {A} passes spelled = (a b : A) (r s : Bytes) → IsTrue (passes a) → IsTrue (passes b) → spelled a ++ r ≡ spelled b ++ s → (a ≡ b) × (r ≡ s)
