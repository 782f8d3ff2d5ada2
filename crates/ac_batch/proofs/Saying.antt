-- What a kind other than want of memory says.
use Rattle.std.proofs.Common.{◌≡◌, refl}
use Rattle.ac_load.specs.declared.kind.Kind.{Kind}
use Rattle.ac_load.specs.declared.kind.Kind.TheVariants.{TooLong, Lexical, TooDeep, Syntax, Unbound, Repeated, TooMany, IllTyped, Signature, NotValuable, LikeMissing, Unresolved, Clash, Memory}
use Rattle.ac_load.specs.Kinds.{Says}

pub said : (kind : Kind) (P : Type 0) → (kind ≡ Memory → ⊥) → Says kind P → P
said (TooLong len) P other s = s
said (Lexical at) P other s = s
said (TooDeep at) P other s = s
said (Syntax at) P other s = s
said (Unbound at) P other s = s
said (Repeated at) P other s = s
said (TooMany count) P other s = s
said (IllTyped def) P other s = s
said (Signature def spec) P other s = s
said (NotValuable def field) P other s = s
said (LikeMissing def spec) P other s = s
said (Unresolved def) P other s = s
said (Clash first second) P other s = s
said Memory P other s = absurd (other refl)
