-- Laws of the fields of a module, and of what is kept of them.
use Rattle.std.proofs.Common.{◌≡◌, ℕ, zero, suc, List, [], ◌∷◌, ◌++◌, Option, None, get_or, map, refl}
use Rattle.std.specs.Prelude.{position}
use Rattle.ac_types.specs.Types.{Bytes, same_bytes}
use Rattle.ac_terms.specs.declared.def.Field as code_field
use Rattle.ac_terms.specs.Defs.{Field, field_number}
use Rattle.ac_terms.specs.Read.{field_of}
use Rattle.ac_terms.proofs.EnvLaws.{position-map}

pub named : (x : Bytes) (fs : List code_field.Field) → field_number x (map field_of fs) ≡ position (λ (f : code_field.Field). same_bytes f.name x) fs
named x fs = position-map field_of (λ (f : Field). same_bytes f.name x) (λ (f : code_field.Field). same_bytes f.name x) (λ f. refl) fs

-- nothing more is kept
pub none_more : {A : Type 0} (ks : List (Option A)) (k : ℕ) → get_or (ks ++ None ∷ []) k None ≡ get_or ks k None
none_more [] zero = refl
none_more [] (suc k) = refl
none_more (x ∷ ks) zero = refl
none_more (x ∷ ks) (suc k) = none_more ks k
