-- Where the file of a name stands in a list.
use Rattle.std.proofs.Common.{◌≡◌, ◌<◌, cond, ℕ, zero, suc, List, [], ◌∷◌, ◌++◌, Bool, true, false, bytes_eq, string_bytes, length, get_or, Option, Some, None, refl, sym, ◌∙◌, ap, arith, set}
use Rattle.std.proofs.lemmas.Bool.{cond-true, cond-false, false_from_ne_true}
use Rattle.std.proofs.lemmas.Slice.Eq.{bytes_eq-Decides}
use Rattle.ac_outside.specs.Outside.{OthersSame}
use Rattle.ac_outside.specs.Kept.{file_contents}
use Rattle.ac_outside.specs.inner.FilePlaces.{StandsAt, Passed}
use Rattle.ac_outside.specs.declared.files.MemoryFile.{MemoryFile}

pub passed_more : (files : List MemoryFile) (name : List ℕ) (i : ℕ) (d : MemoryFile) → Passed files name i → i < length files → bytes_eq (string_bytes (get_or files i d).name) name ≡ false → Passed files name (suc i)
passed_more [] name zero d p h e = absurd (omega arith)
passed_more [] name (suc i) d p h e = absurd p
passed_more (f ∷ files) name zero d p h e = (e, tt)
passed_more (f ∷ files) name (suc i) d p h e = (p.0, passed_more files name i d p.1 (omega arith) e)

pub passed_at : (files : List MemoryFile) (name : List ℕ) (i : ℕ) (d : MemoryFile) → Passed files name i → i < length files → bytes_eq (string_bytes (get_or files i d).name) name ≡ true → StandsAt files name i
passed_at [] name zero d p h e = absurd (omega arith)
passed_at [] name (suc i) d p h e = absurd p
passed_at (f ∷ files) name zero d p h e = e
passed_at (f ∷ files) name (suc i) d p h e = (p.0, passed_at files name i d p.1 (omega arith) e)

pub passed_all : (files : List MemoryFile) (name : List ℕ) → Passed files name (length files) → file_contents files name ≡ None
passed_all [] name p = refl
passed_all (f ∷ files) name p = cond-false _ _ _ p.0 ∙ passed_all files name p.1

-- what stands at the place is what the name has
pub found : (files : List MemoryFile) (name : List ℕ) (i : ℕ) (d : MemoryFile) → StandsAt files name i → file_contents files name ≡ Some (get_or files i d).bytes.0
found [] name i d s = absurd s
found (f ∷ files) name zero d s = cond-true _ _ _ s
found (f ∷ files) name (suc i) d s = cond-false _ _ _ s.0 ∙ found files name i d s.1

pub set_here : (files : List MemoryFile) (name : List ℕ) (i : ℕ) (d new : MemoryFile) → StandsAt files name i → string_bytes new.name ≡ string_bytes (get_or files i d).name → file_contents (set files i new) name ≡ Some new.bytes.0
set_here [] name i d new s e = absurd s
set_here (f ∷ files) name zero d new s e = cond-true _ _ _ (ap (λ n. bytes_eq n name) e ∙ s)
set_here (f ∷ files) name (suc i) d new s e = cond-false _ _ _ s.0 ∙ set_here files name i d new s.1 e

differs : (a name other : List ℕ) → bytes_eq a name ≡ true → (other ≡ name → ⊥) → bytes_eq a other ≡ false
differs a name other s ne = false_from_ne_true _ (λ h. ne (sym ((bytes_eq-Decides a other).0 h) ∙ (bytes_eq-Decides a name).0 s))

pub set_other : (files : List MemoryFile) (name : List ℕ) (i : ℕ) (d new : MemoryFile) → StandsAt files name i → string_bytes new.name ≡ string_bytes (get_or files i d).name → OthersSame name (file_contents files) (file_contents (set files i new))
set_other [] name i d new s e other ne = absurd s
set_other (f ∷ files) name zero d new s e other ne = cond-false _ _ _ (ap (λ n. bytes_eq n other) e ∙ differs _ name other s ne) ∙ sym (cond-false _ _ _ (differs _ name other s ne))
set_other (f ∷ files) name (suc i) d new s e other ne = ap (λ (r : Option (List ℕ)). cond (bytes_eq (string_bytes f.name) other) (Some f.bytes.0) r) (set_other files name i d new s.1 e other ne)

pub push_here : (files : List MemoryFile) (name : List ℕ) (new : MemoryFile) → file_contents files name ≡ None → string_bytes new.name ≡ name → file_contents (files ++ new ∷ []) name ≡ Some new.bytes.0
push_here [] name new none e = cond-true _ _ _ ((bytes_eq-Decides (string_bytes new.name) name).1 e)
push_here (f ∷ files) name new none e = elim (bytes_eq (string_bytes f.name) name) as (λ (b : Bool). cond b (Some f.bytes.0) (file_contents files name) ≡ None → cond b (Some f.bytes.0) (file_contents (files ++ new ∷ []) name) ≡ Some new.bytes.0) [ true ↦ λ h. cc | false ↦ λ h. push_here files name new h e ] none

pub push_other : (files : List MemoryFile) (name : List ℕ) (new : MemoryFile) → string_bytes new.name ≡ name → OthersSame name (file_contents files) (file_contents (files ++ new ∷ []))
push_other [] name new e other ne = cond-false _ _ _ (differs (string_bytes new.name) name other ((bytes_eq-Decides (string_bytes new.name) name).1 e) ne)
push_other (f ∷ files) name new e other ne = ap (λ (r : Option (List ℕ)). cond (bytes_eq (string_bytes f.name) other) (Some f.bytes.0) r) (push_other files name new e other ne)
