-- The entries of a table as its names and texts.
use Rattle.std.proofs.Common.{◌≡◌, refl, sym, ap, ◌∙◌, ℕ, List, [], ◌∷◌, ◌++◌, map, length, get_or, Bool, true, false, Some, None, position, slice_get}
use Rattle.std.specs.Prelude.{◌≢◌, option_map}
use Rattle.std.specs.Map.{keys_of}
use Rattle.std.proofs.lemmas.List.Quantifiers.{position-Some}
use Rattle.std.proofs.lemmas.Option.{get_or_from_slice_get}
use Rattle.ac_types.specs.declared.text.Text.{Text}
use Rattle.ac_types.specs.Types.{Bytes, same_bytes}
use mathlib.Core.Bool.{true≢false}
use Rattle.ac_types.proofs.Same.{bytes_eq, bytes_refl}
use Rattle.ac_types.proofs.FirstLaws.{none≢some, some_eq}
use Rattle.ac_terms.proofs.EnvLaws.{slice_get-map, position-map}
use Rattle.ac_names.specs.Table.{KnownNames, number_of, Adds, Clashes}

-- what contracts see of an entry
abbrev pub shown : Bytes × Text → Bytes × Bytes
shown e = (e.0, e.1.0)

pub names_shown : (es : List (Bytes × Text)) → map (λ (p : Bytes × Bytes). p.0) (map shown es) ≡ keys_of es
names_shown [] = refl
names_shown (e ∷ es) = ap (λ ns. e.0 ∷ ns) (names_shown es)

pub get_shown : (es : List (Bytes × Text)) (i : ℕ) → slice_get (map shown es) i ≡ option_map shown (slice_get es i)
get_shown es i = slice_get-map shown es i

pub shown_push : (es : List (Bytes × Text)) (e : Bytes × Text) → map shown (es ++ e ∷ []) ≡ map shown es ++ shown e ∷ []
shown_push [] e = refl
shown_push (x ∷ es) e = ap (λ ps. shown x ∷ ps) (shown_push es e)

-- the place of a name, in the entries and in the table that shows them
pub number_shown : (es : List (Bytes × Text)) (table : KnownNames) → map shown es ≡ table → (name : Bytes) → position (same_bytes name) (keys_of es) ≡ number_of table name
number_shown es table view name =
    position-map (λ (e : Bytes × Text). e.0) (same_bytes name) (λ (e : Bytes × Text). same_bytes name e.0) (λ e. refl) es
    ∙ sym (position-map shown (λ (p : Bytes × Bytes). same_bytes name p.0) (λ (e : Bytes × Text). same_bytes name e.0) (λ e. refl) es)
    ∙ ap (λ (t : KnownNames). number_of t name) view

-- what is found of a name
pub record Found (table : KnownNames) (name text : Bytes) (number : ℕ) : Type 0 where
  pub place : number_of table name ≡ Some number
  pub entry : slice_get table number ≡ Some (name, text)

pub found : (es : List (Bytes × Text)) (table : KnownNames) → map shown es ≡ table → (name : Bytes) (i : ℕ) (key : Bytes) (kept : Text) → position (same_bytes name) (keys_of es) ≡ Some i → slice_get es i ≡ Some (key, kept) → Found table name kept.0 i
found es table view name i key kept p g =
    let place : number_of table name ≡ Some i = sym (number_shown es table view name) ∙ p in
    let at : slice_get table i ≡ Some (key, kept.0) = ap (λ (t : KnownNames). slice_get t i) (sym view) ∙ get_shown es i ∙ ap (option_map shown) g in
    let test : same_bytes name (get_or table i (key, kept.0)).0 ≡ true = (position-Some (λ (q : Bytes × Bytes). same_bytes name q.0) table i (key, kept.0) place).1 in
    let same : name ≡ key = bytes_eq name key (ap (λ (q : Bytes × Bytes). same_bytes name q.0) (sym (get_or_from_slice_get table i (key, kept.0) (key, kept.0) at)) ∙ test) in
    record { place = place; entry = at ∙ ap (λ (k : Bytes). Some (k, kept.0)) (sym same) }

-- two texts that were tested for equality
pub same_text : (a b x y : Bytes) (r : Bool) → a ≡ x → b ≡ y → r ≡ same_bytes a b → r ≡ true → x ≡ y
same_text a b x y r p q e h = sym p ∙ bytes_eq a b (sym e ∙ h) ∙ q

pub other_text : (a b x y : Bytes) (r : Bool) → a ≡ x → b ≡ y → r ≡ same_bytes a b → r ≡ false → x ≢ y
other_text a b x y r p q e h s = absurd (true≢false (sym (e ∙ ap (same_bytes a) (q ∙ sym s ∙ sym p) ∙ bytes_refl a) ∙ h))

-- a known name with this text stays
pub adds_known : (table : KnownNames) (name text : Bytes) (i : ℕ) → Found table name text i → Adds table name text i table
adds_known table name text i f = rw f.place (refl, f.entry, refl)

-- a new name goes last
pub adds_new : (table : KnownNames) (name text : Bytes) → number_of table name ≡ None → Adds table name text (length table) (table ++ (name, text) ∷ [])
adds_new table name text new = rw new (refl, refl)

-- a name with this text does not clash
pub no_clash : (table : KnownNames) (name text : Bytes) (i number : ℕ) → Found table name text i → Clashes table name text number → ⊥
no_clash table name text i number f c =
    let same : i ≡ number = some_eq (sym f.place ∙ c.0) in
    c.1 (ap (slice_get table) (sym same) ∙ f.entry)

-- nor does a new one
pub no_clash_new : (table : KnownNames) (name text : Bytes) (number : ℕ) → number_of table name ≡ None → Clashes table name text number → ⊥
no_clash_new table name text number new c = none≢some (sym new ∙ c.0)

-- a name with another text does, under its number
pub clash : (table : KnownNames) (name text other : Bytes) (i : ℕ) → Found table name other i → other ≢ text → Clashes table name text i
clash table name text other i f apart = (f.place, λ e. apart (ap (λ (p : Bytes × Bytes). p.1) (some_eq (sym f.entry ∙ e))))

pub clash_number : (table : KnownNames) (name text other : Bytes) (i number : ℕ) → Found table name other i → Clashes table name text number → i ≡ number
clash_number table name text other i number f c = some_eq (sym f.place ∙ c.0)
