-- A table of names that keeps the texts of entries, entry by entry and program by program.
use Rattle.std.proofs.Common.{◌≡◌, ◌∙◌, refl, sym, ap, ap₂, subst, ℕ, suc, ◌<◌, Bool, List, [], ◌∷◌, ◌++◌, length, get_or, Option, Some, None, slice_get, arith}
use Rattle.std.specs.Prelude.{MatchOption}
use Rattle.std.specs.Option.{option_or}
use Rattle.std.proofs.lemmas.Option.{slice_get_within}
use Rattle.ac_types.specs.Partial.{given}
use Rattle.ac_types.specs.Types.{Bytes, same_bytes}
use Rattle.ac_types.proofs.Same.{bytes_refl}
use Rattle.ac_types.proofs.FirstLaws.{some_eq}
use Rattle.ac_terms.specs.Terms.{Expr}
use Rattle.ac_terms.specs.Defs.{Environment, name_at}
use Rattle.ac_terms.specs.Names.{text_of_entry}
use Rattle.ac_terms.specs.Read.{environment_of, expr_of}
use Rattle.ac_rules.specs.declared.loaded.Loaded.{Loaded}
use Rattle.ac_rules.proofs.ListLaws.{get_old, get_new}
use Rattle.ac_index.proofs.PositionLaws.{position_more}
use Rattle.ac_names.specs.Table.{KnownNames, number_of, Adds}
use Rattle.ac_colours.specs.Chains.{Programs, HaveOneText}
use Rattle.ac_chain.specs.ChainTexts.{programs_of}
use Rattle.ac_chain.specs.inner.Known.{Keeps, KeepsEntries, NamesGrow}

-- one name more
abbrev test : Bytes → Bytes × Bytes → Bool
test name p = same_bytes name p.0

added : (old new : KnownNames) (name text : Bytes) (number : ℕ) → (o : Option ℕ) → number_of old name ≡ o → MatchOption o ((number ≡ length old) × (new ≡ old ++ (name, text) ∷ [])) (λ known. (number ≡ known) × (slice_get old known ≡ Some (name, text)) × (new ≡ old))
    → Keeps new name text × NamesGrow old new
added old new name text number (Some k) at a = (
  record { number = k; place = ap (λ (t : KnownNames). number_of t name) a.2 ∙ at; entry = ap (λ (t : KnownNames). slice_get t k) a.2 ∙ a.1 },
  λ n s h. record { number = h.number; place = ap (λ (t : KnownNames). number_of t n) a.2 ∙ h.place; entry = ap (λ (t : KnownNames). slice_get t h.number) a.2 ∙ h.entry },
)
added old new name text number None at a = (
  record {
    number = length old;
    place = ap (λ (t : KnownNames). number_of t name) a.1 ∙ position_more (test name) old (name, text) ∙ ap₂ (λ (x : Option ℕ) b. option_or x (given b (Some (length old)))) at (bytes_refl name);
    entry = ap (λ (t : KnownNames). slice_get t (length old)) a.1 ∙ get_new old (name, text) [];
  },
  λ n s h. record {
    number = h.number;
    place = ap (λ (t : KnownNames). number_of t n) a.1 ∙ position_more (test n) old (name, text) ∙ ap (λ (x : Option ℕ). option_or x (given (same_bytes n name) (Some (length old)))) h.place;
    entry = ap (λ (t : KnownNames). slice_get t h.number) a.1 ∙ get_old old ((name, text) ∷ []) h.number (slice_get_within old h.number (n, s) h.entry) ∙ h.entry;
  },
)

pub adds : (old new : KnownNames) (name text : Bytes) (number : ℕ) → Adds old name text number new → Keeps new name text × NamesGrow old new
adds old new name text number a = added old new name text number (number_of old name) refl a

-- one text for a name
one_text : (table : KnownNames) (name s t : Bytes) → Keeps table name s → Keeps table name t → s ≡ t
one_text table name s t h k =
    let at : h.number ≡ k.number = some_eq (sym h.place ∙ k.place) in
    ap (λ (p : Bytes × Bytes). p.1) (some_eq (sym h.entry ∙ ap (slice_get table) at ∙ k.entry))

-- program by program
pub all_kept : (ps : List Loaded) (table : KnownNames) → ((i : ℕ) (d : Loaded) → i < length ps → KeepsEntries (environment_of (get_or ps i d).env) table) → HaveOneText (programs_of ps)
all_kept ps table kept p q a b i j n s t hp hq gp gq =
    let l = at ps p a.0 a.1 a.2 in
    let r = at ps q b.0 b.1 b.2 in
    one_text table n s t (kept_at p l i n s hp gp) (kept_at q r j n t hq gq)
  where
    -- a program among those that were loaded is one of these
    at : (ls : List Loaded) (p : Environment × Expr) (front back : Programs) → programs_of ls ≡ front ++ p ∷ back → (k : ℕ) × (d : Loaded) × (k < length ls) × (p ≡ (environment_of (get_or ls k d).env, expr_of (get_or ls k d).main))
    at [] p [] back e = absurd (cc)
    at [] p (x ∷ front) back e = absurd (cc)
    at (l ∷ ls) p [] back e = (0, l, omega arith, cc)
    at (l ∷ ls) p (x ∷ front) back e = let r = at ls p front back (cc) in (suc r.0, r.1, (let lt = r.2 in omega (arith, lt)), r.3)

    kept_at : (p : Environment × Expr) → ((k : ℕ) × (d : Loaded) × (k < length ps) × (p ≡ (environment_of (get_or ps k d).env, expr_of (get_or ps k d).main))) → (i : ℕ) (n s : Bytes) → name_at p.0 i ≡ Some n → text_of_entry p.0 i ≡ Some s → Keeps table n s
    kept_at p l = subst (λ (E : Environment). KeepsEntries E table) (sym (ap (λ (x : Environment × Expr). x.0) l.3)) (kept l.0 l.1 l.2)
