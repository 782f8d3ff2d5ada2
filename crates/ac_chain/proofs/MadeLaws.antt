-- The set of the strings that were made, with one more; and which are native, crossing by crossing.
use Rattle.std.proofs.Common.{◌≡◌, ◌∙◌, ap, ap₂, sym, refl, ℕ, Bool, true, false, ◌||◌, List, [], ◌∷◌, ◌++◌, map, append_assoc}
use Rattle.std.specs.List.{list_any}
use Rattle.std.specs.declared.vec.Vec.{Vec}
use Rattle.std.specs.declared.alloc.Global.{Global}
use Rattle.std.specs.declared.cmp.Ordering.{Ordering}
use Rattle.std.specs.declared.cmp.Ordering.TheVariants.{Less, Equal, Greater}
use Rattle.std.specs.Ordering.{nat_cmp, is_eq, match_ordering}
use Rattle.std.specs.Cmp.Lexicographic.{slice_cmp}
use Rattle.std.specs.BTreeSet.{BTreeSet, IsEmpty, insert_key}
use Rattle.std.proofs.lemmas.Map.Text.{is_eq-slice_cmp}
use Rattle.ac_types.specs.Types.{Bytes, same_bytes}
use Rattle.ac_types.specs.declared.text.Text.{Text}
use Rattle.ac_types.proofs.Same.{bytes_eq}
use Rattle.ac_run.specs.declared.crossing.Crossing as code
use Rattle.ac_run.specs.declared.crossing.Crossing.TheVariants as there
use Rattle.ac_chain.specs.Natives.{is_made, natives, made_by}
use Rattle.ac_run.specs.Journals.{crossing_of}
use Rattle.ac_chain.specs.inner.Made.{has_string, Has}

-- a key of the set
abbrev Key : Type 0
Key = Vec ℕ Global

abbrev key_cmp : Key → Key → Ordering
key_cmp a b = slice_cmp nat_cmp a.items b.items

abbrev is_at : Bytes → Key → Bool
is_at s k = is_eq (slice_cmp nat_cmp s k.items)

twice : (a b : Bool) → (a || b) ≡ (a || (a || b))
twice true b = refl
twice false b = refl

swapped : (a b c : Bool) → (a || (b || c)) ≡ (b || (a || c))
swapped true true c = refl
swapped true false c = refl
swapped false b c = refl

-- one more key
any_insert : (s : Bytes) (xs : List Key) (k : Key) → list_any (is_at s) (insert_key key_cmp xs k) ≡ (is_at s k || list_any (is_at s) xs)
any_insert s [] k = refl
any_insert s (x ∷ xs) k = by (any_insert s xs k) (key_cmp k x) refl where
  by : list_any (is_at s) (insert_key key_cmp xs k) ≡ (is_at s k || list_any (is_at s) xs) → (o : Ordering) → key_cmp k x ≡ o
      → list_any (is_at s) (match_ordering o (k ∷ x ∷ xs) (x ∷ xs) (x ∷ insert_key key_cmp xs k)) ≡ (is_at s k || (is_at s x || list_any (is_at s) xs))
  by rest Less e = refl
  by rest Equal e =
      let same : k.items ≡ x.items = bytes_eq k.items x.items (sym (is_eq-slice_cmp k.items x.items) ∙ ap is_eq e) in
      ap (λ (b : Bytes). is_eq (slice_cmp nat_cmp s b) || list_any (is_at s) xs) (sym same) ∙ twice (is_at s k) (list_any (is_at s) xs)
      ∙ ap (λ (b : Bytes). is_at s k || (is_eq (slice_cmp nat_cmp s b) || list_any (is_at s) xs)) same
  by rest Greater e = ap (λ b. is_at s x || b) rest ∙ swapped (is_at s x) (is_at s k) (list_any (is_at s) xs)

pub has_none : (set : BTreeSet Key) → IsEmpty set → Has set []
has_none set e s = ap (list_any (is_at s)) e

pub has_more : (old new : BTreeSet Key) (k : Key) (text : Bytes) → new.keys ≡ insert_key key_cmp old.keys k → k.items ≡ text → (earlier : List Bytes) → Has old earlier → Has new (text ∷ earlier)
has_more old new k text is same earlier so s =
    ap (list_any (is_at s)) is ∙ any_insert s old.keys k
    ∙ ap₂ (λ a b. a || b) (is_eq-slice_cmp s k.items ∙ ap (same_bytes s) same) (so s)

-- of a journal some crossings have come: these strings were made, and what is left says the rest
pub record SoFar (journal left : List code.Crossing) (flags : List Bool) (set : BTreeSet Key) (earlier : List Bytes) : Type 0 where
  pub now : List Bytes
  pub has : Has set now
  pub native : natives earlier (map crossing_of journal) ≡ flags ++ natives now (map crossing_of left)
  pub made : made_by earlier (map crossing_of journal) ≡ made_by now (map crossing_of left)

pub starts : (journal left : List code.Crossing) (flags : List Bool) (set : BTreeSet Key) (earlier : List Bytes) → left ≡ journal → flags ≡ [] → Has set earlier → SoFar journal left flags set earlier
starts journal left flags set earlier all none so = record {
  now = earlier;
  has = so;
  native = ap (λ l. natives earlier (map crossing_of l)) (sym all) ∙ ap (λ f. f ++ natives earlier (map crossing_of left)) (sym none);
  made = ap (λ l. made_by earlier (map crossing_of l)) (sym all);
}

pub next_made : (journal left rest : List code.Crossing) (text : Text) (flags new : List Bool) (old set : BTreeSet Key) (earlier : List Bytes) → left ≡ there.Made text ∷ rest → SoFar journal left flags old earlier
    → new ≡ flags → ((now : List Bytes) → Has old now → Has set (text.0 ∷ now)) → SoFar journal rest new set earlier
next_made journal left rest text flags new old set earlier next so same more = record {
  now = text.0 ∷ so.now;
  has = more so.now so.has;
  native = so.native ∙ ap₂ (λ f l. f ++ natives so.now (map crossing_of l)) (sym same) next;
  made = so.made ∙ ap (λ l. made_by so.now (map crossing_of l)) next;
}

pub next_read : (journal left rest : List code.Crossing) (text : Text) (flags new : List Bool) (b : Bool) (old set : BTreeSet Key) (earlier : List Bytes) → left ≡ there.Read text ∷ rest → SoFar journal left flags old earlier
    → new ≡ flags ++ b ∷ [] → b ≡ has_string old text.0 → set ≡ old → SoFar journal rest new set earlier
next_read journal left rest text flags new b old set earlier next so more is same = record {
  now = so.now;
  has = λ s. ap (λ x. has_string x s) same ∙ so.has s;
  native =
      so.native ∙ ap (λ l. flags ++ natives so.now (map crossing_of l)) next
      ∙ ap (λ (x : Bool). flags ++ (x ∷ natives so.now (map crossing_of rest))) (sym (is ∙ so.has text.0))
      ∙ sym (append_assoc flags (b ∷ []) (natives so.now (map crossing_of rest))) ∙ ap (λ f. f ++ natives so.now (map crossing_of rest)) (sym more);
  made = so.made ∙ ap (λ l. made_by so.now (map crossing_of l)) next;
}

nothing_more : (flags : List Bool) → flags ++ [] ≡ flags
nothing_more [] = refl
nothing_more (b ∷ bs) = ap (λ l. b ∷ l) (nothing_more bs)

pub all_come : (journal left : List code.Crossing) (flags : List Bool) (set : BTreeSet Key) (earlier : List Bytes) → left ≡ [] → SoFar journal left flags set earlier
    → (flags ≡ natives earlier (map crossing_of journal)) × Has set (made_by earlier (map crossing_of journal))
all_come journal left flags set earlier none so = (
  sym (so.native ∙ ap (λ l. flags ++ natives so.now (map crossing_of l)) none ∙ nothing_more flags),
  λ s. so.has s ∙ sym (ap (λ m. is_made m s) (so.made ∙ ap (λ l. made_by so.now (map crossing_of l)) none)),
)
