-- Names that were seen before, and the least place of one that is seen again.
use Rattle.std.proofs.Common.{◌≡◌, ◌∙◌, ap, refl, sym, ℕ, ◌+◌, ◌<◌, Bool, true, false, not, cond, Bor, List, [], ◌∷◌, ◌++◌, map, length, take, drop, get_or, suc, Option, Some, None, add-one}
use Rattle.std.specs.Prelude.{option_map, is_some, if◌then◌else◌}
use Rattle.std.specs.Ordering.{nat_cmp, is_eq}
use Rattle.std.specs.Cmp.Lexicographic.{slice_cmp}
use Rattle.std.proofs.lemmas.Map.Text.{is_eq-slice_cmp}
use Rattle.std.proofs.Math.Seq.{take-suc, take-length}
use Rattle.std.proofs.lemmas.List.{map-append, get_or_default}
use Rattle.ac_types.specs.Types.{Bytes, same_bytes}
use Rattle.ac_syntax.specs.Trees.{NameAt}
use Rattle.ac_resolve_scopes.specs.Scopes.{binders_to, scope_with}
use Rattle.ac_resolve_scopes.specs.Searches.{least}
use Rattle.ac_resolve_scopes.specs.Repeated.{place_where_there, repeated_name}
use Rattle.ac_resolve_signatures.specs.declared.named.Named.{Named}
use Rattle.ac_resolve_signatures.specs.SigFlaws.{is_listed}
use Rattle.ac_resolve_signatures.specs.Reads.{named}
use Rattle.ac_types.proofs.Loops.{drop_next, drop_end}
use Rattle.ac_resolve_signatures.proofs.Leasts.{least-assoc, least-none}

-- the words of the first names
abbrev pub seen_words : ℕ → List Named → List Bytes
seen_words i names = scope_with (map named (take i names)) []

bind_end : (xs : List NameAt) (x : NameAt) (outer : List Bytes) → scope_with (xs ++ x ∷ []) outer ≡ x.word ∷ scope_with xs outer
bind_end [] x outer = refl
bind_end (y ∷ xs) x outer = bind_end xs x (y.word ∷ outer)

seen_more : (i : ℕ) (names : List Named) (x : Named) → i < length names → x ≡ get_or names i x → seen_words (i + 1) names ≡ x.word.now ∷ seen_words i names
seen_more i names x h is =
    ap (λ k. seen_words k names) (add-one i)
    ∙ ap (λ ns. scope_with (map named ns) []) (take-suc names i x h)
    ∙ ap (λ ns. scope_with ns []) (map-append named (take i names) (get_or names i x ∷ []))
    ∙ bind_end (map named (take i names)) (named (get_or names i x)) []
    ∙ ap (λ (y : Named). y.word.now ∷ seen_words i names) (sym is)

has_first : (b : Bool) (o : Option ℕ) → (if b then true else is_some o) ≡ is_some (elim b [ true ↦ Some 0 | false ↦ option_map suc o ])
has_first true o = refl
has_first false None = refl
has_first false (Some i) = refl

has_more : (has new : Bytes → Bool) (i : ℕ) (names : List Named) (x : Named) → i < length names → x ≡ get_or names i x → ((w : Bytes) → has w ≡ is_some (binders_to w (seen_words i names))) → ((v : Bor Bytes) → new v.now ≡ cond (is_eq (slice_cmp nat_cmp x.word.now v.now)) true (has v.now))
    → (w : Bytes) → new w ≡ is_some (binders_to w (seen_words (i + 1) names))
has_more has new i names x h is so more w =
    more (record { ref_ptr = (0, 0); now = w })
    ∙ ap (λ b. cond b true (has w)) (is_eq-slice_cmp x.word.now w)
    ∙ ap (λ b. if same_bytes x.word.now w then true else b) (so w)
    ∙ has_first (same_bytes x.word.now w) (binders_to w (seen_words i names))
    ∙ ap (λ ws. is_some (binders_to w ws)) (sym (seen_more i names x h is))

pub all_seen : (has : Bytes → Bool) (i : ℕ) (names : List Named) → i ≡ length names → ((w : Bytes) → has w ≡ is_some (binders_to w (seen_words i names))) → (w : Bytes) → has w ≡ is_listed (map named names) w
all_seen has i names e so w = so w ∙ ap (λ ns. is_some (binders_to w (scope_with (map named ns) []))) (ap (λ k. take k names) e ∙ take-length names)

again_there : (o : Option ℕ) (added : Bool) (at : ℕ) → added ≡ not (is_some o) → (if added then None else Some at) ≡ place_where_there o at
again_there None added at e = ap (λ (b : Bool). if b then None else Some at) e
again_there (Some i) added at e = ap (λ (b : Bool). if b then None else Some at) e

again_more : (whole first again next : Option ℕ) (added : Bool) (i : ℕ) (names : List Named) (x : Named) → i < length names → x ≡ get_or names i x
    → whole ≡ least first (repeated_name (seen_words i names) (map named (drop i names))) → added ≡ not (is_some (binders_to x.word.now (seen_words i names))) → again ≡ (if added then None else Some x.at) → next ≡ least first again
    → whole ≡ least next (repeated_name (seen_words (i + 1) names) (map named (drop (i + 1) names)))
again_more whole first again next added i names x h is so was a n =
    so
    ∙ ap (λ xs. least first (repeated_name (seen_words i names) (map named xs))) (drop_next i names x h is)
    ∙ ap (λ o. least first (least o (repeated_name (x.word.now ∷ seen_words i names) (map named (drop (i + 1) names))))) (sym (a ∙ again_there (binders_to x.word.now (seen_words i names)) added x.at was))
    ∙ sym (least-assoc first again (repeated_name (x.word.now ∷ seen_words i names) (map named (drop (i + 1) names))))
    ∙ ap (λ o. least o (repeated_name (x.word.now ∷ seen_words i names) (map named (drop (i + 1) names)))) (sym n)
    ∙ ap (λ ws. least next (repeated_name ws (map named (drop (i + 1) names)))) (sym (seen_more i names x h is))

pub again_all : (whole first : Option ℕ) (i : ℕ) (names : List Named) → i ≡ length names → whole ≡ least first (repeated_name (seen_words i names) (map named (drop i names))) → first ≡ whole
again_all whole first i names e so = sym (so ∙ ap (λ xs. least first (repeated_name (seen_words i names) (map named xs))) (drop_end i names e) ∙ least-none first)

-- the same of an element as loops name it
itself : (i : ℕ) (names : List Named) (d : Named) → i < length names → get_or names i d ≡ get_or names i (get_or names i d)
itself i names d h = get_or_default names i d (get_or names i d) h

pub has_one_more : (has new : Bytes → Bool) (i : ℕ) (names : List Named) (d : Named) → i < length names → ((w : Bytes) → has w ≡ is_some (binders_to w (seen_words i names))) → ((v : Bor Bytes) → new v.now ≡ cond (is_eq (slice_cmp nat_cmp (get_or names i d).word.now v.now)) true (has v.now))
    → (w : Bytes) → new w ≡ is_some (binders_to w (seen_words (i + 1) names))
has_one_more has new i names d h so more = has_more has new i names (get_or names i d) h (itself i names d h) so more

pub again_once_more : (whole first again next : Option ℕ) (added : Bool) (i : ℕ) (names : List Named) (d : Named) → i < length names
    → whole ≡ least first (repeated_name (seen_words i names) (map named (drop i names))) → added ≡ not (is_some (binders_to (get_or names i d).word.now (seen_words i names))) → again ≡ (if added then None else Some (get_or names i d).at) → next ≡ least first again
    → whole ≡ least next (repeated_name (seen_words (i + 1) names) (map named (drop (i + 1) names)))
again_once_more whole first again next added i names d h so was a n = again_more whole first again next added i names (get_or names i d) h (itself i names d h) so was a n
