-- No text is rejected for want of memory.
use Rattle.std.proofs.Common.{◌≡◌, ◌∙◌, refl, sym, ap, ℕ, zero, suc, ◌+◌, Bool, true, false, not, List, [], ◌∷◌, length, Option, Some, None}
use Rattle.std.specs.Prelude.{is_none, option_map}
use Rattle.std.specs.Option.{option_or}
use Rattle.sha2.specs.Sha256.{sha256}
use Rattle.ac_types.specs.Partial.{given, first_failing}
use Rattle.ac_types.specs.Types.{Bytes}
use Rattle.ac_terms.specs.Defs.{Environment, Field, Def, AModule, AnImport, AMark, Seen, Entry}
use Rattle.ac_rules.specs.Links.{is_exact}
use Rattle.ac_rules.specs.Modules.{is_valuable, uncovered, like_missing, are_typed}
use Rattle.ac_syntax.specs.Signs.{Sign}
use Rattle.ac_syntax.specs.Trees.{ProgramTree}
use Rattle.ac_syntax.specs.declared.fault.ParseFault.{ParseFault}
use Rattle.ac_syntax.specs.Texts.{too_long, lexical, too_deep, Refused, unread, syntax}
use Rattle.ac_resolve_scopes.specs.Surfaces.{SurfaceFault, surface_fault, Unbound, Repeated, TooMany}
use Rattle.ac_load_rules.specs.Causes.{Cause, BadScopes, IllTyped, Uncovered, NotValuable, LikeMissing, Unresolved, Clash, first_at, first_below, ill_typed, uncovering, not_valuable, without_likespec, unlinked, entries_clash, clash_of, first_entry_clash, added, loaded, main_type, refusal_cause}
use Rattle.ac_load_rules.specs.Accepting.{Shelved, IsRefused, no_tree, with_tree, Refuses, of_shelf, of_program}
use Rattle.ac_load.specs.Kinds.{parse_kind, kind_of, of_cause}
use Rattle.ac_load.specs.Loading.{Rejects}
use Rattle.ac_load.specs.declared.kind.Kind.{Kind}
use Rattle.ac_load.specs.declared.kind.Kind.TheVariants.{Memory}
use mathlib.Core.Bool.{true≢false}

abbrev speaks : Kind → Bool
speaks Memory = false
speaks kind = true

-- a cause that speaks, where there is one
abbrev told : Option Cause → Bool
told None = true
told (Some c) = speaks (kind_of c)

either_told : (a b : Option Cause) → told a ≡ true → told b ≡ true → told (option_or a b) ≡ true
either_told None b h k = k
either_told (Some c) b h k = h

given_told : (t : Bool) (o : Option Cause) → told o ≡ true → told (given t o) ≡ true
given_told true o h = h
given_told false o h = refl

map_told : {A : Type 0} (f : A → Cause) → ((x : A) → speaks (kind_of (f x)) ≡ true) → (o : Option A) → told (option_map f o) ≡ true
map_told f h None = refl
map_told f h (Some x) = h x

at_told : (f : ℕ → Entry → Option Cause) → ((k : ℕ) (e : Entry) → told (f k e) ≡ true) → (k : ℕ) (es : List Entry) → told (first_at k f es) ≡ true
at_told f h k [] = refl
at_told f h k (e ∷ es) = either_told (f k e) _ (h k e) (at_told f h (suc k) es)

below_told : (f : ℕ → Option Cause) → ((k : ℕ) → told (f k) ≡ true) → (n : ℕ) → told (first_below n f) ≡ true
below_told f h zero = refl
below_told f h (suc k) = either_told (first_below k f) (f k) (below_told f h k) (h k)

scope_told : (f : SurfaceFault) → speaks (kind_of (BadScopes f)) ≡ true
scope_told (Unbound at) = refl
scope_told (Repeated at) = refl
scope_told (TooMany count) = refl

-- the causes, each over a definition
ill_told : (E : Environment) (n k : ℕ) (d : Def) → told (elim d [ AModule m ↦ given (not (are_typed E (n + k) 0 m.fields)) (Some (IllTyped k)) | AnImport i ↦ None | AMark t ↦ None ]) ≡ true
ill_told E n k (AModule m) = given_told (not (are_typed E (n + k) 0 m.fields)) (Some (IllTyped k)) refl
ill_told E n k (AnImport i) = refl
ill_told E n k (AMark t) = refl

uncovering_told : (k : ℕ) (d : Def) → told (elim d [ AModule m ↦ option_map (Uncovered k) (uncovered m) | AnImport i ↦ None | AMark t ↦ None ]) ≡ true
uncovering_told k (AModule m) = map_told (Uncovered k) (λ x. refl) (uncovered m)
uncovering_told k (AnImport i) = refl
uncovering_told k (AMark t) = refl

valuable_told : (k : ℕ) (d : Def) → told (elim d [ AModule m ↦ option_map (NotValuable k) (first_failing (λ (f : Field). is_valuable f.term) m.fields) | AnImport i ↦ None | AMark t ↦ None ]) ≡ true
valuable_told k (AModule m) = map_told (NotValuable k) (λ x. refl) (first_failing (λ (f : Field). is_valuable f.term) m.fields)
valuable_told k (AnImport i) = refl
valuable_told k (AMark t) = refl

unlike_told : (k : ℕ) (d : Def) → told (elim d [ AModule m ↦ None | AnImport i ↦ given (not (is_exact i.constraint)) (option_map (LikeMissing k) (like_missing i)) | AMark t ↦ None ]) ≡ true
unlike_told k (AModule m) = refl
unlike_told k (AnImport i) = given_told (not (is_exact i.constraint)) (option_map (LikeMissing k) (like_missing i)) (map_told (LikeMissing k) (λ x. refl) (like_missing i))
unlike_told k (AMark t) = refl

unlinked_told : (k : ℕ) (link : Option ℕ) (d : Def) → told (elim d [ AModule m ↦ None | AnImport i ↦ given (is_none link) (Some (Unresolved k)) | AMark t ↦ None ]) ≡ true
unlinked_told k link (AModule m) = refl
unlinked_told k link (AnImport i) = given_told (is_none link) (Some (Unresolved k)) refl
unlinked_told k link (AMark t) = refl

clash_told : (E : Environment) → told (first_entry_clash E) ≡ true
clash_told E = below_told (clash_of E) (λ second. below_told (λ first. given (entries_clash E first second) (Some (Clash first second))) (λ first. given_told (entries_clash E first second) (Some (Clash first second)) refl) second) (length E)

cause_told : (E : Environment) (seen : Seen) (p : ProgramTree) → told (refusal_cause sha256 E seen p) ≡ true
cause_told E seen p =
    let F = loaded sha256 E seen p in
    let xs = added sha256 E seen p in
    either_told (option_map BadScopes (surface_fault sha256 E p)) _ (map_told BadScopes scope_told (surface_fault sha256 E p))
    (either_told (first_at 0 (ill_typed F (length E)) xs) _ (at_told (ill_typed F (length E)) (λ k e. ill_told F (length E) k e.def) 0 xs)
    (either_told (given (is_none (main_type sha256 E seen p)) (Some (IllTyped (length xs)))) _ (given_told (is_none (main_type sha256 E seen p)) (Some (IllTyped (length xs))) refl)
    (either_told (first_at 0 uncovering xs) _ (at_told uncovering (λ k e. uncovering_told k e.def) 0 xs)
    (either_told (first_at 0 not_valuable xs) _ (at_told not_valuable (λ k e. valuable_told k e.def) 0 xs)
    (either_told (first_at 0 without_likespec xs) _ (at_told without_likespec (λ k e. unlike_told k e.def) 0 xs)
    (either_told (first_at 0 unlinked xs) _ (at_told unlinked (λ k e. unlinked_told k e.link e.def) 0 xs)
    (either_told (first_entry_clash F) None (clash_told F) refl)))))))

text_told : (G : List Sign → ProgramTree → Type 0) (text : Bytes) (e : ParseFault) → Refused G text e → speaks (parse_kind e) ≡ true
text_told G text e (unread (too_long long)) = refl
text_told G text e (unread (lexical short fails)) = refl
text_told G text e (unread (too_deep short lexed deep)) = refl
text_told G text e (syntax read none here) = refl

part_told : (G : List Sign → ProgramTree → Type 0) (E : Environment) (seen : Seen) (text : Bytes) (c : Cause) → IsRefused sha256 G E seen text c → speaks (kind_of c) ≡ true
part_told G E seen text c (no_tree {e = e} r) = text_told G text e r
part_told G E seen text c (with_tree {tree = p} has found) = sym (ap told found) ∙ cause_told E seen p

all_told : (text : Bytes) (shelf : List Shelved) (part : ℕ) (c : Cause) → Refuses sha256 text shelf part c → speaks (kind_of c) ≡ true
all_told text shelf part c (of_shelf before rest is gives r) = part_told _ _ _ _ c r
all_told text shelf part c (of_program gives r) = part_told _ _ _ _ c r

kind_told : (text : Bytes) (shelf : List Shelved) (part : ℕ) (a : Kind) → Rejects text shelf part a → speaks a ≡ true
kind_told text shelf part a (of_cause {c = c} r) = all_told text shelf part c r

pub never_memory : (text : Bytes) (shelf : List Shelved) (part : ℕ) → Rejects text shelf part Memory → ⊥
never_memory text shelf part r = true≢false (sym (kind_told text shelf part Memory r))
