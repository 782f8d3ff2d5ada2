-- A packet that is refused for want of a link has an import there.
use Rattle.std.proofs.Common.{◌≡◌, sym, ℕ, suc, ◌<◌, Bool, true, List, [], ◌∷◌, ◌++◌, length, Option, Some, None}
use Rattle.std.specs.Prelude.{not, option_map, position, slice_get}
use Rattle.std.specs.Option.{option_or}
use Rattle.std.proofs.lemmas.Option.{slice_get_within}
use mathlib.Core.Bool.{true≢false}
use Rattle.sha2.specs.Sha256.{sha256}
use Rattle.ac_types.proofs.FirstLaws.{none≢some, some_eq, given_some}
use Rattle.ac_types.specs.Partial.{first_some, given}
use Rattle.ac_types.specs.Types.{Typ}
use Rattle.ac_terms.specs.Defs.{Environment, Import, Def, AModule, AnImport, AMark, Packet}
use Rattle.ac_rules.specs.Packets.{PacketCause, Definition, Clash, Unresolved, WrongType, NoValue, Named, named_from, alone, clashes, first_clash, ill_formed, clash, too_many, is_resolved, unresolved, wrong_type, no_value, cause}
use Rattle.ac_rules.proofs.ListLaws.{found_passes}

-- which of two is there
later : {A : Type 0} (a b : Option A) (x : A) → option_or a b ≡ Some x → (a ≡ Some x → ⊥) → b ≡ Some x
later None b x e un = e
later (Some y) b x e un = absurd (un e)

sooner : {A : Type 0} (a b : Option A) (x : A) → option_or a b ≡ Some x → (b ≡ Some x → ⊥) → a ≡ Some x
sooner None b x e un = absurd (un e)
sooner (Some y) b x e un = e

-- the other causes are none of this kind
not_formed : (o : Option ℕ) (i : ℕ) → option_map Definition o ≡ Some (Unresolved i) → ⊥
not_formed None i e = cc
not_formed (Some k) i e = cc

not_clash : (known : List (Named sha256)) (k : ℕ) (rest : List (Named sha256)) (i : ℕ) → first_clash sha256 known k rest ≡ Some (Unresolved i) → ⊥
not_clash known k [] i e = cc
not_clash known k (a ∷ rest) i e = by (not_clash (known ++ a ∷ []) (suc k) rest i) (position (clashes sha256 a) known) e
  where
    by : (first_clash sha256 (known ++ a ∷ []) (suc k) rest ≡ Some (Unresolved i) → ⊥) → (o : Option ℕ)
        → elim o as (λ z. Option PacketCause) [ Some j ↦ Some (Clash k j) | None ↦ first_clash sha256 (known ++ a ∷ []) (suc k) rest ] ≡ Some (Unresolved i) → ⊥
    by more (Some j) q = cc
    by more None q = more q

not_given : (b : Bool) (x : PacketCause) (i : ℕ) → (x ≡ Unresolved i → ⊥) → given b (Some x) ≡ Some (Unresolved i) → ⊥
not_given b x i un e = un (some_eq (given_some b (Some x) e).1)

not_later : (E : Environment) (p : Packet) (T : Typ) (i : ℕ) → first_some (wrong_type sha256 p T ∷ no_value sha256 E p T ∷ []) ≡ Some (Unresolved i) → ⊥
not_later E p T i e =
    let last = later (wrong_type sha256 p T) (first_some (no_value sha256 E p T ∷ [])) (Unresolved i) e (not_given _ WrongType i (λ q. cc)) in
    not_given _ NoValue i (λ q. cc) (sooner (no_value sha256 E p T) None (Unresolved i) last (λ q. none≢some q))

-- a cause that tells a missing link is the first one of these
pub first_unresolved : (E : Environment) (p : Packet) (T : Typ) (i : ℕ) → cause sha256 E p T ≡ Some (Unresolved i) → unresolved sha256 E p.defs ≡ Some (Unresolved i)
first_unresolved E p T i e =
    let a = later (ill_formed sha256 p.defs) _ (Unresolved i) e (not_formed _ i) in
    let b = later (clash sha256 E p.defs) _ (Unresolved i) a (not_clash (named_from sha256 0 E E) 0 (named_from sha256 0 (alone sha256 p.defs) (alone sha256 p.defs)) i) in
    let c = later (too_many sha256 E p.defs) _ (Unresolved i) b (not_given _ _ i (λ q. cc)) in
    sooner (unresolved sha256 E p.defs) _ (Unresolved i) c (not_later E p T i)

-- the import that has no link
pub record HasImport (ds : List Def) (i : ℕ) : Type 0 where
  pub import : Import
  pub there : slice_get ds i ≡ Some (AnImport import)

an_import : (E : Environment) (ds : List Def) (i : ℕ) (d : Def) → slice_get ds i ≡ Some d → not (is_resolved sha256 E d) ≡ true → HasImport ds i
an_import E ds i (AModule m) at e = absurd (true≢false (sym e))
an_import E ds i (AnImport m) at e = record { import = m; there = at }
an_import E ds i (AMark t) at e = absurd (true≢false (sym e))

number_of : (o : Option ℕ) (i : ℕ) → option_map Unresolved o ≡ Some (Unresolved i) → o ≡ Some i
number_of None i e = cc
number_of (Some k) i e = cc

pub import_there : (E : Environment) (p : Packet) (T : Typ) (i : ℕ) → cause sha256 E p T ≡ Some (Unresolved i) → HasImport p.defs i
import_there E p T i e =
    let found = found_passes (λ d. not (is_resolved sha256 E d)) p.defs i (number_of _ i (first_unresolved E p T i e)) in
    an_import E p.defs i found.0 found.1 found.2

pub import_within : (E : Environment) (p : Packet) (T : Typ) (i : ℕ) → cause sha256 E p T ≡ Some (Unresolved i) → i < length p.defs
import_within E p T i e = let h = import_there E p T i e in slice_get_within p.defs i (AnImport h.import) h.there
