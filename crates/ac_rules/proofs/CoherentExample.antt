-- An environment of one module is coherent, under its true name.
use Rattle.std.proofs.Common.{◌≡◌, refl, sym, ap, ◌∙◌, subst, ℕ, zero, suc, ◌<◌, Bool, true, false, [], ◌∷◌, Some, None, IsTrue}
use Rattle.std.specs.Prelude.{option_map, slice_get}
use native.Mathlib.Omega.{arith}
use mathlib.Core.Bool.{true≢false}
use Rattle.sha2.specs.Sha256.{sha256}
use Rattle.ac_types.specs.Words.{is_reserved}
use Rattle.ac_types.proofs.FirstLaws.{none≢some, some_eq}
use Rattle.ac_types.specs.Types.{Bytes}
use Rattle.ac_terms.specs.Defs.{Environment, Entry, Def, Seen, Own', Shelf, Arrived, def_of, name_at}
use Rattle.ac_terms.specs.Names.{text_of_def, text_of_entry, name_of_entry}
use Rattle.ac_terms.specs.Bounds.{fits_def}
use Rattle.ac_terms.proofs.Samples.{six}
use Rattle.ac_types.specs.Limits.{is_uri}
use Rattle.ac_rules.specs.Coherent.{Each, IsCoherent, IsLinked, IsAModule}

abbrev entry : Entry
entry = record { def = six; name = option_map sha256 (text_of_def [] six); seen = Own'; link = None }

abbrev alone_six : Environment
alone_six = entry ∷ []

-- what holds of the one definition holds of each
each_six : (test : ℕ → Def → Bool) → test 0 six ≡ true → Each alone_six test
each_six test h zero d p = subst (λ x. IsTrue (test 0 x)) (some_eq p) h
each_six test h (suc k) d p = absurd (none≢some p)

fits_six : fits_def six ≡ true
unfolding is_reserved
fits_six = refl

linked_six : (i : ℕ) (d : Def) → def_of alone_six i ≡ Some d → IsLinked alone_six i d
linked_six zero d p = subst (λ x. IsLinked alone_six 0 x) (some_eq p) refl
linked_six (suc k) d p = absurd (none≢some p)

named_six : (i : ℕ) → i < 1 → name_at alone_six i ≡ name_of_entry alone_six i
named_six zero h = refl
named_six (suc k) h = refl

texts_of_six : (i j : ℕ) (n s t : Bytes) → name_at alone_six i ≡ Some n → name_at alone_six j ≡ Some n → text_of_entry alone_six i ≡ Some s → text_of_entry alone_six j ≡ Some t → s ≡ t
texts_of_six zero zero n s t p q a b = some_eq (sym a ∙ b)
texts_of_six zero (suc j) n s t p q a b = absurd (none≢some b)
texts_of_six (suc i) j n s t p q a b = absurd (none≢some a)

is_shelf : Seen → Bool
is_shelf Own' = false
is_shelf (Shelf u) = true
is_shelf Arrived = false

from_shelf_six : (i : ℕ) (e : Entry) (u : Bytes) → slice_get alone_six i ≡ Some e → e.seen ≡ Shelf u → IsTrue (is_uri u) × IsAModule e.def
unfolding is_shelf
from_shelf_six zero e u p q = absurd (true≢false (sym (ap is_shelf (ap (λ (x : Entry). x.seen) (some_eq p) ∙ q))))
from_shelf_six (suc k) e u p q = absurd (none≢some p)

pub alone_six-IsCoherent : IsCoherent alone_six
alone_six-IsCoherent = record {
  few = omega arith;
  in_order = refl;
  from_shelf = from_shelf_six;
  uris_distinct = refl;
  marks_distinct = refl;
  named = named_six;
  one_text = texts_of_six;
  within_bounds = each_six _ fits_six;
  refers = each_six _ refl;
  mentions = each_six _ refl;
  plain = each_six _ refl;
  distinct = each_six _ refl;
  closed = each_six _ refl;
  fields_sound = each_six _ refl;
  likes_sound = each_six _ refl;
  linked = linked_six;
}
