-- Behind a coherent environment stand entries that are sound, one after another, and it stays coherent.
use Rattle.std.proofs.Common.{◌≡◌, refl, sym, ap, subst, ◌∙◌, ℕ, ◌<◌, ◌≤◌, ◌+◌, Bool, true, false, List, [], ◌∷◌, ◌++◌, length, Option, Some, None, arith, append_assoc, length-append}
use Rattle.std.specs.Prelude.{option_map, option_and_then, not, ◌&&◌, nat_le, nat_lt, filter_map, is_some, slice_get, IsTrue}
use Rattle.std.specs.List.{list_all, list_any, cons_option}
use mathlib.Core.Bool.{true≢false}
use Rattle.sha2.specs.Sha256.{sha256}
use Rattle.ac_types.specs.Types.{Bytes, same_bytes}
use Rattle.ac_types.proofs.FirstLaws.{none≢some}
use Rattle.ac_types.proofs.Same.{both_true, and_true}
use Rattle.ac_terms.specs.Defs.{Environment, Entry, Shelf, name_at, def_of, signature_at}
use Rattle.ac_terms.specs.Names.{text_of_def, text_of_entry, name_by}
use Rattle.ac_terms.specs.Parts.{part_refs, part_mentions, def_parts}
use Rattle.ac_terms.specs.Bounds.{fits_def}
use Rattle.ac_terms.proofs.AllLaws.{all_implies}
use Rattle.ac_rules.specs.Views.{is_known}
use Rattle.ac_rules.specs.Modules.{are_distinct, refers_back, is_plain_def, has_distinct_names, has_closed_sig, has_sound_fields, has_sound_likes}
use Rattle.ac_types.specs.Limits.{is_uri}
use Rattle.ac_rules.specs.Coherent.{IsCoherent, IsAModule, IsLinked, rank, rises, uri_of, mark_of}
use Rattle.ac_rules.proofs.ListLaws.{any_old, get_new}
use Rattle.ac_rules.proofs.LookupLaws.{name_old, text_old}
use Rattle.ac_rules.proofs.Placing.{entry_text_old}
use Rattle.ac_rules.proofs.Grown.{MayStand, grown}
use Rattle.ac_rules.proofs.ViewLaws.{within}
use Rattle.ac_load_rules.proofs.Sooner.{sound_sooner}

-- what holds of a list holds of its front
rises_front : (low : ℕ) (xs ys : List Entry) → rises low (xs ++ ys) ≡ true → rises low xs ≡ true
rises_front low [] ys h = refl
rises_front low (x ∷ xs) ys h = let r = both_true (nat_le low (rank x.seen)) _ h in and_true r.0 (rises_front (rank x.seen) xs ys r.1)

option_append : {B : Type 0} (o : Option B) (xs ys : List B) → cons_option o (xs ++ ys) ≡ cons_option o xs ++ ys
option_append None xs ys = refl
option_append (Some y) xs ys = refl

pub filter_append : {A B : Type 0} (f : A → Option B) (xs ys : List A) → filter_map f (xs ++ ys) ≡ filter_map f xs ++ filter_map f ys
filter_append f [] ys = refl
filter_append f (x ∷ xs) ys = ap (cons_option (f x)) (filter_append f xs ys) ∙ option_append (f x) (filter_map f xs) (filter_map f ys)

pub distinct_front : (xs ys : List Bytes) → are_distinct (xs ++ ys) ≡ true → are_distinct xs ≡ true
distinct_front [] ys h = refl
distinct_front (x ∷ xs) ys h =
    let r = both_true (not (list_any (same_bytes x) (xs ++ ys))) _ h in
    and_true (on (list_any (same_bytes x) xs) refl r.0) (distinct_front xs ys r.1)
  where
    on : (b : Bool) → list_any (same_bytes x) xs ≡ b → not (list_any (same_bytes x) (xs ++ ys)) ≡ true → not (list_any (same_bytes x) xs) ≡ true
    on false is k = ap not is
    on true is k = absurd (true≢false (sym k ∙ ap not (any_old (same_bytes x) xs ys is)))

distinct_filtered : (f : Entry → Option Bytes) (xs ys : Environment) → are_distinct (filter_map f (xs ++ ys)) ≡ true → are_distinct (filter_map f xs) ≡ true
distinct_filtered f xs ys h = distinct_front (filter_map f xs) (filter_map f ys) (sym (ap are_distinct (filter_append f xs ys)) ∙ h)

-- what holds of all entries together
pub record IsOrdered (F : Environment) : Type 0 where
  pub few : length F ≤ 65535
  pub in_order : rises 0 F ≡ true
  pub uris_distinct : are_distinct (filter_map uri_of F) ≡ true
  pub marks_distinct : are_distinct (filter_map mark_of F) ≡ true
  pub one_text : (i j : ℕ) (n s t : Bytes) → name_at F i ≡ Some n → name_at F j ≡ Some n → text_of_entry F i ≡ Some s → text_of_entry F j ≡ Some t → s ≡ t

-- what holds of an entry behind those in front
pub record IsFit (E : Environment) (x : Entry) : Type 0 where
  pub from_shelf : (u : Bytes) → x.seen ≡ Shelf u → IsTrue (is_uri u) × IsAModule x.def
  pub named : x.name ≡ name_by sha256 E x.def
  pub fits : fits_def x.def ≡ true
  pub refers : refers_back E (length E) x.def ≡ true
  pub mentions : list_all (is_known E) (part_mentions (def_parts x.def)) ≡ true
  pub plain : is_plain_def x.def ≡ true
  pub distinct : has_distinct_names x.def ≡ true
  pub closed : has_closed_sig x.def ≡ true
  pub likes : has_sound_likes x.def ≡ true
  pub linked : IsLinked (E ++ x ∷ []) (length E) x.def

module _ (E : Environment) (coherent : IsCoherent E) (x : Entry) (ys : Environment) (ordered : IsOrdered (E ++ x ∷ ys)) (fit : IsFit E x) (sound : has_sound_fields (E ++ x ∷ ys) (length E) x.def ≡ true) where
  all_is : (E ++ x ∷ []) ++ ys ≡ E ++ x ∷ ys
  all_is = append_assoc E (x ∷ []) ys

  ordered_too : IsOrdered ((E ++ x ∷ []) ++ ys)
  ordered_too = subst IsOrdered (sym all_is) ordered

  back : list_all (λ j. nat_lt j (length E)) (part_refs (def_parts x.def)) ≡ true
  back = all_implies (λ j. nat_lt j (length E) && is_some (signature_at E j)) (λ j. nat_lt j (length E)) (λ j q. (both_true (nat_lt j (length E)) _ q).0) (part_refs (def_parts x.def)) fit.refers

  def_last : def_of (E ++ x ∷ ys) (length E) ≡ Some x.def
  def_last = ap (option_map (λ (e : Entry). e.def)) (get_new E x ys)

  name_last : name_at (E ++ x ∷ ys) (length E) ≡ x.name
  name_last = ap (option_and_then (λ (e : Entry). e.name)) (get_new E x ys)

  text_last : text_of_entry (E ++ x ∷ ys) (length E) ≡ text_of_def E x.def
  text_last = ap (option_and_then (text_of_def (E ++ x ∷ ys))) def_last ∙ text_old E (x ∷ ys) x.def fit.fits back

  name_within : (j : ℕ) (n : Bytes) → name_at E j ≡ Some n → j < length E
  name_within j n h = on (slice_get E j) refl where
    on : (o : Option Entry) → slice_get E j ≡ o → j < length E
    on None is = absurd (none≢some (sym (ap (option_and_then (λ (e : Entry). e.name)) is) ∙ h))
    on (Some e) is = within E j e is

  one_text : (j : ℕ) (n s t : Bytes) → name_at E j ≡ Some n → x.name ≡ Some n → text_of_entry E j ≡ Some s → text_of_def E x.def ≡ Some t → s ≡ t
  one_text j n s t a b c d =
      let lt = name_within j n a in
      ordered.one_text j (length E) n s t (name_old E (x ∷ ys) j lt ∙ a) (name_last ∙ b) (entry_text_old E coherent (x ∷ ys) j lt ∙ c) (text_last ∙ d)

  stands : MayStand E x
  stands = record {
    room = omega (arith, ordered.few, length-append E (x ∷ ys));
    in_order = rises_front 0 (E ++ x ∷ []) ys ordered_too.in_order;
    from_shelf = fit.from_shelf;
    uris_distinct = distinct_filtered uri_of (E ++ x ∷ []) ys ordered_too.uris_distinct;
    marks_distinct = distinct_filtered mark_of (E ++ x ∷ []) ys ordered_too.marks_distinct;
    named = fit.named;
    one_text = one_text;
    fits = fit.fits;
    refers = fit.refers;
    mentions = fit.mentions;
    plain = fit.plain;
    distinct = fit.distinct;
    closed = fit.closed;
    sound = sound_sooner E coherent x ys fit.fits fit.refers fit.mentions sound;
    likes = fit.likes;
    linked = fit.linked;
  }

  pub coherent_behind : IsCoherent (E ++ x ∷ [])
  coherent_behind = grown E coherent x stands
