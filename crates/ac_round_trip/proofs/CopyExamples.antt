-- Copies, worked out: lists keep their order, seals are those that the reader's home needs, and a function keeps its text.
use Rattle.std.proofs.Common.{◌≡◌, refl, sym, ap, ◌∙◌, subst, ◌<◌, IsTrue}
use Rattle.std.specs.Prelude.{ℕ, ℤ, Bool, true, false, zero, suc, pos, [], ◌∷◌, None, Some, codes, slice_get}
use mathlib.Core.Bool.{true≢false}
use native.Mathlib.Omega.{arith}
use Rattle.ac_types.proofs.FirstLaws.{none≢some, some_eq}
use Rattle.ac_types.specs.Limits.{is_uri}
use Rattle.ac_types.specs.Types.{Bytes, Typ, TInt, TUnit, TList, TFun}
use Rattle.ac_terms.specs.Terms.{Home, Main, In, Expr, Ref, App, Evaluated, Value, VInt, VNil, VCons, VLam, VProxy, VSeal}
use Rattle.ac_terms.specs.Defs.{Environment, Entry, Def, AMark, Seen, Own', Shelf, Arrived, def_of, name_at}
use Rattle.ac_terms.specs.Names.{name_of_entry}
use Rattle.ac_terms.specs.Bounds.{fits_def}
use Rattle.ac_rules.specs.Coherent.{Each, IsLinked, IsAModule, IsCoherent}
use Rattle.ac_rules.specs.Modules.{refers_back, mentions_known, is_plain_def, has_distinct_names, has_closed_sig, has_sound_fields, has_sound_likes}
use Rattle.ac_rules.specs.Plain.{packed}
use Rattle.ac_rules.specs.Views.{Mode, Plain, Coloured}
use Rattle.ac_rules.proofs.Samples.{c_name, t, c_t, one_entry}
use Rattle.ac_meaning.specs.Worlds.{World, fresh}
use Rattle.ac_meaning.specs.Acts.{At, Over, Returned, iter}
use Rattle.ac_meaning.specs.Reduction.{step}
use Rattle.ac_meaning.specs.BareTerms.{bare_term, bare_value}
use Rattle.ac_meaning.specs.BareReduction as lean
use Rattle.ac_meaning.specs.Packing.{Packing, CannotPack, Packs, packing, landing}
use Rattle.ac_round_trip.specs.Copies.{Copied, int, nil, cons, lambda, in_seal, opened_there, sealed_there, ref, captured, app}
use Rattle.ac_round_trip.specs.Strings.{IsString, there_and_back, given_and_read}

-- `5 :: 6 :: ([] : int list)`, and turned around
abbrev listed : ℤ → ℤ → Value
listed n k = VCons (VInt n) (VCons (VInt k) (VNil (TList TInt)))

module _ (mode : Mode) (E F : Environment) (f : ℕ → ℕ) (c d : Home) where
  in_order : Copied mode E F f c (listed (pos 5) (pos 6)) d (TList TInt) (listed (pos 5) (pos 6))
  in_order = cons int (cons int nil)

  same_int : (n k : ℤ) → Copied mode E F f c (VInt n) d TInt (VInt k) → n ≡ k
  same_int n k int = refl

  first_item : (T : Typ) (v u v' u' : Value) → Copied mode E F f c (VCons v u) d (TList T) (VCons v' u') → Copied mode E F f c v d T v'
  first_item T v u v' u' (cons p q) = p

  not_turned : Copied mode E F f c (listed (pos 5) (pos 6)) d (TList TInt) (listed (pos 6) (pos 5)) → ⊥
  not_turned h =
      let e : pos 5 ≡ pos 6 = same_int (pos 5) (pos 6) (first_item TInt (VInt (pos 5)) (VCons (VInt (pos 6)) (VNil (TList TInt))) (VInt (pos 6)) (VCons (VInt (pos 5)) (VNil (TList TInt))) h) in
      let n : ◌≡◌ {A = ℕ} 5 6 = cc in
      omega (arith, n)

-- a number in a seal of the module C: sealed in the main program, and as C has it in C; in Plain mode never sealed
abbrev four : Value
four = VSeal (In 0) c_name t (VInt (pos 4))

abbrev same_numbers : ℕ → ℕ
same_numbers j = j

in_main : Copied Coloured one_entry one_entry same_numbers Main four Main c_t four
in_main = sealed_there refl (in_seal int)

in_own_home : Copied Coloured one_entry one_entry same_numbers Main four (In 0) c_t (VInt (pos 4))
in_own_home = opened_there refl (in_seal int)

in_plain_mode : Copied Plain one_entry one_entry same_numbers Main four Main c_t (VInt (pos 4))
in_plain_mode = opened_there refl (in_seal int)

-- where C comes behind a mark, its number is another: `fun (u : unit) -> C.get l`, with l captured
abbrev behind_mark : Environment
behind_mark = record { def = AMark (codes "MK"); name = None; seen = Own'; link = None } ∷ one_entry

abbrev getting : ℕ → Expr
getting j = App (Ref j (codes "get")) (Evaluated c_t four)

abbrev next : ℕ → ℕ
next j = suc j

a_function : Copied Coloured one_entry behind_mark next Main (VLam TUnit (getting 0)) Main (TFun TUnit TInt) (VProxy Main TUnit TInt (VLam TUnit (App (Ref 1 (codes "get")) (Evaluated c_t (VSeal (In 1) c_name t (VInt (pos 4)))))))
a_function = lambda tt (app (ref (c_name, refl, refl)) (captured (sealed_there refl (in_seal int))))

-- `unmarshal (marshal "M" (5 :: 6 :: []) : int list) as int list` gives it again
abbrev marked : World
marked = fresh (record { def = AMark (codes "M"); name = None; seen = Own'; link = None } ∷ []) [] false

abbrev string_of : Packing → Bytes
string_of (CannotPack x) = []
string_of (Packs s) = s

abbrev sent : Bytes
sent = string_of (packing marked (TList TInt) (codes "M") (packed marked.environment Main (listed (pos 5) (pos 6)) (TList TInt)))

comes_back : (mode : Mode) → iter (step mode 0) 3 (At (there_and_back (TList TInt) (codes "M") (listed (pos 5) (pos 6))) marked) ≡ Over (Returned (listed (pos 5) (pos 6)) (given_and_read marked sent))
unfolding packing landing
comes_back mode = refl

comes_back_bare : iter (lean.step 0) 3 (At (bare_term Main (there_and_back (TList TInt) (codes "M") (listed (pos 5) (pos 6)))) marked) ≡ Over (Returned (bare_value Main (listed (pos 5) (pos 6))) (given_and_read marked sent))
unfolding packing landing
comes_back_bare = refl

-- the premises of the laws are met: this is the string of the list
each_mark : (test : ℕ → Def → Bool) → test 0 (AMark (codes "M")) ≡ true → Each marked.environment test
each_mark test h zero d p = subst (λ x. IsTrue (test 0 x)) (some_eq p) h
each_mark test h (suc k) d p = absurd (none≢some p)

linked_mark : (i : ℕ) (d : Def) → def_of marked.environment i ≡ Some d → IsLinked marked.environment i d
linked_mark zero d p = subst (λ x. IsLinked marked.environment 0 x) (some_eq p) refl
linked_mark (suc k) d p = absurd (none≢some p)

named_mark : (i : ℕ) → i < 1 → name_at marked.environment i ≡ name_of_entry marked.environment i
named_mark zero h = refl
named_mark (suc k) h = refl

no_name : (i : ℕ) (n : Bytes) → name_at marked.environment i ≡ Some n → ⊥
no_name zero n p = none≢some p
no_name (suc k) n p = none≢some p

is_shelf : Seen → Bool
is_shelf Own' = false
is_shelf (Shelf u) = true
is_shelf Arrived = false

from_shelf_mark : (i : ℕ) (e : Entry) (u : Bytes) → slice_get marked.environment i ≡ Some e → e.seen ≡ Shelf u → IsTrue (is_uri u) × IsAModule e.def
unfolding is_shelf
from_shelf_mark zero e u p q = absurd (true≢false (sym (ap is_shelf (ap (λ (x : Entry). x.seen) (some_eq p) ∙ q))))
from_shelf_mark (suc k) e u p q = absurd (none≢some p)

marked_coherent : IsCoherent marked.environment
marked_coherent = record {
  few = omega arith;
  in_order = refl;
  from_shelf = from_shelf_mark;
  uris_distinct = refl;
  marks_distinct = refl;
  named = named_mark;
  one_text = λ i j n s t p q a b. absurd (no_name i n p);
  within_bounds = each_mark (λ i d. fits_def d) refl;
  refers = each_mark (refers_back marked.environment) refl;
  mentions = each_mark (mentions_known marked.environment) refl;
  plain = each_mark (λ i d. is_plain_def d) refl;
  distinct = each_mark (λ i d. has_distinct_names d) refl;
  closed = each_mark (λ i d. has_closed_sig d) refl;
  fields_sound = each_mark (has_sound_fields marked.environment) refl;
  likes_sound = each_mark (λ i d. has_sound_likes d) refl;
  linked = linked_mark;
}

is_string : IsString Coloured marked Main (TList TInt) (listed (pos 5) (pos 6)) (codes "M") sent
unfolding packing
is_string = record {
  coherent = marked_coherent;
  typed = (TInt, refl, refl, (TInt, refl, refl, (TInt, refl, refl, refl)));
  packable = record { value_holds = refl; type_known = refl; type_fits = refl; type_small = refl; value_fits = refl; small_types = refl };
  gives = refl;
}
