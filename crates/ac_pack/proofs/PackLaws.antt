-- What a whole packet comes to, and what it needs.
use Rattle.std.proofs.Common.{◌≡◌, refl, sym, ap, ap₂, ◌∙◌, subst, ℕ, ◌+◌, ◌<◌, ◌≤◌, Bool, true, false, arith, List, [], ◌∷◌, ◌++◌, length, get_or, length-append, append_assoc, Some, None, Ok, Err}
use Rattle.std.specs.Prelude.{not, nat_lt}
use Rattle.std.specs.List.{list_all}
use Rattle.std.proofs.Math.Path.{fun_ext}
use Rattle.std.proofs.lemmas.Bool.Decides.{nat_tests}
use Rattle.std.proofs.lemmas.Option.{unwrap_or-slice_get}
use Rattle.ac_types.specs.Partial.{given, first_some}
use Rattle.ac_types.specs.Limits.{longest_packet}
use Rattle.ac_types.specs.Types.{Bytes, Typ}
use Rattle.ac_types.specs.declared.text.Text.{Text}
use Rattle.ac_terms.specs.Terms.{PValue}
use Rattle.ac_terms.specs.Defs.{Environment, Packet}
use Rattle.ac_terms.specs.Bounds.{nests_little}
use Rattle.ac_terms.specs.Heads.{packed_heads}
use Rattle.ac_terms.specs.Parts.{OfType, value_parts}
use Rattle.ac_terms.specs.Renumbered.{value_renumbered}
use Rattle.ac_terms.specs.Spelling.{two_written, type_bytes, value_bytes, packet_bytes}
use Rattle.ac_rules.specs.Needed.{mark_at, place_in, packet_of_entries, needed_by, roots_of}
use Rattle.ac_rules.specs.Faults.{Depth, Function, Size, Marshalled, NoString, AString, first_fault, whole_fault, whole}
use Rattle.ac_types.proofs.FirstLaws.{some_eq}
use Rattle.ac_rules.proofs.PacketFits.{few_needed}
use Rattle.ac_terms_renumber.specs.Numbers.{number_for}
use Rattle.ac_pack_terms.specs.Spoken.{spoken_by_all}
use Rattle.ac_pack_heads.specs.declared.stop.Stop.{Stop}
use Rattle.ac_pack_heads.specs.declared.stop.Stop.TheVariants as stop
use Rattle.ac_pack_definitions.specs.Forms.{AllBelow, forms, front_bytes, IsLong}
use Rattle.ac_pack.specs.Packs.{Packed}
use Rattle.ac_pack.specs.declared.packing.PackFault.{PackFault}
use Rattle.ac_pack.specs.inner.PackFaults.{of_stop}
use Rattle.ac_pack.specs.inner.Needs.{AreChosen}
use Rattle.ac_pack.proofs.RootLaws.{needed_alike, needed_inside}

lt_is : (n m : ℕ) → n < m → nat_lt n m ≡ true
lt_is n m h = grind (arith, nat_tests)

not_lt : (n m : ℕ) → m ≤ n → nat_lt n m ≡ false
not_lt n m h = grind (arith, nat_tests)

-- what is too long in front is too long in whole
long_more : (e : Stop) (xs ys zs : Bytes) → IsLong e xs → xs ++ ys ≡ zs → IsLong e zs
long_more e xs ys zs h p = λ f q. let r = h f q in (r.0, let lt = r.1 in omega (arith, lt, length-append xs ys, ap length p))

module _ (p : Packet) where
  abbrev outcome : Bool → Bool → Marshalled
  outcome shallow long = whole p (first_some (given (not shallow) (Some Depth) ∷ given long (Some Size) ∷ []))

  pub too_deep : list_all nests_little p.defs ≡ false → whole p (whole_fault p) ≡ NoString Depth
  too_deep h = ap (λ b. outcome b (nat_lt longest_packet (length (packet_bytes p)))) h

  too_long : list_all nests_little p.defs ≡ true → longest_packet < length (packet_bytes p) → whole p (whole_fault p) ≡ NoString Size
  too_long h l = ap₂ outcome h (lt_is longest_packet (length (packet_bytes p)) l)

  pub spelled : (text : Text) → list_all nests_little p.defs ≡ true → text.0 ≡ packet_bytes p → length text.0 ≤ longest_packet → Packed (whole p (whole_fault p)) (Ok text)
  spelled text h e l =
      ap₂ outcome h (not_lt longest_packet (length (packet_bytes p)) (subst (λ bs. length bs ≤ longest_packet) e l)) ∙ ap AString (sym e)

  pub too_many : (s : Stop) (x : PackFault) → list_all nests_little p.defs ≡ true → IsLong s (packet_bytes p) → x ≡ of_stop s → Packed (whole p (whole_fault p)) (Err x)
  too_many s x h long q = subst (λ (y : PackFault). Packed (whole p (whole_fault p)) (Err y)) (sym q) (by s long)
    where
      by : (s' : Stop) → IsLong s' (packet_bytes p) → Packed (whole p (whole_fault p)) (Err (of_stop s'))
      by stop.Depth g = let no : Depth ≡ Size = (g Depth refl).0 in absurd cc
      by stop.Function g = let no : Function ≡ Size = (g Function refl).0 in absurd cc
      by stop.Size g = too_long h (g Size refl).1
      by stop.Memory g = tt

module _ (E : Environment) (mark : ℕ) (is : List ℕ) (T : Typ) (v : PValue) (ns : List ℕ) (placed : number_for ns ≡ place_in is) where
  abbrev packet : Packet
  packet = packet_of_entries E mark is T v

  pub front_is : front_bytes (forms E mark (number_for ns) is) ≡ front_bytes packet.defs
  front_is = ap (λ (f : ℕ → ℕ). front_bytes (forms E mark f is)) placed

  same_number : (λ k. get_or ns k 0) ≡ place_in is
  same_number = fun_ext (λ k. sym (unwrap_or-slice_get ns k 0)) ∙ placed

  -- the bytes in front, and those of type and value, are the packet's
  pub joined : (text written : Bytes) → text ≡ front_bytes (forms E mark (number_for ns) is) → written ≡ type_bytes T ++ value_bytes two_written (value_renumbered (λ k. get_or ns k 0) v) → text ++ written ≡ packet_bytes packet
  joined text written e w =
      ap₂ (λ (xs ys : Bytes). xs ++ ys) (e ∙ front_is) (w ∙ ap (λ (f : ℕ → ℕ). type_bytes T ++ value_bytes two_written (value_renumbered f v)) same_number)
      ∙ sym (append_assoc (front_bytes packet.defs) (type_bytes T) (value_bytes two_written (value_renumbered (place_in is) v)))

  -- those in front are too many
  pub front_long : (e : Stop) → IsLong e (front_bytes (forms E mark (number_for ns) is)) → IsLong e (packet_bytes packet)
  front_long e h =
      let back : Bytes = type_bytes T ++ value_bytes two_written (value_renumbered (λ k. get_or ns k 0) v) in
      long_more e (front_bytes (forms E mark (number_for ns) is)) back (packet_bytes packet) h (joined (front_bytes (forms E mark (number_for ns) is)) back refl refl)

module _ (E : Environment) (mark : ℕ) (T : Typ) (v : PValue) (is js : List ℕ) (same : js ≡ is) (chosen : AreChosen E mark T v is) where
  pub few_chosen : length E ≤ 65535 → length js ≤ 65535
  few_chosen few = let n = few_needed E mark (length E) (roots_of E T v) in omega (arith, few, n, ap length same, ap length chosen.needed)

  pub inside : AllBelow (length E) js
  inside = subst (λ (ks : List ℕ). AllBelow (length E) ks) (sym (same ∙ chosen.needed)) (needed_inside E mark (roots_of E T v))

-- what a walk without numbers finds
pub are_chosen : (E : Environment) (name : Bytes) (mark : ℕ) (T : Typ) (v : PValue) (is roots : List ℕ) → mark_at E name ≡ Some mark → first_fault 500 longest_packet 0 (packed_heads T v) ≡ None → roots ≡ spoken_by_all E (OfType T ∷ value_parts v) →
    (m : ℕ) × (mark_at E name ≡ Some m) × (is ≡ needed_by E m roots) → AreChosen E mark T v is
are_chosen E name mark T v is roots marked sound e h =
    let at : h.0 ≡ mark = some_eq (sym h.1 ∙ marked) in
    record { sound = sound; needed = h.2 ∙ ap (λ m. needed_by E m roots) at ∙ ap (needed_by E mark) e ∙ needed_alike E mark T v }
