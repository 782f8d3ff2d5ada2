-- The machine marshals and unmarshals: what arrives adds code, whose last block is run.
use Rattle.std.proofs.Common.{◌≡◌, ℕ, suc, false, ◌+◌, ◌<◌, ◌≤◌, List, [], ◌∷◌, ◌++◌, length, Option, Some, None, refl, sym, ap, ◌∙◌, subst, arith, ⊎_elim}
use Rattle.std.specs.Prelude.{slice_get, drop}
use Rattle.std.proofs.lemmas.Bool.{cases_lt}
use Rattle.ac_types.specs.Types.{Bytes, Typ}
use Rattle.ac_types.proofs.FirstLaws.{none≢some}
use Rattle.ac_terms.specs.Terms.{Home, In, PValue}
use Rattle.ac_terms.specs.Defs.{Environment, Entry, Module, module_at}
use Rattle.ac_code.specs.Code as instr
use Rattle.ac_code.specs.Code.{Code, field_code}
use Rattle.ac_code.specs.Table.{placed}
use Rattle.ac_generate.specs.Sizes.{value_lambdas, value_size}
use Rattle.ac_generate.specs.Generate.{value_code, value_blocks}
use Rattle.ac_generate.specs.Generated.{packed_blocks, value_generated, value_number, fields_generated, field_numbers, entry_generated, entries_generated}
use Rattle.ac_generate.proofs.SizeLaws.{value_code_size, value_block_count}
use Rattle.ac_values.specs.Values.{MValue, MStr, MExnOf, MClosure, MEnd}
use Rattle.ac_machine_engine.specs.Machine as machine
use Rattle.ac_meaning.specs.Worlds.{Read, World, with_crossing, grown}
use Rattle.ac_meaning.specs.BarePacking.{bare_packed}
use Rattle.ac_meaning.specs.Packing.{Packing, CannotPack, Packs, packing, Landing, Sinks, Lands, landing, brought}
use Rattle.ac_rules.specs.Growth.{Grows}
use Rattle.ac_meaning.specs.BareTerms.{WStr, unpacked}
use Rattle.ac_meaning.proofs.Admitted.{sound}
use Rattle.ac_meaning.proofs.Results.{Fine}
use Rattle.ac_meaning.proofs.Eval.{packed_as, arrived_as}
use Rattle.ac_meaning.proofs.BareEval.{opening, marshals, unmarshals}
use Rattle.ac_machine_proof.specs.Running.{with_more, pack_answered, arrived, landed}
use Rattle.ac_machine_meaning.specs.Stands.{stands, environment_values}
use Rattle.ac_rules.specs.Coherent.{IsCoherent}
use Rattle.ac_machine_proof.specs.Source.{IsPacked}
use Rattle.ac_machine_proof.specs.Placed.{PlacedPart, HasField, IsPlaced}
use Rattle.ac_machine_proof.proofs.Has.{code_in, Stands, HasValue}
use Rattle.ac_machine_proof.proofs.Placing.{part_all, part_cut, has_value}
use Rattle.ac_machine_meaning.proofs.Extended.{Ext, ext_refl, ext_on}
use Rattle.ac_machine_proof.proofs.Growing.{fields_ext, part_late}
use Rattle.ac_machine_proof.proofs.Programs.{row_other, no_field}
use Rattle.ac_machine_proof.proofs.Grown.{entries_placed, value_placed}
use Rattle.ac_machine_proof.proofs.Sources.{coherent_sources, fits_packed}
use Rattle.ac_machine_proof.proofs.FieldsStay.{opening_same}
use Rattle.ac_machine_proof.proofs.Stays.{stands_stays}
use Rattle.ac_machine_meaning.specs.Valid.{Valid}
use Rattle.ac_machine_meaning.proofs.Meanings.{closure_is, valid_stays, meaning_stays}
use Rattle.ac_machine_proof.proofs.Lands.{Kept, Later, Around, under, outside, run, core, Says, Right, once, after, further, before, raised_to, nothing_said, lands, here, run1, raises_to}
use Rattle.ac_machine_proof.proofs.Follows.{Here, right_still}
use Rattle.ac_machine_proof.proofs.Packs.{value_runs}

-- the code of entries only adds blocks, and earlier fields have the blocks that they had
entry_ext : (E : Environment) (i : ℕ) (K : Code) → Ext K (entry_generated E i K)
entry_ext E i K = by (module_at E i)
  where
    by : (o : Option Module) → Ext K (elim o [ None ↦ K | Some m ↦ record { blocks = (fields_generated (In i) m.fields K).blocks; fields = placed i (field_numbers (In i) m.fields K) K.fields } ])
    by None = ext_refl K
    by (Some m) = fields_ext (In i) m.fields K

entries_ext : (E : Environment) (es : List Entry) (i : ℕ) (K : Code) → Ext K (entries_generated E i es K)
entries_ext E [] i K = ext_refl K
entries_ext E (e ∷ es) i K = ext_on K (entry_generated E i K) (entries_generated E (suc i) es (entry_generated E i K)) (entry_ext E i K) (entries_ext E es (suc i) (entry_generated E i K))

entry_keeps : (E : Environment) (i j f : ℕ) (K : Code) → j < i → field_code (entry_generated E i K) j f ≡ field_code K j f
entry_keeps E i j f K lt = by (module_at E i)
  where
    by : (o : Option Module) → field_code (elim o [ None ↦ K | Some m ↦ record { blocks = (fields_generated (In i) m.fields K).blocks; fields = placed i (field_numbers (In i) m.fields K) K.fields } ]) j f ≡ field_code K j f
    by None = refl
    by (Some m) = row_other i j (field_numbers (In i) m.fields K) K.fields f (λ e. omega (arith, e, lt))

entries_keep : (E : Environment) (es : List Entry) (i j f : ℕ) (K : Code) → j < i → field_code (entries_generated E i es K) j f ≡ field_code K j f
entries_keep E [] i j f K lt = refl
entries_keep E (e ∷ es) i j f K lt = entries_keep E es (suc i) j f (entry_generated E i K) (omega (arith, lt)) ∙ entry_keeps E i j f K lt

drop_front : {X : Type 0} (xs ys : List X) → drop (length xs) (xs ++ ys) ≡ ys
drop_front [] ys = refl
drop_front (x ∷ xs) ys = drop_front xs ys

-- a field that has a block is of an entry that is there
field_within : (E : Environment) (K : Code) → IsPlaced E K → (j f b : ℕ) → field_code K j f ≡ Some b → j < length E
field_within E K placed j f b e = ⊎_elim (λ lt. lt) (λ ge. absurd (none≢some (sym (none ge) ∙ e))) (cases_lt j (length E))
  where
    none : length E ≤ j → field_code K j f ≡ None
    none le = subst (λ o. HasField K j o (field_code K j f)) (no_field E j f le) (placed.fields j f)

-- the block of a packed value holds its code, and is at home in the main program
record HasPacked (K : Code) (v : PValue) (b : ℕ) : Type 0 where
  end : ℕ
  body : HasValue K v b 0 end
  last : Stands K b end instr.Return

packed_has : (v : PValue) (K : Code) → IsPacked v → HasPacked (value_generated v K) v (value_number v K)
packed_has v K s =
    let n = length K.blocks in
    let L = value_generated v K in
    let b = value_number v K in
    let m = part_cut L.blocks n (value_lambdas v) (value_blocks v n) _ (value_block_count v n) (part_late K.blocks (packed_blocks v n)) in
    let is = value_code v n ++ instr.Return ∷ [] in
    let all : PlacedPart (code_in (slice_get L.blocks b)) 0 is = subst (λ l. PlacedPart l 0 is) (sym (ap code_in m.1.0)) (part_all is) in
    let h = part_cut (code_in (slice_get L.blocks b)) 0 (value_size v) (value_code v n) _ (value_code_size v n) all in
    record { end = 0 + value_size v; body = has_value L v b 0 (0 + value_size v) n refl s h.0 m.0; last = h.1.0 }

more_placed : (E F more : Environment) (K : Code) → F ≡ E ++ more → IsCoherent F → IsPlaced E K → IsPlaced F (with_more E F K)
more_placed E F more K e coherent placed =
    let G = E ++ more in
    let there : IsPlaced G (entries_generated G (length E) more K) = entries_placed E more K placed (coherent_sources G (subst IsCoherent e coherent)) in
    subst (λ G. IsPlaced G (with_more E G K)) (sym e) (subst (λ es. IsPlaced G (entries_generated G (length E) es K)) (sym (drop_front E more)) there)

-- what lands, over code that is right
module _ (T : Typ) (s : Bytes) (F : Environment) (v : PValue) (k : Kept) (z : World) (lands_so : landing z.environment T s ≡ Lands F v) (i : Right k z) where
  abbrev E : Environment
  E = z.environment

  grows : Grows E F
  grows = sound.grows E T s F v i.coherent lands_so

  is_packed : IsPacked v
  is_packed = fits_packed v (sound.fits E T s F v i.coherent lands_so)

  abbrev K1 : Code
  K1 = with_more E F k.code

  abbrev L : Code
  L = value_generated v K1

  abbrev k' : Kept
  k' = record { code = L; values = k.values }

  ext : Ext k.code L
  ext = ext_on k.code K1 L (entries_ext F (drop (length E) F) (length E) k.code) (packed_blocks v (length K1.blocks), refl)

  fields_stay : (j f b : ℕ) → field_code k.code j f ≡ Some b → field_code L j f ≡ Some b
  fields_stay j f b e = entries_keep F (drop (length E) F) (length E) j f k.code (field_within E k.code i.placed j f b e) ∙ e

  later : Later k k'
  later = record { ext = ext; fields = fields_stay }

  right : Right k' (grown F z)
  right = record {
    coherent = grows.after;
    placed = value_placed F K1 v (more_placed E F grows.extends.more k.code grows.extends.is_more grows.after i.placed) is_packed;
    knows = λ b m h.
        let w = i.knows b m h in
        let lt = field_within E k.code i.placed w.entry w.field b w.is_own in
        record {
          entry = w.entry;
          field = w.field;
          is_own = fields_stay w.entry w.field b w.is_own;
          valid = valid_stays k.code L ext m w.valid;
          says = λ t. subst (λ p. Says p (stands L m)) (sym (opening_same E F grows.extends t w.entry w.field lt)) (subst (Says (opening E t w.entry w.field)) (sym (meaning_stays k.code L ext m w.valid)) (w.says t));
        };
  }

  -- the value's block is run, and returns the value
  value_arrives : (N : ℕ) (r : Around) (p : ℕ) → Here N r p k (arrived F v k.code (core N r p r.stack k z.made) (outside z)) (Fine (unpacked v) (grown F z))
  value_arrives N r p =
      let b = value_number v K1 in
      let h = packed_has v K1 is_packed in
      let r1 = under b MEnd (record { block = r.block; address = p; env = r.env; keeps = false }) r in
      further N later here
      (before N {r = r1} {q = h.end} refl (value_runs N v r1 0 h.end h.body right) (λ x l z more. run1 N {r = record r1 { stack = x ∷ r.stack }} (stands_stays L l.code more.ext _ _ _ h.last)))

packing_same : (z : World) (T : Typ) (mark : Bytes) (v : PValue) → packing (outside z) T mark v ≡ packing z T mark v
unfolding packing
packing_same z T mark v = refl

module _ (N : ℕ) where
  -- the value is packed, and its string is the answer
  pub packs_value : (T : Typ) (h : Home) (x y : MValue) {r : Around} {p : ℕ} {k : Kept} {z : World} → Valid k.code x → Right k z → Here N r p k (run k (machine.marshals T h (core N r p (y ∷ x ∷ r.stack) k z.made)) z) (marshals T (stands k.code x) (stands k.code y) z)
  packs_value T h (MStr mark) y {r} {p} {k} {z} v i =
      let w : PValue = bare_packed z.environment (stands k.code y) T in
      after N (once refl) (subst (λ q. Here N r p k (pack_answered q k.code (core N r p r.stack k z.made) (outside z)) (packed_as WStr (packing z T mark w) z)) (sym (packing_same z T mark w)) (by (packing z T mark w)))
    where
      by : (q : Packing) → Here N r p k (pack_answered q k.code (core N r p r.stack k z.made) (outside z)) (packed_as WStr q z)
      by (CannotPack x) = raised_to N i (raises_to N x r p r.stack k z)
      by (Packs s) = lands N (MStr s) (tt, refl) (right_still refl i) here
  packs_value T h (MClosure b f es) y {r} {p} {k} {z} v i =
      closure_is (λ w. Here N r p k (run k (machine.marshals T h (core N r p (y ∷ MClosure b f es ∷ r.stack) k z.made)) z) (marshals T w (stands k.code y) z)) (λ h T e. nothing_said N) (λ h T U e. nothing_said N) (slice_get k.code.blocks b) f (λ G. environment_values k.code es G)
  packs_value T h (MExnOf j (MStr s)) y v i = nothing_said N
  packs_value T h (MExnOf j _) y v i = absurd v
  packs_value T h _ y v i = nothing_said N

  -- the string's definitions and its value arrive, or the exception is raised
  pub unpacks_value : (T : Typ) (c : Home) (x : MValue) {r : Around} {p : ℕ} {k : Kept} {z : World} → Valid k.code x → Right k z → Here N r p k (run k (machine.unmarshals T (core N r p (x ∷ r.stack) k z.made)) z) (unmarshals c T (stands k.code x) z)
  unpacks_value T c (MStr s) {r} {p} {k} {z} v i = after N (once refl) (by (landing z.environment T s) refl)
    where
      by : (l : Landing) → landing z.environment T s ≡ l → Here N r p k (landed l k.code (core N r p r.stack k z.made) (with_crossing (Read s) (outside z))) (arrived_as (λ v w. w) (brought c T l) (with_crossing (Read s) z))
      by (Sinks x) q = raised_to N (right_still refl i) (raises_to N x r p r.stack k (with_crossing (Read s) z))
      by (Lands F v) q = value_arrives T s F v k (with_crossing (Read s) z) q (right_still refl i) N r p
  unpacks_value T c (MClosure b f es) {r} {p} {k} {z} v i =
      closure_is (λ w. Here N r p k (run k (machine.unmarshals T (core N r p (MClosure b f es ∷ r.stack) k z.made)) z) (unmarshals c T w z)) (λ h T e. nothing_said N) (λ h T U e. nothing_said N) (slice_get k.code.blocks b) f (λ G. environment_values k.code es G)
  unpacks_value T c (MExnOf j (MStr s)) v i = nothing_said N
  unpacks_value T c (MExnOf j _) v i = absurd v
  unpacks_value T c _ v i = nothing_said N
