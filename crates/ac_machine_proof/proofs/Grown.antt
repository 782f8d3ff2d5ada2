-- A table in which the code stands, with the code of more definitions or of a packed value.
use Rattle.std.proofs.Common.{◌≡◌, ℕ, zero, suc, ◌+◌, ◌<◌, ◌≤◌, List, [], ◌∷◌, ◌++◌, length, Option, Some, None, refl, sym, ap, ◌∙◌, subst, arith, length-append}
use Rattle.std.specs.Prelude.{slice_get, option_and_then, option_map}
use Rattle.ac_types.proofs.FirstLaws.{none≢some}
use Rattle.ac_terms.specs.Terms.{Home, In, Expr, PValue}
use Rattle.ac_terms.specs.Defs.{Environment, Entry, module_of}
use Rattle.ac_code.specs.Code.{Code, field_code}
use Rattle.ac_generate.specs.Sizes.{lambdas, value_lambdas}
use Rattle.ac_generate.specs.Generate.{blocks, value_blocks}
use Rattle.ac_generate.specs.Generated.{packed_blocks, value_generated, entries_generated}
use Rattle.ac_generate.proofs.SizeLaws.{block_count, value_block_count}
use Rattle.ac_meaning.specs.References.{own_field}
use Rattle.ac_machine_proof.specs.Source.{IsPacked}
use Rattle.ac_machine_proof.specs.Placed.{HasCode, HasField, IsPlaced}
use Rattle.ac_machine_proof.proofs.Placing.{part_cut}
use Rattle.ac_machine_meaning.proofs.Extended.{Ext}
use Rattle.ac_machine_proof.proofs.Growing.{field_stays, part_late, each2, each_at, each_from, each_stays, value_made, term_at}
use Rattle.ac_machine_proof.proofs.Programs.{Sources, Until, entries_until, all_placed, no_field, from_module}

got_within : {X : Type 0} (l : List X) (p : ℕ) (x : X) → slice_get l p ≡ Some x → p < length l
got_within [] p x e = absurd (none≢some e)
got_within (y ∷ l) zero x e = omega arith
got_within (y ∷ l) (suc p) x e = let h = got_within l p x e in omega (arith, h)

got_front : {X : Type 0} (l ys : List X) (p : ℕ) → p < length l → slice_get (l ++ ys) p ≡ slice_get l p
got_front [] ys p lt = absurd (omega (arith, lt))
got_front (y ∷ l) ys zero lt = refl
got_front (y ∷ l) ys (suc p) lt = got_front l ys p (omega (arith, lt))

pub term_within : (K : Code) (c : Home) (e : Expr) (b : ℕ) → HasCode K c e b → b < length K.blocks
term_within K c e b h =
    let m = part_cut K.blocks h.first (lambdas e) (blocks c [] e h.first) _ (block_count c [] e h.first) h.made in
    subst (λ b. b < length K.blocks) (sym h.is) (got_within K.blocks (h.first + lambdas e) _ m.1.0)

module _ (E more : Environment) (K : Code) (placed : IsPlaced E K) where
  -- earlier fields are as they were
  pub field_there : (j f : ℕ) → j < length E → own_field (E ++ more) (In j) f ≡ own_field E (In j) f
  field_there j f lt = ap (λ (o : Option Entry). term_at (from_module E (option_and_then module_of (option_map (λ (x : Entry). x.def) o))) f) (got_front E more j lt)

  below : (j f b : ℕ) → (o : Option Expr) → HasField K j o (Some b) → b < length K.blocks
  below j f b None h = absurd (none≢some (sym h))
  below j f b (Some e) h = term_within K (In j) e b h

  there : Until (E ++ more) (length E) K
  there = record {
    made = each_from K K.blocks placed.lambdas;
    fields = λ j f lt. subst (λ o. HasField K j o (field_code K j f)) (sym (field_there j f lt)) (placed.fields j f);
    later = λ j f b le e. none≢some (sym (none j f b le e) ∙ e);
    below = λ j f b e. below j f b (own_field E (In j) f) (subst (HasField K j (own_field E (In j) f)) e (placed.fields j f));
    own = placed.own;
  }
    where
      none : (j f b : ℕ) → length E ≤ j → field_code K j f ≡ Some b → field_code K j f ≡ None
      none j f b le e = subst (λ o. HasField K j o (field_code K j f)) (no_field E j f le) (placed.fields j f)

  pub entries_placed : Sources (E ++ more) → IsPlaced (E ++ more) (entries_generated (E ++ more) (length E) more K)
  entries_placed s = all_placed (E ++ more) (entries_generated (E ++ more) (length E) more K) (entries_until (E ++ more) s more (length E) (length (E ++ more)) K (length-append E more) there)

pub value_placed : (E : Environment) (K : Code) (v : PValue) → IsPlaced E K → IsPacked v → IsPlaced E (value_generated v K)
value_placed E K v placed s =
    let n = length K.blocks in
    let L = value_generated v K in
    let ext : Ext K L = (packed_blocks v n, refl) in
    let m = part_cut L.blocks n (value_lambdas v) (value_blocks v n) _ (value_block_count v n) (part_late K.blocks (packed_blocks v n)) in
    let new = each2 L (value_blocks v n) _ (value_made L v n s m.0) (tt, tt) in
    record {
      lambdas = λ b. each_at L L.blocks b (each2 L K.blocks (packed_blocks v n) (each_stays K L ext K.blocks (each_from K K.blocks placed.lambdas)) new);
      fields = λ j f. field_stays K L ext j (own_field E (In j) f) (field_code K j f) (placed.fields j f);
      own = placed.own;
    }
