-- From the answers of the code to verdicts, one by one and piece by piece.
use Rattle.std.proofs.Common.{◌≡◌, refl, sym, ap, ◌∙◌, subst, zero-add, ℕ, zero, suc, ◌+◌, ◌*◌, ◌/◌, ◌%◌, ◌<◌, ◌≤◌, List, [], ◌∷◌, ◌++◌, map, length, take, drop, get_or, Option, Some, None, append_assoc, append-nil, arith}
use Rattle.std.specs.Prelude.{Result, Ok, Err, IfOk, min, option_map}
use Rattle.std.proofs.Math.Nat.{div-add-mod}
use Rattle.std.proofs.lemmas.List.{take_more, map-append, take-append-drop, drop-drop, drop_all}
use Rattle.ac_types.proofs.FirstLaws.{none≢some, some_eq}
use Rattle.ac_types.specs.Types.{Bytes, Typ}
use Rattle.ac_types.specs.declared.memory.Memory.{Memory}
use Rattle.ac_types.specs.declared.text.Text.{Text}
use Rattle.ac_terms.specs.Defs.{Environment}
use Rattle.ac_terms.specs.Read.{bytes_of}
use Rattle.ac_terms.specs.declared.def.Packet as code_packet
use Rattle.ac_decode.specs.Decoding.{OnFormat}
use Rattle.ac_decode.specs.declared.packets.DecodeFault.{DecodeFault}
use Rattle.ac_decode.specs.declared.packets.DecodeFault.TheVariants as fault
use Rattle.ac_audit.specs.declared.verdict.AuditVerdict.{AuditVerdict}
use Rattle.ac_audit.specs.FrameVerdicts.{HasVerdict, HaveVerdicts}
use Rattle.ac_audit.specs.inner.Pieces.{joined}
use Rattle.ac_audit.proofs.VerdictLaws.{have_both}

-- what a fault of format says
pub of_format : (f : DecodeFault) (at : ℕ) (P : Type 0) → f ≡ fault.Format at → OnFormat {X = code_packet.Packet} (Err f) P → P
of_format f at P is h = subst (λ (g : DecodeFault). OnFormat {X = code_packet.Packet} (Err g) P) is h

-- one more string has its verdict
pub more_read :
    (E : Environment) (T : Typ) (xs : List Text) (i : ℕ) (x : Text) (vs : List AuditVerdict) (v : AuditVerdict) (ws : List AuditVerdict) → i < length xs → x ≡ get_or xs i x → ws ≡ vs ++ v ∷ [] →
    HaveVerdicts E T (map bytes_of (take i xs)) vs → HasVerdict E T x.0 v → HaveVerdicts E T (map bytes_of (take (i + 1) xs)) ws
more_read E T xs i x vs v ws lt item grown h k =
    let texts : map bytes_of (take (i + 1) xs) ≡ map bytes_of (take i xs) ++ x.0 ∷ [] =
    ap (map bytes_of) (take_more xs i x lt ∙ ap (λ (y : Text). take i xs ++ y ∷ []) (sym item)) ∙ map-append bytes_of (take i xs) (x ∷ []) in
    subst (λ (ss : List Bytes). HaveVerdicts E T ss ws) (sym texts)
    (subst (HaveVerdicts E T (map bytes_of (take i xs) ++ x.0 ∷ [])) (sym grown) (have_both E T (map bytes_of (take i xs)) vs (x.0 ∷ []) (v ∷ []) h (k, tt)))

-- what pieces give, and one more
pub joined_more : {A : Type 0} (rs : List (Result (List A) Memory)) (all more : List A) → joined rs ≡ Some all → joined (rs ++ Ok more ∷ []) ≡ Some (all ++ more)
joined_more {A = A} [] all more e = ap Some (append-nil more ∙ ap (λ (xs : List A). xs ++ more) (some_eq e))
joined_more {A = A} (Ok xs ∷ rs) all more e = by (joined rs) refl (λ ys q. joined_more rs ys more q) e
  where
    by : (o : Option (List A)) → joined rs ≡ o → ((ys : List A) → joined rs ≡ Some ys → joined (rs ++ Ok more ∷ []) ≡ Some (ys ++ more)) → option_map (λ ys. xs ++ ys) o ≡ Some all
        → option_map (λ ys. xs ++ ys) (joined (rs ++ Ok more ∷ [])) ≡ Some (all ++ more)
    by None is next q = absurd (none≢some q)
    by (Some ys) is next q = ap (option_map (λ zs. xs ++ zs)) (next ys is) ∙ ap Some (sym (append_assoc xs ys more) ∙ ap (λ zs. zs ++ more) (some_eq q))
joined_more {A = A} (Err m ∷ rs) all more e = absurd (none≢some e)

-- the verdicts of the pieces behind the first n are those of the strings behind them
pub pieces_read :
    (E : Environment) (T : Typ) (xs : List Text) (size n : ℕ) (rs : List (Result (List AuditVerdict) Memory)) (vs : List AuditVerdict) → joined rs ≡ Some vs →
    length xs ≤ (n + length rs) * size →
    ((k : ℕ) (d : Result (List AuditVerdict) Memory) → k < length rs → IfOk (get_or rs k d) (HaveVerdicts E T (map bytes_of (take size (drop ((n + k) * size) xs))))) →
    HaveVerdicts E T (map bytes_of (drop (n * size) xs)) vs
pieces_read E T xs size n [] vs e long each =
    let none : drop (n * size) xs ≡ [] = drop_all (n * size) xs (omega (arith, long)) in
    subst (λ (ys : List Text). HaveVerdicts E T (map bytes_of ys) vs) (sym none) (subst (HaveVerdicts E T []) (some_eq e) tt)
pieces_read E T xs size n (Err m ∷ rs) vs e long each = absurd (none≢some e)
pieces_read E T xs size n (Ok ws ∷ rs) vs e long each =
    by (joined rs) refl e
    (λ ys q. pieces_read E T xs size (suc n) rs ys q (omega (arith, long))
    (λ k d lt. subst (λ (m : ℕ). IfOk (get_or rs k d) (HaveVerdicts E T (map bytes_of (take size (drop (m * size) xs))))) (omega arith) (each (suc k) d (omega (arith, lt)))))
  where
    -- the first piece, and what stands behind it
    rest : List Text
    rest = drop (n * size) xs

    behind : drop (suc n * size) xs ≡ drop size rest
    behind = ap (λ (m : ℕ). drop m xs) (omega arith) ∙ sym (drop-drop size (n * size) xs)

    parts : map bytes_of rest ≡ map bytes_of (take size rest) ++ map bytes_of (drop (suc n * size) xs)
    parts = ap (map bytes_of) (sym (take-append-drop size rest)) ∙ map-append bytes_of (take size rest) (drop size rest) ∙ ap (λ (ys : List Text). map bytes_of (take size rest) ++ map bytes_of ys) (sym behind)

    first : HaveVerdicts E T (map bytes_of (take size rest)) ws
    first = subst (λ (m : ℕ). HaveVerdicts E T (map bytes_of (take size (drop (m * size) xs))) ws) (omega arith) (each 0 (Ok ws) (omega arith))

    by : (o : Option (List AuditVerdict)) → joined rs ≡ o → option_map (λ ys. ws ++ ys) o ≡ Some vs → ((ys : List AuditVerdict) → joined rs ≡ Some ys → HaveVerdicts E T (map bytes_of (drop (suc n * size) xs)) ys)
        → HaveVerdicts E T (map bytes_of rest) vs
    by None is q more = absurd (none≢some q)
    by (Some ys) is q more =
        subst (λ (ss : List Bytes). HaveVerdicts E T ss vs) (sym parts)
        (subst (HaveVerdicts E T (map bytes_of (take size rest) ++ map bytes_of (drop (suc n * size) xs))) (some_eq q)
        (have_both E T (map bytes_of (take size rest)) ws (map bytes_of (drop (suc n * size) xs)) ys first (more ys is)))

-- pieces of one size, of which the last may be shorter, are all
covered : (n size q r : ℕ) → size * q + r ≡ n → r < size → n ≤ (q + min 1 r) * size
covered n size q zero e lt = omega (arith, e)
covered n size q (suc r) e lt =
    let one : min 1 (suc r) ≡ 1 = omega arith in
    let times : (q + 1) * size ≡ size * q + size = omega arith in
    subst (λ (m : ℕ). n ≤ (q + m) * size) (sym one) (omega (arith, times, e, lt))

-- the verdicts of all pieces are those of all strings
pub all_read :
    (E : Environment) (T : Typ) (xs : List Text) (size : ℕ) (rs : List (Result (List AuditVerdict) Memory)) (vs : List AuditVerdict) → 0 < size → length rs ≡ length xs / size + min 1 (length xs % size) →
    ((k : ℕ) (d : Result (List AuditVerdict) Memory) → k < length rs → IfOk (get_or rs k d) (HaveVerdicts E T (map bytes_of (take size (drop (k * size) xs))))) → joined rs ≡ Some vs → HaveVerdicts E T (map bytes_of xs) vs
all_read E T xs size rs vs some len each e =
    let n : ℕ = length xs in
    let whole : n ≤ (n / size + min 1 (n % size)) * size = covered n size (n / size) (n % size) (div-add-mod n size) (omega (arith, some)) in
    let long : n ≤ (0 + length rs) * size = subst (λ (m : ℕ). n ≤ m * size) (sym len ∙ sym (zero-add (length rs))) whole in
    let none : 0 * size ≡ 0 = omega arith in
    subst (λ (m : ℕ). HaveVerdicts E T (map bytes_of (drop m xs)) vs) none
    (pieces_read E T xs size 0 rs vs e long
    (λ k d lt. subst (λ (m : ℕ). IfOk (get_or rs k d) (HaveVerdicts E T (map bytes_of (take size (drop (m * size) xs))))) (sym (zero-add k)) (each k d lt)))
