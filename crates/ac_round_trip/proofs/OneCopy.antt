-- A value has one copy in a home at a type, where it has one.
use Rattle.std.proofs.Common.{◌≡◌, refl, sym, ap, ap₂, ◌∙◌, ℕ, true, false}
use mathlib.Core.Bool.{true≢false}
use Rattle.ac_types.specs.Types.{Bytes, Typ, TAbs, Typs}
use Rattle.ac_terms.specs.Terms.{Home, Expr, ExnOf, Tuple, Present, Cons, Lam, Rec, App, Let, If, Seq, Match, Try, Raise, Prim, Marshal, Unmarshal, Evaluated, Exprs, expr, Arms, arm, Value, VTuple, VCons, VPresent, VLam, VRec, VProxy, VSeal, Values, value}
use Rattle.ac_terms.specs.Defs.{Environment}
use Rattle.ac_terms.specs.Renumbered.{home_by}
use Rattle.ac_rules.specs.Views.{Mode, opens, opened}
use Rattle.ac_meaning.specs.Rebuilding.{home_of_name}
use Rattle.ac_meaning.proofs.Inst.{ap₃}
use Rattle.ac_round_trip.specs.Copies.{Copied, int, bool, string, unit, exception, tuple, nil, cons, absent, present, lambda, recursive, in_bracket, in_seal, opened_there, sealed_there, AllCopied, no_copies, copy, TermCopied, int_is, bool_is, string_is, unit_is, exn_is, no_item, no_content, var, own, ref, captured, exn_of, tuple_of, option_of, list_of, lam, rec, app, let_in, if_else, seq, match_with, try_with, raise, prim, marshal, unmarshal, TermsCopied, no_terms, term, ArmsCopied, no_branches, branch}

module _ (mode : Mode) (E F : Environment) (f : ℕ → ℕ) where
  abbrev Copy : Home → Value → Home → Typ → Value → Type 0
  Copy c v d T w = Copied mode E F f c v d T w

  -- what a bracket or a seal has inside is copied first or last
  of_inside : {b c d : Home} {n t : Bytes} {T : Typ} {v w : Value} → Copy c (VSeal b n t v) d T w → Copy b v d T w
  of_inside (in_seal p) = p
  of_inside (opened_there o p) = opened_there o (of_inside p)
  of_inside (sealed_there o p) = sealed_there o (of_inside p)

  of_function : {b c d : Home} {A B T : Typ} {v w : Value} → Copy c (VProxy b A B v) d T w → Copy b v d T w
  of_function (in_bracket p) = p
  of_function (opened_there o p) = opened_there o (of_function p)
  of_function (sealed_there o p) = sealed_there o (of_function p)

  -- and so is what an abstract type stands for
  at_opened : {c d : Home} {n t : Bytes} {v w : Value} → opens mode F d n ≡ true → Copy c v d (TAbs n t) w → Copy c v d (opened F n t) w
  at_opened o (in_seal p) = in_seal (at_opened o p)
  at_opened o (in_bracket p) = in_bracket (at_opened o p)
  at_opened o (opened_there q p) = p
  at_opened o (sealed_there q p) = absurd (true≢false (sym o ∙ q))

  record Inside (c : Home) (v : Value) (n t : Bytes) (w : Value) : Type 0 where
    content : Value
    seals : w ≡ VSeal (home_of_name mode F n) n t content
    is_copy : Copy c v (home_of_name mode F n) (opened F n t) content

  at_sealed : {c d : Home} {n t : Bytes} {v w : Value} → opens mode F d n ≡ false → Copy c v d (TAbs n t) w → Inside c v n t w
  at_sealed o (in_seal p) = let r = at_sealed o p in record { content = r.content; seals = r.seals; is_copy = in_seal r.is_copy }
  at_sealed o (in_bracket p) = let r = at_sealed o p in record { content = r.content; seals = r.seals; is_copy = in_bracket r.is_copy }
  at_sealed o (opened_there q p) = absurd (true≢false (sym q ∙ o))
  at_sealed o (sealed_there {w = w} q p) = record { content = w; seals = refl; is_copy = p }

  mutual
    pub one_copy : {c d : Home} {v : Value} {T : Typ} {w x : Value} → Copy c v d T w → Copy c v d T x → w ≡ x
    one_copy (in_seal p) q = one_copy p (of_inside q)
    one_copy (in_bracket p) q = one_copy p (of_function q)
    one_copy (opened_there o p) q = one_copy p (at_opened o q)
    one_copy (sealed_there {n = n} {t = t} o p) q = let r = at_sealed o q in ap (VSeal (home_of_name mode F n) n t) (one_copy p r.is_copy) ∙ sym r.seals
    one_copy int int = refl
    one_copy bool bool = refl
    one_copy string string = refl
    one_copy unit unit = refl
    one_copy exception exception = refl
    one_copy (tuple p) (tuple q) = ap VTuple (one_copy_each p q)
    one_copy nil nil = refl
    one_copy (cons p r) (cons q s) = ap₂ VCons (one_copy p q) (one_copy r s)
    one_copy absent absent = refl
    one_copy (present p) (present q) = ap VPresent (one_copy p q)
    one_copy (lambda {c = c} {A = A} {T = T} {U = U} h p) (lambda k q) = ap (λ e. VProxy (home_by f c) T U (VLam A e)) (one_term p q)
    one_copy (recursive {c = c} {A = A} {B = B} {T = T} {U = U} h p) (recursive k q) = ap (λ e. VProxy (home_by f c) T U (VRec A B e)) (one_term p q)

    one_copy_each : {c d : Home} {vs : Values} {Ts : Typs} {ws xs : Values} → AllCopied mode E F f c vs d Ts ws → AllCopied mode E F f c vs d Ts xs → ws ≡ xs
    one_copy_each no_copies no_copies = refl
    one_copy_each (copy p ps) (copy q qs) = ap₂ value (one_copy p q) (one_copy_each ps qs)

    one_term : {c : Home} {e x y : Expr} → TermCopied mode E F f c e x → TermCopied mode E F f c e y → x ≡ y
    one_term int_is int_is = refl
    one_term bool_is bool_is = refl
    one_term string_is string_is = refl
    one_term unit_is unit_is = refl
    one_term exn_is exn_is = refl
    one_term no_item no_item = refl
    one_term no_content no_content = refl
    one_term var var = refl
    one_term own own = refl
    one_term (ref h) (ref k) = refl
    one_term (captured {T = T} p) (captured q) = ap (Evaluated T) (one_copy p q)
    one_term (exn_of {k = k} p) (exn_of q) = ap (ExnOf k) (one_term p q)
    one_term (tuple_of ps) (tuple_of qs) = ap Tuple (one_term_each ps qs)
    one_term (option_of p) (option_of q) = ap Present (one_term p q)
    one_term (list_of p r) (list_of q s) = ap₂ Cons (one_term p q) (one_term r s)
    one_term (lam {T = T} p) (lam q) = ap (Lam T) (one_term p q)
    one_term (rec {T = T} {U = U} p) (rec q) = ap (Rec T U) (one_term p q)
    one_term (app p r) (app q s) = ap₂ App (one_term p q) (one_term r s)
    one_term (let_in {T = T} p r) (let_in q s) = ap₂ (Let T) (one_term p q) (one_term r s)
    one_term (if_else p r u) (if_else q s v) = ap₃ If (one_term p q) (one_term r s) (one_term u v)
    one_term (seq ps) (seq qs) = ap Seq (one_term_each ps qs)
    one_term (match_with p ps) (match_with q qs) = ap₂ Match (one_term p q) (one_branch_each ps qs)
    one_term (try_with p ps) (try_with q qs) = ap₂ Try (one_term p q) (one_branch_each ps qs)
    one_term (raise {T = T} p) (raise q) = ap (Raise T) (one_term p q)
    one_term (prim {k = k} ps) (prim qs) = ap (Prim k) (one_term_each ps qs)
    one_term (marshal {T = T} p r) (marshal q s) = ap₂ (Marshal T) (one_term p q) (one_term r s)
    one_term (unmarshal {T = T} p) (unmarshal q) = ap (Unmarshal T) (one_term p q)

    one_term_each : {c : Home} {es xs ys : Exprs} → TermsCopied mode E F f c es xs → TermsCopied mode E F f c es ys → xs ≡ ys
    one_term_each no_terms no_terms = refl
    one_term_each (term p ps) (term q qs) = ap₂ expr (one_term p q) (one_term_each ps qs)

    one_branch_each : {c : Home} {bs xs ys : Arms} → ArmsCopied mode E F f c bs xs → ArmsCopied mode E F f c bs ys → xs ≡ ys
    one_branch_each no_branches no_branches = refl
    one_branch_each (branch {p = x} p ps) (branch q qs) = ap₂ (arm x) (one_term p q) (one_branch_each ps qs)
