-- The causes of refusal, from the first to the last.
use Rattle.std.proofs.Common.{◌≡◌, refl, sym, ap, ◌∙◌, ℕ, ◌<◌, ◌≤◌, Bool, true, false, ◌&&◌, nat_lt, subst, List, Option, Some, None}
use Rattle.std.specs.Prelude.{not}
use Rattle.std.specs.Option.{option_or}
use Rattle.std.proofs.lemmas.Bool.Decides.{nat_tests}
use mathlib.Core.Path.{ap₂}
use native.Mathlib.Omega.{arith}
use Rattle.sha2.specs.Sha256.{sha256}
use Rattle.ac_types.specs.Types.{Typ, same}
use Rattle.ac_types.specs.Partial.{given}
use Rattle.ac_terms.specs.Defs.{Environment, Def, Packet}
use Rattle.ac_rules.specs.Views.{Coloured}
use Rattle.ac_rules.specs.Typing.{holds}
use Rattle.ac_rules.specs.Packets.{PacketCause, Full, WrongType, NoValue, cause, ill_formed, clash, too_many, unresolved, wrong_type, no_value, places, value_there}
use Rattle.ac_admit.specs.declared.fault.AdmitFault.{AdmitFault}
use Rattle.ac_admit.specs.declared.fault.AdmitFault.TheVariants as fault
use Rattle.ac_admit.specs.Refusing.{IsFor}
use Rattle.ac_admit.specs.inner.Judging.{front_cause}
use Rattle.ac_admit.specs.inner.Spoken.{is_spoken}

-- the first that applies is the first of more
still : {c : PacketCause} (o r : Option PacketCause) → o ≡ Some c → option_or o r ≡ Some c
still o r h = ap (λ x. option_or x r) h

still_for : (f : AdmitFault) (o r : Option PacketCause) → IsFor f o → IsFor f (option_or o r)
still_for (fault.Definition i) o r h = still o r h
still_for (fault.Clash i j) o r h = still o r h
still_for (fault.Full n) o r h = still o r h
still_for (fault.Unresolved i) o r h = still o r h
still_for fault.WrongType o r h = still o r h
still_for fault.Value o r h = still o r h
still_for fault.Memory o r h = tt

behind_none : (f : AdmitFault) (o r : Option PacketCause) → o ≡ None → IsFor f r → IsFor f (option_or o r)
behind_none f o r n h = subst (λ (x : Option PacketCause). IsFor f (option_or x r)) (sym n) h

-- the first four, one after the other
module _ (E : Environment) (ds : List Def) where
  abbrev third : Option PacketCause
  third = option_or (too_many sha256 E ds) (option_or (unresolved sha256 E ds) None)

  abbrev second : Option PacketCause
  second = option_or (clash sha256 E ds) third

  pub first_for : (f : AdmitFault) → IsFor f (ill_formed sha256 ds) → IsFor f (front_cause E ds)
  first_for f h = still_for f (ill_formed sha256 ds) second h

  module _ (ill : ill_formed sha256 ds ≡ None) where
    pub second_for : (f : AdmitFault) → IsFor f (clash sha256 E ds) → IsFor f (front_cause E ds)
    second_for f h = behind_none f (ill_formed sha256 ds) second ill (still_for f (clash sha256 E ds) third h)

    module _ (clear : clash sha256 E ds ≡ None) where
      after : (f : AdmitFault) → IsFor f third → IsFor f (front_cause E ds)
      after f h = behind_none f (ill_formed sha256 ds) second ill (behind_none f (clash sha256 E ds) third clear h)

      pub third_for : (f : AdmitFault) → IsFor f (too_many sha256 E ds) → IsFor f (front_cause E ds)
      third_for f h = after f (still_for f (too_many sha256 E ds) (option_or (unresolved sha256 E ds) None) h)

      module _ (few : too_many sha256 E ds ≡ None) where
        pub fourth_for : (f : AdmitFault) → IsFor f (unresolved sha256 E ds) → IsFor f (front_cause E ds)
        fourth_for f h = after f (behind_none f (too_many sha256 E ds) (option_or (unresolved sha256 E ds) None) few (still_for f (unresolved sha256 E ds) None h))

        pub none_of_four : unresolved sha256 E ds ≡ None → front_cause E ds ≡ None
        none_of_four linked =
            ap (λ (x : Option PacketCause). option_or x second) ill ∙ ap (λ (x : Option PacketCause). option_or x third) clear ∙
            ap (λ (x : Option PacketCause). option_or x (option_or (unresolved sha256 E ds) None)) few ∙ ap (λ (x : Option PacketCause). option_or x None) linked

-- room for so many entries
is_full : (n : ℕ) → 65535 < n → nat_lt 65535 n ≡ true
is_full n h = grind (arith, nat_tests)

has_room : (n : ℕ) → n ≤ 65535 → nat_lt 65535 n ≡ false
has_room n h = grind (arith, nat_tests)

pub full : (n : ℕ) → 65535 < n → given (nat_lt 65535 n) (Some (Full n)) ≡ Some (Full n)
full n h = ap (λ b. given b (Some (Full n))) (is_full n h)

pub room : (n : ℕ) → n ≤ 65535 → given (nat_lt 65535 n) (Some (Full n)) ≡ None
room n h = ap (λ b. given b (Some (Full n))) (has_room n h)

first_four : {A : Type 0} (a b c d r : Option A) → option_or a (option_or b (option_or c (option_or d r))) ≡ option_or (option_or a (option_or b (option_or c (option_or d None)))) r
first_four (Some a) b c d r = refl
first_four None (Some b) c d r = refl
first_four None None (Some c) d r = refl
first_four None None None (Some d) r = refl
first_four None None None None r = refl

module _ (E : Environment) (p : Packet) (T : Typ) where
  abbrev rest : Option PacketCause
  rest = option_or (wrong_type sha256 p T) (option_or (no_value sha256 E p T) None)

  split_cause : cause sha256 E p T ≡ option_or (front_cause E p.defs) rest
  split_cause = first_four (ill_formed sha256 p.defs) (clash sha256 E p.defs) (too_many sha256 E p.defs) (unresolved sha256 E p.defs) rest

  pub front_for : (f : AdmitFault) → IsFor f (front_cause E p.defs) → IsFor f (cause sha256 E p T)
  front_for f h = subst (IsFor f) (sym split_cause) (still_for f (front_cause E p.defs) rest h)

  abbrev behind : Bool → Bool → Option PacketCause
  behind t v = option_or (given (not t) (Some WrongType)) (option_or (given (not v) (Some NoValue)) None)

  -- whether the value holds
  abbrev pub held : Bool
  held = holds Coloured false (places sha256 E p.defs).0 (value_there sha256 E p) T

  module _ (none : front_cause E p.defs ≡ None) where
    ends : (t s h : Bool) → same p.ty T ≡ t → is_spoken p ≡ s → held ≡ h → cause sha256 E p T ≡ behind t (s && h)
    ends t s h q r u = split_cause ∙ ap (λ o. option_or o rest) none ∙ ap₂ behind q (ap₂ (λ a b. a && b) r u)

    pub another_type : same p.ty T ≡ false → cause sha256 E p T ≡ Some WrongType
    another_type q = ends false (is_spoken p) held q refl refl

    pub not_spoken : same p.ty T ≡ true → is_spoken p ≡ false → cause sha256 E p T ≡ Some NoValue
    not_spoken q r = ends true false held q r refl

    pub not_held : same p.ty T ≡ true → is_spoken p ≡ true → held ≡ false → cause sha256 E p T ≡ Some NoValue
    not_held q r u = ends true true false q r u

    pub no_cause : same p.ty T ≡ true → is_spoken p ≡ true → held ≡ true → cause sha256 E p T ≡ None
    no_cause q r u = ends true true true q r u
