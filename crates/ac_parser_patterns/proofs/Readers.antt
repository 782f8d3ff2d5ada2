-- What stands at the front of signs, read piece by piece.
use Rattle.std.proofs.Common.{rules, ◌≡◌, ◌<◌, ℕ, true, false, List, [], ◌∷◌, ◌++◌, refl, sym, ◌∙◌, ap, subst, append_assoc}
use Rattle.std.specs.Prelude.{nat_lt}
use mathlib.Core.Path.{ap₂}
use Rattle.ac_types.specs.Types.{Bytes}
use Rattle.ac_syntax.specs.Signs.{Sign, Lower, Fixed, here}
use Rattle.ac_syntax.specs.Trees.{NameAt, TypeTree}
use Rattle.ac_syntax.specs.TypeForms.{IsType}
use Rattle.ac_syntax.specs.PartParsing.{SymbolAt, NoSymbol}
use Rattle.ac_syntax.specs.declared.sign.Symbol.{Symbol}
use Rattle.ac_syntax.specs.declared.sign.Symbol.TheVariants.{Open, Close, Colon, Equals}
use Rattle.ac_syntax.specs.Expressions.{front}
use Rattle.ac_syntax.proofs.Exceptions.{apart}
use Rattle.ac_syntax.proofs.UniqueTypes.{tail_eq, same_type}
use Rattle.ac_parser_patterns.specs.Reading.{Nothing}
use Rattle.ac_parser_patterns.specs.Pieces.{Then, Behind, Before, Chain, last, more, IsName, IsAscribed, IsTypedBinder, IsArgument, IsHead, IsLastType}

-- at most one thing of a kind begins signs
abbrev pub One : {A : Type 0} → (List Sign → A → List Sign → Type 0) → Type 0
One {A} R = (ts r s : List Sign) (x y : A) → R ts x r → R ts y s → (x ≡ y) × (r ≡ s)

pub symbol_once : {t : Symbol} {ts r s : List Sign} → SymbolAt t ts r → SymbolAt t ts s → r ≡ s
symbol_once p q = tail_eq (sym p.is ∙ q.is)

head_symbol : {a b : ℕ} {t u : Symbol} {r s : List Sign} → Fixed a t ∷ r ≡ Fixed b u ∷ s → t ≡ u
head_symbol e = cc

pub other_symbol : {t u : Symbol} {ts r s : List Sign} → (t ≡ u → ⊥) → SymbolAt t ts r → SymbolAt u ts s → ⊥
other_symbol other p q = other (head_symbol (sym p.is ∙ q.is))

pub word_at : {t : Symbol} {ts r : List Sign} {at : ℕ} → SymbolAt t ts r → at ≡ here ts → ts ≡ Fixed at t ∷ r
word_at {t = t} {r = r} w place = w.is ∙ ap (λ (n : ℕ). Fixed n t ∷ r) (sym (place ∙ ap here w.is))

-- one thing, and another behind it

pub then : {A B : Type 0} {R : List Sign → A → List Sign → Type 0} {S : List Sign → B → List Sign → Type 0} {ts r : List Sign} {a : A} {b : B} (m : List Sign) → R ts a m → S m b r → Then R S ts (a, b) r
then m p q = record { middle = m; first = p; second = q }

pub first_none : {A B : Type 0} {R : List Sign → A → List Sign → Type 0} {S : List Sign → B → List Sign → Type 0} {ts : List Sign} → Nothing R ts → Nothing (Then R S) ts
first_none none x rest t = none x.0 t.middle t.first

pub later_none : {A B : Type 0} {R : List Sign → A → List Sign → Type 0} {S : List Sign → B → List Sign → Type 0} {ts m : List Sign} {a : A} → One R → R ts a m → Nothing S m → Nothing (Then R S) ts
later_none {S = S} one p none x rest t =
    let d = one _ _ _ _ _ p t.first in none x.1 rest (subst (λ (l : List Sign). S l x.1 rest) (sym d.1) t.second)

pub one_then : {A B : Type 0} {R : List Sign → A → List Sign → Type 0} {S : List Sign → B → List Sign → Type 0} → One R → One S → One (Then R S)
one_then {S = S} one two ts r s x y p q =
    let d = one _ _ _ _ _ p.first q.first in
    let h = two _ _ _ _ _ p.second (subst (λ (l : List Sign). S l y.1 s) (sym d.1) q.second) in
    (ap₂ (λ a b. (a, b)) d.0 h.0, h.1)

-- a symbol, and something behind it

pub behind : {A : Type 0} {R : List Sign → A → List Sign → Type 0} {t : Symbol} {ts m r : List Sign} {a : A} → SymbolAt t ts m → R m a r → Behind t R ts a r
behind {m = m} at p = record { middle = m; at = at; then = p }

pub no_symbol : {A : Type 0} {R : List Sign → A → List Sign → Type 0} {t : Symbol} {ts : List Sign} → NoSymbol t ts → Nothing (Behind t R) ts
no_symbol none x rest b = none b.middle b.at

pub behind_none : {A : Type 0} {R : List Sign → A → List Sign → Type 0} {t : Symbol} {ts m : List Sign} → SymbolAt t ts m → Nothing R m → Nothing (Behind t R) ts
behind_none {R = R} at none x rest b = none x rest (subst (λ (l : List Sign). R l x rest) (symbol_once b.at at) b.then)

pub one_behind : {A : Type 0} {R : List Sign → A → List Sign → Type 0} (t : Symbol) → One R → One (Behind t R)
one_behind {R = R} t one ts r s x y p q = one _ _ _ _ _ p.then (subst (λ (l : List Sign). R l y s) (symbol_once q.at p.at) q.then)

-- something, and a symbol behind it

pub before : {A : Type 0} {R : List Sign → A → List Sign → Type 0} {t : Symbol} {ts m r : List Sign} {a : A} → R ts a m → SymbolAt t m r → Before t R ts a r
before {m = m} p at = record { middle = m; first = p; at = at }

pub before_none : {A : Type 0} {R : List Sign → A → List Sign → Type 0} {t : Symbol} {ts : List Sign} → Nothing R ts → Nothing (Before t R) ts
before_none none x rest b = none x b.middle b.first

pub symbol_none : {A : Type 0} {R : List Sign → A → List Sign → Type 0} {t : Symbol} {ts m : List Sign} {a : A} → One R → R ts a m → NoSymbol t m → Nothing (Before t R) ts
symbol_none {t = t} one p none x rest b =
    let d = one _ _ _ _ _ p b.first in none rest (subst (λ (l : List Sign). SymbolAt t l rest) (sym d.1) b.at)

pub one_before : {A : Type 0} {R : List Sign → A → List Sign → Type 0} (t : Symbol) → One R → One (Before t R)
one_before t one ts r s x y p q =
    let d = one _ _ _ _ _ p.first q.first in
    (d.0, symbol_once (subst (λ (l : List Sign). SymbolAt t l r) d.1 p.at) q.at)

pub before_apart : {A : Type 0} {R : List Sign → A → List Sign → Type 0} {t u : Symbol} {ts r s : List Sign} {x y : A} → One R → (t ≡ u → ⊥) → Before t R ts x r → Before u R ts y s → ⊥
before_apart {u = u} {s = s} one other p q =
    let d = one _ _ _ _ _ p.first q.first in other_symbol other p.at (subst (λ (l : List Sign). SymbolAt u l s) (sym d.1) q.at)

-- names and types

same_name : {a b : NameAt} {r s : List Sign} → Lower a.at a.word ∷ r ≡ Lower b.at b.word ∷ s → (a ≡ b) × (r ≡ s)
same_name e =
    (ap₂ (λ (n : ℕ) (w : Bytes). record { at = n; word = w }) (ap (λ (l : List Sign). elim l [ x ∷ xs ↦ elim x [ Lower c u ↦ c | _ ↦ 0 ] | _ ↦ 0 ]) e) (ap (λ (l : List Sign). elim l [ x ∷ xs ↦ elim x [ Lower c u ↦ u | _ ↦ [] ] | _ ↦ [] ]) e), tail_eq e)

pub one_name : One IsName
one_name ts r s x y p q = same_name (sym p ∙ q)

pub one_type : One IsType
one_type ts r s x y p q = let d = same_type p q in (d.tree, d.rest)

one_ascribed : (t : Symbol) → One (IsAscribed t)
one_ascribed t = one_behind Colon (one_before t one_type)

pub one_typed : (t : Symbol) → One (IsTypedBinder t)
one_typed t = one_then one_name (one_ascribed t)

pub one_argument : One IsArgument
one_argument = one_behind Open (one_typed Close)

pub one_head : One IsHead
one_head = one_then one_name (one_then one_argument (one_ascribed Equals))

pub head_no_argument : (name : NameAt) (ts m : List Sign) → IsName ts name m → Nothing IsArgument m → Nothing IsHead ts
head_no_argument name ts m p none = later_none one_name p (first_none none)

pub head_no_result : (name : NameAt) (x : NameAt × TypeTree) (ts m r : List Sign) → IsName ts name m → IsArgument m x r → Nothing (IsAscribed Equals) r → Nothing IsHead ts
head_no_result name x ts m r p q none = later_none one_name p (later_none one_argument q none)

below_seven : (n : ℕ) → 7 < n → nat_lt 7 n ≡ true
below_seven n h = search rules

pub above_seven : (n : ℕ) → nat_lt 7 n ≡ true → 7 < n
above_seven n h = search rules

pub no_last_type : {ts : List Sign} → Nothing IsType ts → Nothing IsLastType ts
no_last_type none T s l = none T s l.is

-- a type behind which a part doesn't end
pub not_last_type : {ts r : List Sign} {T : TypeTree} → IsType ts T r → nat_lt 7 (front r) ≡ false → Nothing IsLastType ts
not_last_type {r = r} p e U s l =
    let d = one_type _ _ _ _ _ p l.is in
    let h : 7 < front r = subst (λ (m : List Sign). 7 < front m) (sym d.1) l.ends in
    apart (sym e ∙ below_seven (front r) h)

-- several things

pub record Left {A : Type 0} (More Last : List Sign → A → List Sign → Type 0) (done : List A) (rest : List Sign) (all : List A) (s : List Sign) : Type 0 where
  pub others : List A
  pub is : all ≡ done ++ others
  pub read : Chain More Last rest others s

-- these are read so far, and what stands at the rest is the others
pub record SoFar {A : Type 0} (More Last : List Sign → A → List Sign → Type 0) (ts : List Sign) (done : List A) (rest : List Sign) : Type 0 where
  pub back : (xs : List A) (s : List Sign) → Chain More Last rest xs s → Chain More Last ts (done ++ xs) s
  pub forth : (all : List A) (s : List Sign) → Chain More Last ts all s → Left More Last done rest all s

pub start : {A : Type 0} (More Last : List Sign → A → List Sign → Type 0) (ts : List Sign) → SoFar More Last ts [] ts
start More Last ts = record {
  back = λ xs s c. c;
  forth = λ all s c. record { others = all; is = refl; read = c };
}

record Others {A : Type 0} (More Last : List Sign → A → List Sign → Type 0) (x : A) (r : List Sign) (all : List A) (s : List Sign) : Type 0 where
  others : List A
  is : all ≡ x ∷ others
  read : Chain More Last r others s

others_of : {A : Type 0} {More Last : List Sign → A → List Sign → Type 0} {ts r s : List Sign} {x : A} {all : List A} → One More → ((y : A) (u : List Sign) → Last ts y u → ⊥)
    → More ts x r → Chain More Last ts all s → Others More Last x r all s
others_of one none m (last l) = absurd (none _ _ l)
others_of {More = More} {Last = Last} {s = s} one none m (more {xs = xs} n c) =
    let d = one _ _ _ _ _ m n in
    record { others = xs; is = ap (λ y. y ∷ xs) (sym d.0); read = subst (λ (l : List Sign). Chain More Last l xs s) (sym d.1) c }

pub next : {A : Type 0} {More Last : List Sign → A → List Sign → Type 0} {ts rest r : List Sign} {done : List A} {x : A} → One More → ((y : A) (u : List Sign) → Last rest y u → ⊥)
    → SoFar More Last ts done rest → More rest x r → SoFar More Last ts (done ++ x ∷ []) r
next {More = More} {Last = Last} {ts = ts} {done = done} {x = x} one none so m = record {
  back = λ xs s c. subst (λ l. Chain More Last ts l s) (sym (append_assoc done (x ∷ []) xs)) (so.back (x ∷ xs) s (more m c));
  forth = λ all s c.
      let l = so.forth all s c in
      let n = others_of one none m l.read in
      record { others = n.others; is = l.is ∙ ap (λ ys. done ++ ys) n.is ∙ sym (append_assoc done (x ∷ []) n.others); read = n.read };
}

pub ended : {A : Type 0} {More Last : List Sign → A → List Sign → Type 0} {ts rest s : List Sign} {done : List A} {x : A} → SoFar More Last ts done rest → Last rest x s → Chain More Last ts (done ++ x ∷ []) s
ended {s = s} {x = x} so l = so.back (x ∷ []) s (last l)

nothing_of : {A : Type 0} {More Last : List Sign → A → List Sign → Type 0} {ts s : List Sign} {all : List A} → Nothing More ts → Nothing Last ts → Chain More Last ts all s → ⊥
nothing_of more_none last_none (last l) = last_none _ _ l
nothing_of more_none last_none (more m c) = more_none _ _ m

pub chain_none : {A : Type 0} {More Last : List Sign → A → List Sign → Type 0} {ts rest : List Sign} {done : List A} → SoFar More Last ts done rest → Nothing More rest → Nothing Last rest → Nothing (Chain More Last) ts
chain_none so more_none last_none all s c = nothing_of more_none last_none (so.forth all s c).read

-- a first thing, and those read behind it, the last of them in front of the rest
pub record ManyRead {A : Type 0} (More Last R : List Sign → A → List Sign → Type 0) (first : A) (ts : List Sign) (parts : List A) (rest : List Sign) : Type 0 where
  pub done : List A
  pub from : List Sign
  pub so : SoFar More Last ts done from
  pub item : A
  pub read : R from item rest
  pub is : parts ≡ first ∷ (done ++ item ∷ [])

pub second_read : {A : Type 0} (More Last : List Sign → A → List Sign → Type 0) {R : List Sign → A → List Sign → Type 0} {first x : A} {ts rest : List Sign} {parts : List A} → R ts x rest → parts ≡ first ∷ x ∷ [] → ManyRead More Last R first ts parts rest
second_read More Last {x = x} {ts = ts} p is = record { done = []; from = ts; so = start More Last ts; item = x; read = p; is = is }

pub next_read : {A : Type 0} {More Last R : List Sign → A → List Sign → Type 0} {first x : A} {ts rest behind later : List Sign} {parts all : List A} → One More → (m : ManyRead More Last R first ts parts rest) → ((y : A) (u : List Sign) → Last m.from y u → ⊥)
    → More m.from m.item behind → R behind x later → all ≡ parts ++ x ∷ [] → ManyRead More Last R first ts all later
next_read {first = first} {x = x} {behind = behind} one m none p q is = record {
  done = m.done ++ m.item ∷ [];
  from = behind;
  so = next one none m.so p;
  item = x;
  read = q;
  is = is ∙ ap (λ l. l ++ x ∷ []) m.is;
}

pub next_none : {A : Type 0} {More Last R : List Sign → A → List Sign → Type 0} {first : A} {ts rest behind : List Sign} {parts : List A} → One More → (m : ManyRead More Last R first ts parts rest) → ((y : A) (u : List Sign) → Last m.from y u → ⊥)
    → More m.from m.item behind → Nothing More behind → Nothing Last behind → Nothing (Chain More Last) ts
next_none one m none p more_none last_none = chain_none (next one none m.so p) more_none last_none

pub record AllRead {A : Type 0} (More Last : List Sign → A → List Sign → Type 0) (first : A) (ts : List Sign) (all : List A) (rest : List Sign) : Type 0 where
  pub others : List A
  pub is : all ≡ first ∷ others
  pub read : Chain More Last ts others rest

pub all_read : {A : Type 0} {More Last R : List Sign → A → List Sign → Type 0} {first : A} {ts rest s : List Sign} {parts : List A} → (m : ManyRead More Last R first ts parts rest) → Last m.from m.item s → AllRead More Last first ts parts s
all_read m l = record { others = m.done ++ m.item ∷ []; is = m.is; read = ended m.so l }
