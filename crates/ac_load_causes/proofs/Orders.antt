-- The causes of a part, one behind another.
use Rattle.std.proofs.Common.{◌≡◌, ◌∙◌, sym, ap, subst, ℕ, drop, Option, None}
use Rattle.std.specs.Option.{option_or}
use Rattle.ac_types.specs.Partial.{first_some}
use Rattle.ac_terms.specs.Terms.{Expr}
use Rattle.ac_terms.specs.Defs.{Environment}
use Rattle.ac_load_rules.specs.Causes.{Cause, IllTyped, first_at, uncovering, not_valuable, without_likespec, unlinked, first_entry_clash}
use Rattle.ac_load_causes.specs.PartCauses.{causes_behind, Tells}
use Rattle.ac_load_causes.specs.declared.fault.PartFault.{PartFault}
use Rattle.ac_load_causes.specs.declared.fault.PartFault.TheVariants as fault

-- a fault tells of the first of two causes, or of the second where the first isn't there
pub tells_first : (f : PartFault) (o rest : Option Cause) → Tells f o → Tells f (option_or o rest)
tells_first (fault.IllTyped def) o rest h = ap (λ q. option_or q rest) h
tells_first (fault.Signature def spec) o rest h = ap (λ q. option_or q rest) h
tells_first (fault.NotValuable def field) o rest h = ap (λ q. option_or q rest) h
tells_first (fault.LikeMissing def spec) o rest h = ap (λ q. option_or q rest) h
tells_first (fault.Unresolved def) o rest h = ap (λ q. option_or q rest) h
tells_first (fault.Clash first second) o rest h = ap (λ q. option_or q rest) h
tells_first fault.Memory o rest h = tt

pub rest_is : (o rest : Option Cause) → o ≡ None → option_or o rest ≡ rest
rest_is o rest h = ap (λ q. option_or q rest) h

pub tells_rest : (f : PartFault) (o rest : Option Cause) → o ≡ None → Tells f rest → Tells f (option_or o rest)
tells_rest f o rest h t = subst (Tells f) (sym (rest_is o rest h)) t

-- the causes behind the types, one after another
module _ (E : Environment) (n : ℕ) where
  abbrev covers : Option Cause
  covers = first_at 0 uncovering (drop n E)

  abbrev values : Option Cause
  values = first_at 0 not_valuable (drop n E)

  abbrev likes : Option Cause
  likes = first_at 0 without_likespec (drop n E)

  abbrev links : Option Cause
  links = first_at 0 unlinked (drop n E)

  abbrev clash : Option Cause
  clash = option_or (first_entry_clash E) None

  abbrev all_behind : Option Cause
  all_behind = option_or covers (option_or values (option_or likes (option_or links clash)))

  pub second_told : (f : PartFault) → covers ≡ None → Tells f values → Tells f all_behind
  second_told f a h = tells_rest f covers _ a (tells_first f values _ h)

  pub third_told : (f : PartFault) → covers ≡ None → values ≡ None → Tells f likes → Tells f all_behind
  third_told f a b h = tells_rest f covers _ a (tells_rest f values _ b (tells_first f likes _ h))

  pub fourth_told : (f : PartFault) → covers ≡ None → values ≡ None → likes ≡ None → Tells f links → Tells f all_behind
  fourth_told f a b c h = tells_rest f covers _ a (tells_rest f values _ b (tells_rest f likes _ c (tells_first f links _ h)))

  pub last_is : (o : Option Cause) → covers ≡ None → values ≡ None → likes ≡ None → links ≡ None → o ≡ first_entry_clash E → all_behind ≡ option_or o None
  last_is o a b c d h = rest_is covers _ a ∙ rest_is values _ b ∙ rest_is likes _ c ∙ rest_is links _ d ∙ ap (λ q. option_or q None) (sym h)

module _ (E : Environment) (n : ℕ) (e : Expr) where
  abbrev behind : Option Cause
  behind = first_some (causes_behind E n)
