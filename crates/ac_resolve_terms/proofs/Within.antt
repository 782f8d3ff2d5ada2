-- Where in no part too many variables are in scope, none of each part has too many.
use Rattle.std.proofs.Common.{◌≡◌, ◌∙◌, ap, refl, arith, ℕ, zero, suc, ◌<◌, List, [], ◌∷◌, map, length, get_or, Option, Some, None}
use Rattle.ac_syntax.specs.declared.surface.SExpr.{SExpr}
use Rattle.ac_syntax.specs.declared.surface.SArm.{SArm}
use Rattle.ac_syntax.specs.Trees.{trees, arm_trees}
use Rattle.ac_syntax.specs.ReadTrees.{tree_of, arm_tree_of}
use Rattle.ac_resolve_scopes.specs.Scopes.{NameScope}
use Rattle.ac_resolve_scopes.specs.Written.{in_arm}
use Rattle.ac_resolve_scopes.specs.Searches.{least, found, found_in_all, found_in_arms}
use Rattle.ac_resolve_terms.specs.inner.Crowd.{crowd}

pub none_left : (a b : Option ℕ) → least a b ≡ None → a ≡ None
none_left None b h = refl
none_left (Some a) None h = cc
none_left (Some a) (Some b) h = cc

pub none_right : (a b : Option ℕ) → least a b ≡ None → b ≡ None
none_right None b h = h
none_right (Some a) None h = refl
none_right (Some a) (Some b) h = cc

pub none_both : (a b : Option ℕ) → a ≡ None → b ≡ None → least a b ≡ None
none_both None b h k = k
none_both (Some a) b h k = absurd (cc)

nth_within : (S : NameScope) (es : List SExpr) (i : ℕ) (d : SExpr) → i < length es → found_in_all crowd S (trees (map tree_of es)) ≡ None → found crowd S (tree_of (get_or es i d)) ≡ None
nth_within S [] i d h n = absurd (omega arith)
nth_within S (x ∷ es) zero d h n = none_left _ _ n
nth_within S (x ∷ es) (suc i) d h n = nth_within S es i d (omega arith) (none_right (found crowd S (tree_of x)) _ n)

pub item_within : (S : NameScope) (es : List SExpr) (i : ℕ) (x : SExpr) → i < length es → x ≡ get_or es i x → found_in_all crowd S (trees (map tree_of es)) ≡ None → found crowd S (tree_of x) ≡ None
item_within S es i x h is n = ap (λ e. found crowd S (tree_of e)) is ∙ nth_within S es i x h n

-- of an arm's body, which sees the pattern's variables
abbrev pub found_in_arm : NameScope → SArm → Option ℕ
found_in_arm S a = found crowd (in_arm (arm_tree_of a).0 S) (arm_tree_of a).1

nth_arm_within : (S : NameScope) (cases : List SArm) (i : ℕ) (d : SArm) → i < length cases → found_in_arms crowd S (arm_trees (map arm_tree_of cases)) ≡ None → found_in_arm S (get_or cases i d) ≡ None
nth_arm_within S [] i d h n = absurd (omega arith)
nth_arm_within S (x ∷ cases) zero d h n = none_left _ _ n
nth_arm_within S (x ∷ cases) (suc i) d h n = nth_arm_within S cases i d (omega arith) (none_right (found_in_arm S x) _ n)

pub item_arm_within : (S : NameScope) (cases : List SArm) (i : ℕ) (x : SArm) → i < length cases → x ≡ get_or cases i x → found_in_arms crowd S (arm_trees (map arm_tree_of cases)) ≡ None → found_in_arm S x ≡ None
item_arm_within S cases i x h is n = ap (found_in_arm S) is ∙ nth_arm_within S cases i x h n
