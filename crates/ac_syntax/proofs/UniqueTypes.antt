-- Signs have at most one type at their front that is as long as it can be.
use Rattle.std.proofs.Common.{◌≡◌, ◌<◌, ℕ, List, [], ◌∷◌, refl, sym, ap, subst, arith}
use Rattle.ac_syntax.specs.Signs.{Sign, Int, Str, Lower, Upper, Fixed, Other}
use Rattle.ac_syntax.specs.Trees.{TypeTree, TypeTrees, no_type_trees, type_tree}
use Rattle.ac_syntax.specs.TypeForms.{TypeLevel, Suffixes, ParsesType, ParsesFactors, no_arrow, arrow, one_factor, factors, suffixed, no_suffix, list_of, option_of, int, bool, string, unit, exn, local, of_module, parens, last_factor, more_factors, type_front, TypeStops, IsType}
use Rattle.ac_syntax.specs.declared.sign.Symbol.TheVariants.{Star, Arrow, ListType, OptionType}

pub tail_eq : {x y : Sign} {r s : List Sign} → x ∷ r ≡ y ∷ s → r ≡ s
tail_eq e = cc

pub front_positive : (ts : List Sign) → 0 < type_front ts
front_positive [] = omega arith
front_positive (Int a n ∷ ts) = omega arith
front_positive (Str a x ∷ ts) = omega arith
front_positive (Lower a x ∷ ts) = omega arith
front_positive (Upper a x ∷ ts) = omega arith
front_positive (Other a ∷ ts) = omega arith
front_positive (Fixed a ListType ∷ ts) = omega arith
front_positive (Fixed a OptionType ∷ ts) = omega arith
front_positive (Fixed a Star ∷ ts) = omega arith
front_positive (Fixed a Arrow ∷ ts) = omega arith
front_positive (Fixed a s ∷ ts) = omega arith

-- a sign that goes on with a type doesn't stand behind one that is as long as it can be
pub arrow_goes_on : {P : Type 0} {a : ℕ} (r s : List Sign) → r ≡ Fixed a Arrow ∷ s → 3 < type_front r → P
arrow_goes_on r s is h = absurd (omega (arith, ap type_front is))

pub star_goes_on : {P : Type 0} {a : ℕ} (r s : List Sign) → r ≡ Fixed a Star ∷ s → 2 < type_front r → P
star_goes_on r s is h = absurd (omega (arith, ap type_front is))

pub record SameType (t u : TypeTree) (r s : List Sign) : Type 0 where
  pub tree : t ≡ u
  pub rest : r ≡ s

pub record SameTypes (ts us : TypeTrees) (r s : List Sign) : Type 0 where
  pub trees : ts ≡ us
  pub rest : r ≡ s

pub at_same : {l : TypeLevel} {r s v : List Sign} {t : TypeTree} → r ≡ s → ParsesType l s t v → ParsesType l r t v
at_same {l} {r} {s} {v} {t} e p = subst (λ (u : List Sign). ParsesType l u t v) (sym e) p

pub factors_at_same : {r s v : List Sign} {ts : TypeTrees} → r ≡ s → ParsesFactors s ts v → ParsesFactors r ts v
factors_at_same {r} {s} {v} {ts} e p = subst (λ (u : List Sign). ParsesFactors u ts v) (sym e) p

pub suffixes_at_same : {at : ℕ} {r s v : List Sign} {t u w : TypeTree} → t ≡ u → r ≡ s → ParsesType (Suffixes at u) s w v → ParsesType (Suffixes at t) r w v
suffixes_at_same {at} {r} {s} {v} {t} {u} {w} e d p = at_same d (subst (λ (x : TypeTree). ParsesType (Suffixes at x) s w v) (sym e) p)

mutual
  pub unique_type : {l : TypeLevel} {ts r s : List Sign} {t u : TypeTree} → ParsesType l ts t r → ParsesType l ts u s → TypeStops l r → TypeStops l s → SameType t u r s
  unique_type (no_arrow p) (no_arrow q) x y = unique_type p q (omega arith) (omega arith)
  unique_type (no_arrow p) (arrow q w) x y = arrow_goes_on _ _ (unique_type p q (omega arith) (omega arith)).rest x
  unique_type (arrow p v) (no_arrow q) x y = arrow_goes_on _ _ (sym (unique_type p q (omega arith) (omega arith)).rest) y
  unique_type (arrow p v) (arrow q w) x y =
      let d = unique_type p q (omega arith) (omega arith) in
      let h = unique_type v (at_same (tail_eq d.rest) w) x y in
      record { tree = let a = d.tree in let b = h.tree in cc; rest = h.rest }
  unique_type (one_factor p) (one_factor q) x y = unique_type p q (omega arith) (omega arith)
  unique_type (one_factor p) (factors q w) x y = star_goes_on _ _ (unique_type p q (omega arith) (omega arith)).rest x
  unique_type (factors p v) (one_factor q) x y = star_goes_on _ _ (sym (unique_type p q (omega arith) (omega arith)).rest) y
  unique_type (factors p v) (factors q w) x y =
      let d = unique_type p q (omega arith) (omega arith) in
      let h = unique_factors v (factors_at_same (tail_eq d.rest) w) x y in
      record { tree = let a = d.tree in let b = h.trees in cc; rest = h.rest }
  unique_type (suffixed p v) (suffixed q w) x y =
      let d = unique_type p q (front_positive _) (front_positive _) in unique_type v (suffixes_at_same d.tree d.rest w) x y
  unique_type no_suffix no_suffix x y = record { tree = refl; rest = refl }
  unique_type no_suffix (list_of q) x y = absurd (omega arith)
  unique_type no_suffix (option_of q) x y = absurd (omega arith)
  unique_type (list_of p) no_suffix x y = absurd (omega arith)
  unique_type (option_of p) no_suffix x y = absurd (omega arith)
  unique_type (list_of p) (list_of q) x y = unique_type p q x y
  unique_type (option_of p) (option_of q) x y = unique_type p q x y
  unique_type int int x y = record { tree = refl; rest = refl }
  unique_type bool bool x y = record { tree = refl; rest = refl }
  unique_type string string x y = record { tree = refl; rest = refl }
  unique_type unit unit x y = record { tree = refl; rest = refl }
  unique_type exn exn x y = record { tree = refl; rest = refl }
  unique_type local local x y = record { tree = refl; rest = refl }
  unique_type of_module of_module x y = record { tree = refl; rest = refl }
  unique_type (parens p) (parens q) x y =
      let d = unique_type p q (omega arith) (omega arith) in record { tree = d.tree; rest = tail_eq d.rest }

  pub unique_factors : {ts r s : List Sign} {us vs : TypeTrees} → ParsesFactors ts us r → ParsesFactors ts vs s → 2 < type_front r → 2 < type_front s → SameTypes us vs r s
  unique_factors (last_factor p) (last_factor q) x y =
      let d = unique_type p q (omega arith) (omega arith) in
      record { trees = ap (λ (t : TypeTree). type_tree t no_type_trees) d.tree; rest = d.rest }
  unique_factors (last_factor p) (more_factors q w) x y = star_goes_on _ _ (unique_type p q (omega arith) (omega arith)).rest x
  unique_factors (more_factors p v) (last_factor q) x y = star_goes_on _ _ (sym (unique_type p q (omega arith) (omega arith)).rest) y
  unique_factors (more_factors p v) (more_factors q w) x y =
      let d = unique_type p q (omega arith) (omega arith) in
      let h = unique_factors v (factors_at_same (tail_eq d.rest) w) x y in
      record { trees = let a = d.tree in let b = h.trees in cc; rest = h.rest }

pub same_type : {ts r s : List Sign} {t u : TypeTree} → IsType ts t r → IsType ts u s → SameType t u r s
same_type p q = unique_type p.parses q.parses p.stops q.stops
