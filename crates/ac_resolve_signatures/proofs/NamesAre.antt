-- What is wrong with a name behind a dot by what is known is what is wrong with it in the scope.
use Rattle.std.proofs.Common.{◌≡◌, ◌∙◌, ap, refl, Bool, true, false, Option, Some, None}
use Rattle.std.specs.Prelude.{is_some, ◌||◌, option_map, option_and_then}
use Rattle.std.specs.Option.{option_or}
use Rattle.ac_terms.specs.Terms.{Expr}
use Rattle.ac_syntax.specs.Trees.{NameAt}
use Rattle.ac_resolve_scopes.specs.Standard.{NamedPrimitive, is_standard, primitive_named}
use Rattle.ac_resolve_scopes.specs.Scopes.{NameScope, definition, before_dot, value_outside, primitive_function, dotted_value}
use Rattle.ac_resolve_scopes.specs.Unbound.{unbound_behind}
use Rattle.ac_resolve_signatures.specs.KnownScopes.{KnownScope, is_value_behind}
use Rattle.ac_resolve_signatures.specs.NameFlaws.{place_behind}
use Rattle.ac_resolve_signatures.proofs.Knowing.{Knows, outer-is, is_value_behind-is}

behind-is : (b : Bool) (p : Option NamedPrimitive) (o : Option Expr) (m x : NameAt) → place_behind b (is_some p || is_some o) m x ≡ unbound_behind b (option_or (option_map primitive_function p) o) m x
behind-is false p o m x = refl
behind-is true (Some p) o m x = refl
behind-is true None (Some e) m x = refl
behind-is true None None m x = refl

module _ (K : KnownScope) (S : NameScope) (k : Knows K S) where
  pub dotted-is : (m x : NameAt) →
      place_behind (is_standard m.word || is_some (K.outer m.word)) (is_some (primitive_named m.word x.word) || is_value_behind K m.word x.word) m x
      ≡ unbound_behind (is_standard m.word || is_some (definition S m.word)) (dotted_value S m.word x.word) m x
  dotted-is m x =
      ap (λ b. place_behind (is_standard m.word || b) (is_some (primitive_named m.word x.word) || is_value_behind K m.word x.word) m x) (outer-is K.outer S k.outer m.word)
      ∙ ap (λ b. place_behind (is_standard m.word || is_some (definition S m.word)) (is_some (primitive_named m.word x.word) || b) m x) (is_value_behind-is K S k m.word x.word)
      ∙ behind-is (is_standard m.word || is_some (definition S m.word)) (primitive_named m.word x.word) (option_and_then (value_outside S.entries x.word) (before_dot S m.word)) m x
