-- Scopes: how many names they hold.
use Rattle.std.proofs.Common.{◌≡◌, ◌∙◌, ap, refl, arith, ℕ, suc, ◌+◌, Bool, true, false, ◌||◌, Bor, List, [], ◌∷◌, map, length, Option, Some, None}
use Rattle.std.specs.Prelude.{is_some, option_map}
use Rattle.std.specs.List.{list_any}
use Rattle.ac_types.specs.Types.{Bytes, same_bytes}
use Rattle.ac_syntax.specs.declared.surface.SName.{SName}
use Rattle.ac_resolve_scopes.specs.Scopes.{binders_to, scope_with}
use Rattle.ac_resolve_signatures.specs.declared.named.Named.{Named}
use Rattle.ac_resolve_faults.specs.declared.scope.VariableScope.{VariableScope, out-VariableScope, map-VariableScope, fold_out-VariableScope}
use Rattle.ac_resolve_faults.specs.declared.scope.VariableScope.TheOpen.{VariableScope-F}
use Rattle.ac_resolve_faults.specs.declared.scope.VariableScope.TheVariants as scope
use Rattle.ac_resolve_signatures.specs.Reads.{named}
use Rattle.ac_resolve_faults.specs.inner.Variables.{variables_in, scope_layer}
use Rattle.ac_resolve_signatures.proofs.SigsAre.{any_first}

scope_out : (s : VariableScope) → variables_in s ≡ scope_layer (map-VariableScope VariableScope (List Bytes) variables_in (out-VariableScope s))
unfolding variables_in
scope_out s = fold_out-VariableScope (List Bytes) scope_layer s

abbrev one_scope : VariableScope-F VariableScope → List Bytes
one_scope x = scope_layer (map-VariableScope VariableScope (List Bytes) variables_in x)

pub variables_in-Empty : variables_in scope.Empty ≡ []
variables_in-Empty = scope_out scope.Empty ∙ ap one_scope scope.outs-Empty

pub variables_in-Inner : (outer : Bor VariableScope) (name : Bor SName) → variables_in (scope.Inner outer name) ≡ name.now.word ∷ variables_in outer.now
variables_in-Inner outer name = scope_out (scope.Inner outer name) ∙ ap one_scope (scope.outs-Inner outer name)

pub variables_in-Arm : (outer : Bor VariableScope) (names : Bor (List Named)) → variables_in (scope.Arm outer names) ≡ scope_with (map named names.now) (variables_in outer.now)
variables_in-Arm outer names = scope_out (scope.Arm outer names) ∙ ap one_scope (scope.outs-Arm outer names)

pub bound-length : (names : List Named) (outer : List Bytes) → length (scope_with (map named names) outer) ≡ length outer + length names
bound-length [] outer = omega arith
bound-length (x ∷ names) outer = omega (arith, bound-length names (x.word.now ∷ outer))

-- a name among those of a pattern, or in the scope around
pub bound_among : (w : Bytes) (names : List Named) (outer : List Bytes) → is_some (binders_to w (scope_with (map named names) outer)) ≡ (list_any (λ (n : Named). same_bytes n.word.now w) names || is_some (binders_to w outer))
bound_among w [] outer = refl
bound_among w (x ∷ names) outer = bound_among w names (x.word.now ∷ outer) ∙ any_first (same_bytes x.word.now w) (list_any (λ (n : Named). same_bytes n.word.now w) names) (binders_to w outer)

pub bound_first : (b : Bool) (o : Option ℕ) → is_some (elim b [ true ↦ Some 0 | false ↦ option_map suc o ]) ≡ (b || is_some o)
bound_first true o = refl
bound_first false None = refl
bound_first false (Some i) = refl

pub bound_inner : (w y : Bytes) (outer : List Bytes) → is_some (binders_to w (y ∷ outer)) ≡ (same_bytes y w || is_some (binders_to w outer))
bound_inner w y outer = bound_first (same_bytes y w) (binders_to w outer)

pub ruleset bound_laws = (variables_in-Empty, variables_in-Inner, variables_in-Arm, bound_among, bound_inner)

pub ruleset scope_laws = (variables_in-Empty, variables_in-Inner, variables_in-Arm, bound-length)
