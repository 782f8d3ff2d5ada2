use Rattle.std.proofs.Common.{◌∙◌, ap, ap₂, sym, arith, map, length}
use Rattle.std.specs.Prelude.{option_and_then}
use Rattle.std.specs.Option.{option_map_or}
use Rattle.std.proofs.lemmas.List.{length-map}
use Rattle.sha2.specs.Sha256.{sha256}
use Rattle.ac_terms.specs.Terms.{Unit'}
use Rattle.ac_terms.specs.Read.{environment_of}
use Rattle.ac_syntax.specs.ReadTrees.{def_tree_of, surface_of}
use Rattle.ac_resolve_scopes.specs.Scopes.{NameScope, after_all}
use Rattle.ac_resolve_scopes.specs.Written.{term_in}
use Rattle.ac_resolve_scopes.specs.Definitions.{after_def}
use Rattle.ac_resolve_scopes.specs.Searches.{least_in, found}
use Rattle.ac_resolve_scopes.specs.Unbound.{unbound_in_def}
use Rattle.ac_resolve_scopes.specs.Counts.{large, large_in_def}
use Rattle.ac_resolve_terms.proofs.Kept.{all_kept}
use Rattle.ac_resolve_terms.proofs.Surfaced.{defs_bound, defs_within, few_ahead, few_entries, main_within}
use Rattle.ac_resolve_terms.proofs.program.build.Goals as goal

pub first-requires : goal.first-requires
first-requires c = record { names = c.requires.names; few = let h = c.requires.few in omega arith }

pub defs-requires : goal.defs-requires
defs-requires c =
    let E = environment_of c.args.env in
    let p = surface_of c.args.surface.now in
    record {
      bound =
          ap₂ (λ (S : NameScope) l. least_in (after_def sha256) unbound_in_def S (map def_tree_of l)) c.in_ok-ahead.ensures c.as_slice-trees.ensures
          ∙ defs_bound E p c.requires.sound;
      within =
          ap₂ (λ (S : NameScope) l. least_in (after_def sha256) large_in_def S (map def_tree_of l)) c.in_ok-ahead.ensures c.as_slice-trees.ensures
          ∙ defs_within E p c.requires.sound;
      few = few_ahead E p c.requires.sound _ _ c.in_ok-ahead.ensures (ap length c.as_slice-trees.ensures ∙ sym (length-map c.args.surface.now.defs def_tree_of)) c.requires.few;
    }

pub main_term-requires : goal.main_term-requires
main_term-requires c =
    let p = surface_of c.args.surface.now in
    let last = c.in_ok-behind.ensures ∙ ap₂ (λ (S : NameScope) l. after_all (after_def sha256) S (map def_tree_of l)) c.in_ok-ahead.ensures c.as_slice-trees.ensures in
    ap (λ (S : NameScope). option_and_then (found large S) p.expr) last ∙ main_within (environment_of c.args.env) p c.requires.sound

pub returns : goal.returns
returns c =
    let E = environment_of c.args.env in
    let p = surface_of c.args.surface.now in
    let last = c.in_ok-behind.ensures ∙ ap₂ (λ (S : NameScope) l. after_all (after_def sha256) S (map def_tree_of l)) c.in_ok-ahead.ensures c.as_slice-trees.ensures in
    let entries = c.into_env-env.ensures ∙ ap (λ (S : NameScope). S.entries) last in
    record {
      elaborated = record {
        sound = c.requires.sound;
        entries = entries;
        is = c.in_ok-main.ensures ∙ ap (λ (S : NameScope). option_map_or (term_in S) p.expr Unit') last;
      };
      names = all_kept E _ p entries c.requires.names;
      counted = few_entries E p c.requires.sound _ entries;
    }
