-- The definitions of the code by themselves, and their places: how many there are, and what is asked of them.
use Rattle.std.proofs.Common.{◌≡◌, refl, sym, ap, ◌∙◌, subst, ◌+◌, ◌<◌, ◌≤◌, ◌^◌, true, List, [], map, length}
use Rattle.std.specs.Prelude.{position, nat_lt, option_map, Some}
use Rattle.std.specs.List.{list_all}
use Rattle.std.proofs.lemmas.List.{length-map, length-append}
use Rattle.std.proofs.lemmas.List.Folds.{list_all-map}
use mathlib.Core.Path.{ap₂}
use native.Mathlib.Omega.{arith}
use Rattle.sha2.specs.Sha256.{sha256}
use Rattle.ac_types.specs.Partial.{given, first_failing, first_wrong}
use Rattle.ac_terms.specs.declared.def.Packet as code_packet
use Rattle.ac_terms.specs.declared.env.Env.{Env}
use Rattle.ac_terms.specs.Defs.{Environment, Entry, Def, Packet}
use Rattle.ac_terms.specs.Bounds.{fits_def, fits_packet}
use Rattle.ac_terms.specs.Read.{environment_of, entry_of, pdef_of, packet_of}
use Rattle.ac_terms.proofs.BoundsLaws.{packet_bounds}
use Rattle.ac_terms.proofs.EnvLaws.{position-map}
use Rattle.ac_terms.proofs.TestLaws.{lt_true}
use Rattle.ac_rules.specs.Coherent.{IsCoherent}
use Rattle.ac_rules.specs.Modules.{is_well_formed}
use Rattle.ac_rules.specs.Packets.{Place, Placed, Definition, Full, Unresolved, alone, clash, first_clash, ill_formed, is_resolved, too_many, unresolved, places}
use Rattle.ac_rules.proofs.Alone.{many_alone}
use Rattle.ac_admit_clashes.specs.inner.Known.{all_known}
use Rattle.ac_admit_placing.specs.declared.places.Place as code_place
use Rattle.ac_admit_placing.specs.declared.placing.Placing.{Placing}
use Rattle.ac_admit_placing.specs.Placed.{state_of}
use Rattle.ac_admit_placing.specs.inner.Open.{place_of}
use Rattle.ac_admit.specs.inner.Spoken.{defs_of, spoken_in, is_spoken}
use Rattle.ac_admit.proofs.PlaceLaws.{defs_alone, first_open, few_come, many_places}

abbrev def_in : Entry → Def
def_in e = e.def

few_spelled : (p : Packet) → fits_packet p ≡ true → length p.defs ≤ 65535
few_spelled p h = let l = lt_true (length p.defs) (2 ^ 16) (packet_bounds p h).few in omega (arith, l)

module _ (p : code_packet.Packet) (fits : fits_packet (packet_of p) ≡ true) where
  few_defs : length p.defs ≤ 65535
  few_defs = subst (λ n. n ≤ 65535) (length-map p.defs pdef_of) (few_spelled (packet_of p) fits)

  module _ (own : Env) (is : environment_of own ≡ alone sha256 (packet_of p).defs) where
    few_alone : length own.entries ≤ 65535
    few_alone = omega (arith, length-map own.entries entry_of, ap length is, many_alone [] (packet_of p).defs, length-map p.defs pdef_of, few_defs)

    pub few_own : length own.entries < 2 ^ 32
    few_own = omega (arith, few_alone)

    -- the definitions by themselves are those of the packet
    defs_own : defs_of (environment_of own) ≡ (packet_of p).defs
    defs_own = ap defs_of is ∙ defs_alone (packet_of p).defs

    pub own_fit : list_all (λ (e : Entry). fits_def e.def) (environment_of own) ≡ true
    own_fit = sym (list_all-map fits_def def_in (environment_of own)) ∙ ap (list_all fits_def) defs_own ∙ (packet_bounds (packet_of p) fits).defs

    -- the first that isn't well formed is the packet's first
    pub own_wrong : option_map Definition (first_wrong 0 (is_well_formed (environment_of own)) (defs_of (environment_of own))) ≡ ill_formed sha256 (packet_of p).defs
    own_wrong = ap (λ (X : Environment). option_map Definition (first_wrong 0 (is_well_formed X) (defs_of X))) is ∙ ap (λ (ds : List Def). option_map Definition (first_wrong 0 (is_well_formed (alone sha256 (packet_of p).defs)) ds)) (defs_alone (packet_of p).defs)

    -- what is spoken of is asked of them
    pub own_spoken : spoken_in (environment_of own) (defs_of (environment_of own)) (packet_of p) ≡ is_spoken (packet_of p)
    own_spoken = ap₂ (λ (X : Environment) (ds : List Def). spoken_in X ds (packet_of p)) is defs_own

    pub own_clash : (E : Environment) → first_clash sha256 (all_known E) 0 (all_known (environment_of own)) ≡ clash sha256 E (packet_of p).defs
    own_clash E = ap (λ (X : Environment). first_clash sha256 (all_known E) 0 (all_known X)) is

  module _ (env : Env) (coherent : IsCoherent (environment_of env)) where
    abbrev E : Environment
    E = environment_of env

    few_entries : length env.entries ≤ 65535
    few_entries = subst (λ n. n ≤ 65535) (length-map env.entries entry_of) coherent.few

    pub few_both : (own : Env) → environment_of own ≡ alone sha256 (packet_of p).defs → length env.entries + length own.entries < 2 ^ 32
    few_both own is = omega (arith, few_entries, few_alone own is)

    pub few_with_defs : length env.entries + length p.defs < 2 ^ 32
    few_with_defs = omega (arith, few_entries, few_defs)

    module _ (q : Placing) (placed : state_of E q ≡ places sha256 E (packet_of p).defs) where
      -- the entries with those that come
      pub many_come : length env.entries + length q.more ≡ length (places sha256 E (packet_of p).defs).0
      many_come = omega (arith, length-map env.entries entry_of, length-map q.more entry_of, length-append E (map entry_of q.more), ap (λ (s : Placed). length s.0) placed)

      pub few_in_all : length env.entries + length q.more < 2 ^ 32
      few_in_all = omega (arith, many_come, few_come E (packet_of p).defs, length-map env.entries entry_of, length-map p.defs pdef_of, few_entries, few_defs)

      pub few_places : length q.places < 2 ^ 32
      few_places = omega (arith, length-map q.places place_of, ap (λ (s : Placed). length s.1) placed, many_places E (packet_of p).defs, length-map p.defs pdef_of, few_defs)

      pub room_in_all : given (nat_lt 65535 (length env.entries + length q.more)) (Some (Full (length env.entries + length q.more))) ≡ too_many sha256 E (packet_of p).defs
      room_in_all = ap (λ n. given (nat_lt 65535 n) (Some (Full n))) many_come

      first_unlinked : position (λ (x : code_place.Place). x.unresolved) q.places ≡ first_failing (is_resolved sha256 E) (packet_of p).defs
      first_unlinked = sym (position-map place_of (λ (x : Place). x.unresolved) (λ (x : code_place.Place). x.unresolved) (λ x. refl) q.places) ∙ ap (λ (s : Placed). position (λ (x : Place). x.unresolved) s.1) placed ∙ first_open E (packet_of p).defs

      pub none_unlinked : option_map Unresolved (position (λ (x : code_place.Place). x.unresolved) q.places) ≡ unresolved sha256 E (packet_of p).defs
      none_unlinked = ap (option_map Unresolved) first_unlinked
