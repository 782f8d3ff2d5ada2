-- Which entries an import may link to, by where they come from.
use Rattle.std.specs.Prelude.{ℕ, Bool, ◌&&◌, is_none, true, false, slice_get}
use Rattle.std.specs.Option.{option_map_or}
use Rattle.ac_types.specs.Sigs.{Resolve, HereAlready}
use Rattle.ac_terms.specs.Defs.{Environment, Entry, Import, Seen}
use Rattle.ac_rules.specs.Links.{is_own, has_arrived, has_uri, link_fault}
use Rattle.ac_link.specs.declared.resolving.Origin.{Origin}
use Rattle.ac_link.specs.declared.resolving.Origin.TheVariants as origin

-- which entries have an origin
abbrev pub comes_from : Origin → Seen → Bool
comes_from origin.Own s = is_own s
comes_from (origin.Shelf uri) s = has_uri uri.now.0 s
comes_from origin.Arrived s = has_arrived s

-- an entry of a kind to which an import may link
abbrev pub is_candidate : (Seen → Bool) → Environment → Import → ℕ → Bool
is_candidate kind E i j = option_map_or (λ (e : Entry). kind e.seen) (slice_get E j) false && is_none (link_fault E i j)

-- whether entry j has arrived
abbrev pub arrived_at : Environment → ℕ → Bool
arrived_at E j = option_map_or (λ (e : Entry). has_arrived e.seen) (slice_get E j) false

-- the place among what is there
abbrev pub is_here : Resolve → Bool
is_here HereAlready = true
is_here _ = false
