-- What writing some parts comes to.
use Rattle.std.specs.Prelude.{◌≡◌, ◌+◌, List, [], ◌∷◌, ◌++◌, length, Option, Some, None, Result, MatchResult}
use Rattle.ac_types.specs.Limits.{longest_packet, deepest_nesting}
use Rattle.ac_types.specs.Types.{Bytes}
use Rattle.ac_terms.specs.Heads.{Head}
use Rattle.ac_rules.specs.Faults.{Fault, Depth, Function, Size, part_fault}
use Rattle.ac_pack_heads.specs.declared.stop.Stop.{Stop}
use Rattle.ac_pack_heads.specs.declared.stop.Stop.TheVariants as stop

-- all are written, or a fault stops
pub data WalkEnd : Type 0 where
  On : Bytes → WalkEnd
  Stopped : Fault → WalkEnd

-- the outcome, unless there is a fault already
abbrev pub unless_fault : Option Fault → WalkEnd → WalkEnd
unless_fault None o = o
unless_fault (Some f) o = Stopped f

-- these bytes with those of some parts behind them, up to the first part that fails
unfoldable pub walk_end : Bytes → List Head → WalkEnd
walk_end bs [] = On bs
walk_end bs (h ∷ hs) = unless_fault (part_fault deepest_nesting longest_packet (length bs + length h.bytes) h) (walk_end (bs ++ h.bytes) hs)

-- the fault at which a walk stops; want of memory is none
abbrev pub fault_in : Stop → Option Fault
fault_in stop.Depth = Some Depth
fault_in stop.Function = Some Function
fault_in stop.Size = Some Size
fault_in stop.Memory = None

-- where a walk stops at a fault, it stops there whatever comes behind these heads
abbrev pub StopsWalk : Stop → Bytes → List Head → Type 0
StopsWalk e bs hs = (f : Fault) → fault_in e ≡ Some f → (ks : List Head) → walk_end bs (hs ++ ks) ≡ Stopped f

-- the head is written, or the walk stops in it
abbrev pub Puts : Result Unit Stop → Head → Bytes → Bytes → Type 0
Puts r h old new = MatchResult r (λ _. (hs : List Head) → walk_end new hs ≡ walk_end old (h ∷ hs)) (λ e. StopsWalk e old (h ∷ []))
