use Rattle.std.proofs.Common.{◌≡◌, ◌++◌, drop}
use Rattle.std.specs.Prelude.{flat_map}
use Rattle.ac_chain.specs.StringLines.{native_line}
use Rattle.ac_chain.proofs.printing.put_natives.Given as goal

abbrev pub invariant-loop-is_native : goal.invariant-loop-is_native
invariant-loop-is_native l = l.fn.text.0 ++ flat_map native_line l.native ≡ l.text.0 ++ flat_map native_line (drop l.is_native-index l.native)
