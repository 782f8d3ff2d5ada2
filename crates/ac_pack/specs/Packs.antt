-- What packing answers.
use Rattle.std.specs.Prelude.{◌≡◌, Result, Ok, Err}
use Rattle.ac_types.specs.declared.text.Text.{Text}
use Rattle.ac_rules.specs.Faults.{Marshalled, NoString, AString, NoMark, Depth, Function, Size}
use Rattle.ac_pack.specs.declared.packing.PackFault.{PackFault}
use Rattle.ac_pack.specs.declared.packing.PackFault.TheVariants as fault

-- the string that there is, or the fault for which there is none; want of memory says nothing
abbrev pub Packed : Marshalled → Result Text PackFault → Type 0
Packed m (Ok s) = m ≡ AString s.0
Packed m (Err fault.Mark) = m ≡ NoString NoMark
Packed m (Err fault.Function) = m ≡ NoString Function
Packed m (Err fault.Depth) = m ≡ NoString Depth
Packed m (Err fault.Size) = m ≡ NoString Size
Packed m (Err fault.Memory) = Unit {0}
