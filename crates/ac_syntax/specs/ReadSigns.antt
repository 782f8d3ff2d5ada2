-- The signs of the code as those of the definitions.
use Rattle.std.specs.Prelude.{ℕ, List, map}
use Rattle.std.specs.Borrow.{Bor}
use Rattle.ac_types.specs.Types.{Bytes}
use Rattle.ac_syntax.specs.declared.sign.Symbol.{Symbol}
use Rattle.ac_syntax.specs.Signs.{Sign, Int, Str, Lower, Upper, Fixed, Other}
use Rattle.ac_syntax.specs.declared.sign.Sign as code
use Rattle.ac_syntax.specs.declared.sign.SignKind.{SignKind}
use Rattle.ac_syntax.specs.declared.sign.SignKind.TheVariants as kind

abbrev pub spelling_of : Bor (List ℕ) × Symbol → Bytes × Symbol
spelling_of entry = (entry.0.now, entry.1)

abbrev pub read_kind : ℕ → SignKind → Sign
read_kind at (kind.Int n) = Int at n
read_kind at (kind.Str text) = Str at text.now.0
read_kind at (kind.Lower word) = Lower at word.now
read_kind at (kind.Upper word) = Upper at word.now
read_kind at (kind.Fixed symbol) = Fixed at symbol
read_kind at kind.Other = Other at

abbrev pub read_sign : code.Sign → Sign
read_sign sign = read_kind sign.at sign.kind

abbrev pub read_signs : List code.Sign → List Sign
read_signs signs = map read_sign signs
