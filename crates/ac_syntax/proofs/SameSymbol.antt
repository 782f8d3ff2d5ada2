-- Symbols that the code finds equal are equal.
use Rattle.std.proofs.Common.{◌≡◌, true}
use denote.Enum.Bare.{sameb, same_true}
use Rattle.ac_syntax.specs.contracts.sign.Symbol.{the_type}
use Rattle.ac_syntax.specs.declared.sign.Symbol.{Symbol}

pub same_symbol : (a b : Symbol) → sameb the_type a b ≡ true → a ≡ b
same_symbol a b e = same_true the_type tt a b e
