use Rattle.std.proofs.Common.{◌≡◌, drop}
use Rattle.std.specs.Vec.{vec_len}
use Rattle.ac_syntax.specs.Programs.{VTokens}
use Rattle.ac_syntax.specs.ReadSigns.{read_signs}
use Rattle.ac_parser.proofs.versions.vtokens.Given as goal

abbrev pub invariant-loop-sign : goal.invariant-loop-sign
invariant-loop-sign l = record {
  read : VTokens (read_signs l.signs) l.tokens.items (read_signs (drop l.sign-index l.signs));
  count : vec_len l.tokens ≡ l.sign-index;
}
