use Rattle.std.proofs.Common.{◌≡◌, take, map}
use Rattle.ac_types.specs.ReadTypes.{typ_of}
use Rattle.ac_terms.specs.Read.{bytes_of, environment_of}
use Rattle.ac_audit.specs.FrameVerdicts.{HaveVerdicts}
use Rattle.ac_audit.proofs.pieces.verdicts_in_turn.Given as goal

abbrev pub invariant-loop-frame : goal.invariant-loop-frame
invariant-loop-frame l = record {
  same : environment_of l.env ≡ environment_of l.initial.env;
  read : HaveVerdicts (environment_of l.initial.env) (typ_of l.expected) (map bytes_of (take l.frame-index l.frames)) l.all;
}
