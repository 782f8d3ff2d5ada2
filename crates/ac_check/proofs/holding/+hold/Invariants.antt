use Rattle.std.proofs.Common.{◌≡◌, length, drop, map, false}
use Rattle.ac_types.specs.ReadTypes.{typ_of}
use Rattle.ac_terms.specs.Terms.{exprs, arms, pvalues}
use Rattle.ac_terms.specs.Read.{environment_of, expr_of, arm_of, value_of}
use Rattle.ac_rules.specs.Views.{Coloured}
use Rattle.ac_rules.specs.Typing.{all_hold, each_holds}
use Rattle.ac_check_views.specs.Sites.{typs_of}
use Rattle.ac_check.specs.inner.Captured.{all_captured_hold, arms_captured_hold}
use Rattle.ac_check.specs.inner.Heads.{AreHeads}
use Rattle.ac_check.proofs.holding.+hold.Given as goal

abbrev pub invariant-all_captured_hold-loop-t : goal.invariant-all_captured_hold-loop-t
invariant-all_captured_hold-loop-t l = record {
  heads : AreHeads (environment_of l.env) l.heads;
  left : all_captured_hold (environment_of l.env) (exprs (map expr_of l.terms)) ≡ all_captured_hold (environment_of l.env) (exprs (map expr_of (drop l.t-index l.terms)));
}

abbrev pub invariant-arms_captured_hold-loop-arm : goal.invariant-arms_captured_hold-loop-arm
invariant-arms_captured_hold-loop-arm l = record {
  heads : AreHeads (environment_of l.env) l.heads;
  left : arms_captured_hold (environment_of l.env) (arms (map arm_of l.cases)) ≡ arms_captured_hold (environment_of l.env) (arms (map arm_of (drop l.arm-index l.cases)));
}

abbrev pub invariant-all_hold-loop-i : goal.invariant-all_hold-loop-i
invariant-all_hold-loop-i l = record {
  heads : AreHeads (environment_of l.env) l.heads;
  lengths : length l.vs ≡ length l.tys;
  left :
      all_hold Coloured false (environment_of l.env) (pvalues (map value_of l.vs)) (typs_of l.tys)
      ≡ all_hold Coloured false (environment_of l.env) (pvalues (map value_of (drop l.i l.vs))) (typs_of (drop l.i l.tys));
}

abbrev pub invariant-each_holds-loop-v : goal.invariant-each_holds-loop-v
invariant-each_holds-loop-v l = record {
  heads : AreHeads (environment_of l.env) l.heads;
  left :
      each_holds Coloured false (environment_of l.env) (pvalues (map value_of l.vs)) (typ_of l.ty)
      ≡ each_holds Coloured false (environment_of l.env) (pvalues (map value_of (drop l.v-index l.vs))) (typ_of l.ty);
}
