use Rattle.std.proofs.Common.{◌≡◌, drop, map}
use Rattle.std.specs.List.{list_all}
use Rattle.ac_types.specs.Sigs.{Typed_name}
use Rattle.ac_types.specs.ReadTypes.{typed_of}
use Rattle.ac_terms.specs.Parts.{OfType}
use Rattle.ac_terms_renumber.proofs.defs.typed_pass.Given as goal

abbrev pub invariant-loop-t : goal.invariant-loop-t
invariant-loop-t g l =
    let p = λ (t : Typed_name). g.T.Test.passes l.test (OfType t.ty) in
    list_all p (map typed_of l.typed) ≡ list_all p (map typed_of (drop l.t-index l.typed))
