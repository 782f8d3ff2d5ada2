use Rattle.std.proofs.Common.{◌≡◌, ◌&&◌, drop, map}
use Rattle.std.specs.List.{list_all}
use Rattle.ac_terms.specs.Defs.{Field}
use Rattle.ac_terms.specs.Parts.{OfType, term_parts}
use Rattle.ac_terms.specs.Read.{field_of}
use Rattle.ac_terms_renumber.proofs.defs.fields_pass.Given as goal

abbrev pub invariant-loop-f : goal.invariant-loop-f
invariant-loop-f g l =
    let p = λ (f : Field). g.T.Test.passes l.test (OfType f.ty) && list_all (g.T.Test.passes l.test) (term_parts f.term) in
    list_all p (map field_of l.fields) ≡ list_all p (map field_of (drop l.f-index l.fields))
