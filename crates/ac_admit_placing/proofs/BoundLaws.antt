-- How long the signature of an import within its bounds is.
use Rattle.std.proofs.Common.{◌≡◌, ◌+◌, ◌<◌, ◌≤◌, ◌^◌, true, length, map, subst}
use native.Mathlib.Omega.{arith}
use Rattle.std.proofs.lemmas.List.{length-map}
use Rattle.ac_types.proofs.Same.{both_true}
use Rattle.ac_types.specs.ReadTypes.{sig_type_of, typed_of}
use Rattle.ac_terms.specs.declared.def.Import as code
use Rattle.ac_terms.specs.Defs.{AnImport}
use Rattle.ac_terms.specs.Bounds.{fits_def}
use Rattle.ac_terms.specs.Read.{import_of_code}
use Rattle.ac_terms.proofs.BoundsLaws.{import_bounds}
use Rattle.ac_terms.proofs.TestLaws.{le_true}

pub few_specs : (i : code.Import) → fits_def (AnImport (import_of_code i)) ≡ true → length i.sig.types + length i.sig.vals < 2 ^ 32
few_specs i h =
    let a = both_true _ _ (both_true _ _ (both_true _ _ (import_bounds (import_of_code i) h).sig).0).0 in
    let types : length i.sig.types ≤ 1024 = subst (λ n. n ≤ 1024) (length-map i.sig.types sig_type_of) (le_true (length (map sig_type_of i.sig.types)) 1024 a.0) in
    let vals : length i.sig.vals ≤ 1024 = subst (λ n. n ≤ 1024) (length-map i.sig.vals typed_of) (le_true (length (map typed_of i.sig.vals)) 1024 a.1) in
    omega (arith, types, vals)
