-- How long the lists of a definition within its bounds are.
use Rattle.std.proofs.Common.{◌≡◌, ◌+◌, ◌<◌, ◌≤◌, ◌^◌, true, length, map, subst}
use native.Mathlib.Omega.{arith}
use Rattle.std.proofs.lemmas.List.{length-map}
use Rattle.ac_types.proofs.Same.{both_true}
use Rattle.ac_types.specs.declared.sig.Sig as code_sig
use Rattle.ac_types.specs.ReadTypes.{sig_of, sig_type_of, typed_of}
use Rattle.ac_terms.specs.declared.def.Module as code_module
use Rattle.ac_terms.specs.declared.def.Import as code_import
use Rattle.ac_terms.specs.Defs.{AModule, AnImport}
use Rattle.ac_terms.specs.Bounds.{fits_def, fits_sig}
use Rattle.ac_terms.specs.Read.{module_of_code, import_of_code, field_of}
use Rattle.ac_terms.proofs.BoundsLaws.{module_bounds, import_bounds}
use Rattle.ac_terms.proofs.TestLaws.{le_true}

pub few_specs : (s : code_sig.Sig) → fits_sig (sig_of s) ≡ true → length s.types + length s.vals ≤ 2048
few_specs s h =
    let a = both_true _ _ (both_true _ _ (both_true _ _ h).0).0 in
    let types : length s.types ≤ 1024 = subst (λ n. n ≤ 1024) (length-map s.types sig_type_of) (le_true (length (map sig_type_of s.types)) 1024 a.0) in
    let vals : length s.vals ≤ 1024 = subst (λ n. n ≤ 1024) (length-map s.vals typed_of) (le_true (length (map typed_of s.vals)) 1024 a.1) in
    omega (arith, types, vals)

pub module_specs : (m : code_module.Module) → fits_def (AModule (module_of_code m)) ≡ true → length m.sig.types + length m.sig.vals < 2 ^ 32
module_specs m h = let a = few_specs m.sig (module_bounds (module_of_code m) h).sig in omega (arith, a)

pub module_fields : (m : code_module.Module) → fits_def (AModule (module_of_code m)) ≡ true → length m.fields < 2 ^ 32
module_fields m h =
    let a : length m.fields ≤ 1024 = subst (λ n. n ≤ 1024) (length-map m.fields field_of) (le_true (length (map field_of m.fields)) 1024 (module_bounds (module_of_code m) h).few_fields) in
    omega (arith, a)

pub import_types : (i : code_import.Import) → fits_def (AnImport (import_of_code i)) ≡ true → length i.sig.types < 2 ^ 32
import_types i h = let a = few_specs i.sig (import_bounds (import_of_code i) h).sig in omega (arith, a)

pub ruleset module_lists = (module_specs, module_fields)
