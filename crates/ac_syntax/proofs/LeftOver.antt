-- What a type or a signature leaves is an end of the signs: the number of the token behind it says which.
use Rattle.std.proofs.Common.{◌≡◌, ◌+◌, ◌-◌, ℕ, List, [], ◌∷◌, ◌++◌, length, take, drop, refl, sym, ◌∙◌, ap, subst, append_assoc, length-append, arith}
use Rattle.std.proofs.lemmas.List.{drop-map, take-append-drop, length-map}
use Rattle.std.proofs.Math.Seq.{drop-append_seam}
use Rattle.ac_syntax.specs.Signs.{Sign}
use Rattle.ac_syntax.specs.Trees.{TypeTree, TypeTrees, SpecTree, SigTree}
use Rattle.ac_syntax.specs.TypeForms.{TypeLevel, Whole, ParsesType, ParsesFactors, no_arrow, arrow, one_factor, factors, suffixed, no_suffix, list_of, option_of, int, bool, string, unit, exn, local, of_module, parens, last_factor, more_factors, IsType}
use Rattle.ac_syntax.specs.Programs.{ParsesSpecs, no_specs, abstract_type, manifest_type, value, IsSig, sig}
use Rattle.ac_syntax.specs.PartParsing.{NoType, NoSig}
use Rattle.ac_syntax.specs.ReadSigns.{read_sign, read_signs}
use Rattle.ac_syntax.specs.declared.sign.Sign as code

-- the second signs are an end of the first
record EndOf (ts r : List Sign) : Type 0 where
  taken : List Sign
  is : ts ≡ taken ++ r

here : {r : List Sign} → EndOf r r
here = record { taken = []; is = refl }

behind : {t : Sign} {ts r : List Sign} → EndOf ts r → EndOf (t ∷ ts) r
behind {t = t} e = record { taken = t ∷ e.taken; is = ap (λ (l : List Sign). t ∷ l) e.is }

-- behind a front comes a sign and then an end
on : {t : Sign} {ts r s : List Sign} → EndOf ts (t ∷ r) → EndOf r s → EndOf ts s
on {t = t} {s = s} e f = record {
  taken = e.taken ++ t ∷ f.taken;
  is = e.is ∙ ap (λ (l : List Sign). e.taken ++ t ∷ l) f.is ∙ sym (append_assoc e.taken (t ∷ f.taken) s);
}

then : {ts r s : List Sign} → EndOf ts r → EndOf r s → EndOf ts s
then {s = s} e f = record { taken = e.taken ++ f.taken; is = e.is ∙ ap (λ (l : List Sign). e.taken ++ l) f.is ∙ sym (append_assoc e.taken f.taken s) }

mutual
  type_end : {l : TypeLevel} {ts r : List Sign} {t : TypeTree} → ParsesType l ts t r → EndOf ts r
  type_end (no_arrow p) = type_end p
  type_end (arrow p q) = on (type_end p) (type_end q)
  type_end (one_factor p) = type_end p
  type_end (factors p q) = on (type_end p) (factors_end q)
  type_end (suffixed p q) = then (type_end p) (type_end q)
  type_end no_suffix = here
  type_end (list_of p) = behind (type_end p)
  type_end (option_of p) = behind (type_end p)
  type_end int = behind here
  type_end bool = behind here
  type_end string = behind here
  type_end unit = behind here
  type_end exn = behind here
  type_end local = behind here
  type_end of_module = behind (behind (behind here))
  type_end (parens p) = behind (on (type_end p) here)

  factors_end : {ts r : List Sign} {us : TypeTrees} → ParsesFactors ts us r → EndOf ts r
  factors_end (last_factor p) = type_end p
  factors_end (more_factors p q) = on (type_end p) (factors_end q)

specs_end : {ts r : List Sign} {specs : List SpecTree} → ParsesSpecs ts specs r → EndOf ts r
specs_end no_specs = behind here
specs_end (abstract_type p) = behind (behind (specs_end p))
specs_end (manifest_type T p) = behind (behind (behind (then (type_end T.parses) (specs_end p))))
specs_end (value T p) = behind (behind (behind (then (type_end T.parses) (specs_end p))))

sig_end : {ts r : List Sign} {σ : SigTree} → IsSig ts σ r → EndOf ts r
sig_end (sig p) = behind (specs_end p)

end_at : (all rest : List Sign) (start n : ℕ) → EndOf (drop start all) rest → n ≡ length all - length rest → drop n all ≡ rest
end_at all rest start n e is =
    let whole : all ≡ (take start all ++ e.taken) ++ rest = sym (take-append-drop start all) ∙ ap (λ (l : List Sign). take start all ++ l) e.is ∙ sym (append_assoc (take start all) e.taken rest) in
    let lengths : length all ≡ length (take start all ++ e.taken) + length rest = ap length whole ∙ length-append (take start all ++ e.taken) rest in
    let number : n ≡ length (take start all ++ e.taken) = omega arith in
    ap (λ (l : List Sign). drop n l) whole ∙ ap (λ (m : ℕ). drop m ((take start all ++ e.taken) ++ rest)) number ∙ drop-append_seam (take start all ++ e.taken) rest

module _ (items front : List code.Sign) (all : List Sign) (from : ℕ) (read : read_signs items ≡ all) (is : front ≡ drop from items) where
  at_start : read_signs front ≡ drop from all
  at_start = ap read_signs is ∙ sym (drop-map read_sign from items) ∙ ap (λ (l : List Sign). drop from l) read

  lengths : length items ≡ length all
  lengths = sym (length-map items read_sign) ∙ ap length read

  module _ (rest : List code.Sign) (n : ℕ) (number : n ≡ length items - length rest) where
    at_rest : EndOf (read_signs front) (read_signs rest) → drop n all ≡ read_signs rest
    at_rest e = end_at all (read_signs rest) from n (subst (λ (l : List Sign). EndOf l (read_signs rest)) at_start e) (omega (arith, lengths, length-map rest read_sign))

    pub type_number : (t : TypeTree) → IsType (read_signs front) t (read_signs rest) → IsType (drop from all) t (drop n all)
    type_number t o =
        subst (λ (l : List Sign). IsType l t (drop n all)) at_start (subst (λ (r : List Sign). IsType (read_signs front) t r) (sym (at_rest (type_end o.parses))) o)

    pub sig_number : (σ : SigTree) → IsSig (read_signs front) σ (read_signs rest) → IsSig (drop from all) σ (drop n all)
    sig_number σ o =
        subst (λ (l : List Sign). IsSig l σ (drop n all)) at_start (subst (λ (r : List Sign). IsSig (read_signs front) σ r) (sym (at_rest (sig_end o))) o)

  pub no_type_there : NoType 100 Whole (read_signs front) → NoType 100 Whole (drop from all)
  no_type_there none = subst (λ (l : List Sign). NoType 100 Whole l) at_start none

  pub no_sig_there : NoSig (read_signs front) → NoSig (drop from all)
  no_sig_there none = subst (λ (l : List Sign). NoSig l) at_start none
