use Rattle.std.proofs.Common.{◌≡◌, ◌∙◌, ◌+◌, sym, ap, ◌<◌, ℕ, suc, length, drop, subst, arith, add-one, None}
use Rattle.std.specs.Prelude.{option_map, position}
use Rattle.std.proofs.lemmas.List.{length-map}
use Rattle.sha2.specs.Sha256.{sha256}
use Rattle.ac_terms.specs.Read.{environment_of, entry_of, name_of_code}
use Rattle.ac_rules.specs.Packets.{clashes, first_clash}
use Rattle.ac_admit_clashes.specs.inner.Known.{all_known, known_at, known_before, known_of, name_found, HasOneText}
use Rattle.ac_admit_clashes.proofs.ClashLaws.{found_next, before_first, before_next, many_before, step_on, step_found, step_text, coherent_known, nothing_left}
use Rattle.ac_admit_clashes.proofs.known.clash.Goals as goal

pub loop-i-init : goal.loop-i-init
loop-i-init c =
    let E = environment_of c.args.env.now in
    let A = environment_of c.args.alone.now in
    record {
      found = λ n. c.in_ok-names.ensures n ∙ ap (λ ks. known_at ks n) (sym (before_first E A));
      one = subst HasOneText (sym (before_first E A)) (coherent_known E c.requires.coherent);
      left = ap (λ ks. first_clash sha256 ks 0 (all_known A)) (sym (before_first E A));
    }

pub returns-in-Some : goal.returns-in-Some
returns-in-Some c =
    let E = environment_of c.args.env.now in
    let A = environment_of c.args.alone.now in
    let i : ℕ = c.loop-i.i in
    let many : length A ≡ length c.args.alone.now.entries = length-map c.args.alone.now.entries entry_of in
    let l : i < length A = omega (arith, many) in
    sym (c.loop-i.invariant.left ∙ step_found E A i l c.in-Some.j (sym c.in_ok-j.ensures ∙ c.in-Some.is))

pub loop-i-preserved : goal.loop-i-preserved
loop-i-preserved c =
    let E = environment_of c.args.env.now in
    let A = environment_of c.args.alone.now in
    let i : ℕ = c.loop-i.i in
    let many : length A ≡ length c.args.alone.now.entries = length-map c.args.alone.now.entries entry_of in
    let entries : length E ≡ length c.args.env.now.entries = length-map c.args.env.now.entries entry_of in
    let l : i < length A = omega (arith, many) in
    let none : position (clashes sha256 (known_of A i)) (known_before E A i) ≡ None = sym c.in_ok-j.ensures ∙ c.in_default.is in
    let next : suc i ≡ i + 1 = sym (add-one i) in
    let k : ℕ = c.len-many.result + i in
    let counted : length (known_before E A i) ≡ k = many_before E A i l ∙ omega (arith, entries) in
    record {
      found = λ n. found_next (known_before E A i) (known_of A i) k counted (name_found c.loop-i.names) (name_found c.note.new.names) c.loop-i.invariant.found
          (option_map name_of_code c.texted_name.result) c.texted_name.ensures c.in_ok-note.ensures n
          ∙ ap (λ ks. known_at ks n) (sym (before_next E A i l)) ∙ ap (λ m. known_at (known_before E A m) n) next;
      one = subst (λ m. HasOneText (known_before E A m)) next (step_text E A i l c.loop-i.invariant.one none);
      left = c.loop-i.invariant.left ∙ step_on E A i l none ∙ ap (λ m. first_clash sha256 (known_before E A m) m (drop m (all_known A))) next;
    }

pub returns : goal.returns
returns c =
    let E = environment_of c.args.env.now in
    let A = environment_of c.args.alone.now in
    let many : length A ≡ length c.args.alone.now.entries = length-map c.args.alone.now.entries entry_of in
    let all : c.loop-i.i ≡ length A = omega (arith, many) in
    sym (c.loop-i.invariant.left ∙ nothing_left (known_before E A c.loop-i.i) A c.loop-i.i all)
