use Rattle.std.proofs.Common.{◌≡◌, ◌∙◌, sym, ap, ◌<◌, ℕ, length, take, arith, add-one}
use Rattle.std.specs.Prelude.{option_map}
use Rattle.std.proofs.lemmas.List.{length-map}
use Rattle.ac_terms.specs.Read.{environment_of, entry_of, name_of_code}
use Rattle.ac_admit_clashes.specs.inner.Known.{all_known, known_at, known_of, name_found}
use Rattle.ac_admit_clashes.proofs.KnownLaws.{none_found}
use Rattle.ac_admit_clashes.proofs.ClashLaws.{found_next, entries_taken, entries_next, entries_all}
use Rattle.ac_admit_clashes.proofs.known.names_of.Goals as goal

pub loop-i-init : goal.loop-i-init
loop-i-init c = λ n. none_found c.new-names.result c.new-names.ensures.empty n

pub loop-i-preserved : goal.loop-i-preserved
loop-i-preserved c =
    let E = environment_of c.args.env.now in
    let i : ℕ = c.loop-i.i in
    let many : length E ≡ length c.args.env.now.entries = length-map c.args.env.now.entries entry_of in
    let l : i < length E = omega (arith, many) in
    λ n. found_next (take i (all_known E)) (known_of E i) i (entries_taken E i l) (name_found c.loop-i.names) (name_found c.note.new.names) c.loop-i.invariant
    (option_map name_of_code c.texted_name.result) c.texted_name.ensures c.in_ok-note.ensures n
    ∙ ap (λ ks. known_at ks n) (sym (entries_next E i l)) ∙ ap (λ m. known_at (take m (all_known E)) n) (sym (add-one i))

pub returns : goal.returns
returns c =
    let E = environment_of c.args.env.now in
    let many : length E ≡ length c.args.env.now.entries = length-map c.args.env.now.entries entry_of in
    let all : c.loop-i.i ≡ length E = omega (arith, many) in
    λ n. c.loop-i.invariant n ∙ ap (λ ks. known_at ks n) (entries_all E c.loop-i.i all)
