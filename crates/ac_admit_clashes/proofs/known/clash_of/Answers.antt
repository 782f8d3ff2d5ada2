use Rattle.std.proofs.Common.{◌≡◌, ◌∙◌, sym, ap, ℕ, Option, Some}
use Rattle.std.specs.Prelude.{option_map, is_some, IsSome}
use Rattle.ac_types.specs.Partial.{given}
use Rattle.ac_types.specs.Types.{Bytes}
use Rattle.ac_terms.specs.Read.{environment_of, name_of_code}
use Rattle.ac_admit_clashes.specs.inner.Known.{known_at, known_before, known_of, texted}
use Rattle.ac_admit_clashes.proofs.ClashLaws.{no_clash, answered, unknown, found_there, text_is}
use Rattle.ac_admit_clashes.proofs.known.clash_of.Goals as goal

is_there : (o : Option Bytes) (t : Bytes) → o ≡ Some t → IsSome o
is_there o t e = ap is_some e

pub returns-in_default : goal.returns-in_default
returns-in_default c =
    let E = environment_of c.args.env.now in
    let A = environment_of c.args.alone.now in
    sym (no_clash (known_before E A c.args.i) (known_of A c.args.i) (sym c.texted_name.ensures ∙ ap (option_map name_of_code) c.in_default.is))

pub differs-requires-clause-other : goal.differs-requires-clause-other
differs-requires-clause-other c =
    let E = environment_of c.args.env.now in
    let A = environment_of c.args.alone.now in
    let n = c.in-Some.name.0 in
    let at : known_at (known_before E A c.args.i) n ≡ Some c.in-Some-found.known = sym (c.requires.found n) ∙ sym c.found.ensures ∙ c.in-Some-found.is in
    let f = found_there (known_before E A c.args.i) n c.in-Some-found.known at in
    is_there _ f.text (text_is E A c.args.i c.in-Some-found.known f.what f.there ∙ f.texts)

pub returns-in-None : goal.returns-in-None
returns-in-None c =
    let E = environment_of c.args.env.now in
    let A = environment_of c.args.alone.now in
    let n = c.in-Some.name.0 in
    let is : texted (known_of A c.args.i) ≡ Some n = sym c.texted_name.ensures ∙ ap (option_map name_of_code) c.in-Some.is in
    sym (unknown E A c.args.i c.requires.one n is (sym (c.requires.found n) ∙ sym c.found.ensures ∙ c.in-None.is))

pub returns-then-branch : goal.returns-then-branch
returns-then-branch c =
    let E = environment_of c.args.env.now in
    let A = environment_of c.args.alone.now in
    let n = c.in-Some.name.0 in
    let k : ℕ = c.in-Some-found.known in
    let is : texted (known_of A c.args.i) ≡ Some n = sym c.texted_name.ensures ∙ ap (option_map name_of_code) c.in-Some.is in
    let at : known_at (known_before E A c.args.i) n ≡ Some k = sym (c.requires.found n) ∙ sym c.found.ensures ∙ c.in-Some-found.is in
    sym (answered E A c.args.i c.requires.one n is k at ∙ ap (λ d. given d (Some k)) (sym c.in_ok-differs-in-Some-found.ensures ∙ c.if-branch.true))

pub returns-else-branch : goal.returns-else-branch
returns-else-branch c =
    let E = environment_of c.args.env.now in
    let A = environment_of c.args.alone.now in
    let n = c.in-Some.name.0 in
    let k : ℕ = c.in-Some-found.known in
    let is : texted (known_of A c.args.i) ≡ Some n = sym c.texted_name.ensures ∙ ap (option_map name_of_code) c.in-Some.is in
    let at : known_at (known_before E A c.args.i) n ≡ Some k = sym (c.requires.found n) ∙ sym c.found.ensures ∙ c.in-Some-found.is in
    sym (answered E A c.args.i c.requires.one n is k at ∙ ap (λ d. given d (Some k)) (sym c.in_ok-differs-in-Some-found.ensures ∙ c.if-branch.false))
