use Rattle.std.proofs.Common.{◌≡◌, ◌∙◌, ◌+◌, sym, ap, ℕ, length, map, drop, true, ◌∷◌, List, arith}
use Rattle.std.specs.List.{list_all}
use Rattle.std.proofs.lemmas.List.{drop_all}
use Rattle.sha2.specs.Sha256.{sha256}
use Rattle.ac_types.proofs.Same.{both_true}
use Rattle.ac_terms.specs.declared.def.PDef as code
use Rattle.ac_terms.specs.Bounds.{fits_def}
use Rattle.ac_terms.specs.Read.{environment_of, pdef_of}
use Rattle.ac_rules.specs.Packets.{place_all, places}
use Rattle.ac_admit_placing.specs.Placed.{state_of}
use Rattle.ac_admit_placing.proofs.FindLaws.{left_next}
use Rattle.ac_admit_placing.proofs.StateLaws.{state_first, numbers_of}
use Rattle.ac_admit_placing.proofs.placing.placed.Goals as goal

pub loop-def-init : goal.loop-def-init
loop-def-init c =
    let E = environment_of c.args.env.now in
    let ds = map pdef_of c.args.defs.now in
    record {
      sound = c.in_ok-placing.ensures.sound;
      many = ap length c.in_ok-placing.ensures.empty.0;
      fits = c.requires.fits;
      left = ap (λ s. place_all sha256 E s ds) (state_first E c.in_ok-placing.placing c.in_ok-placing.ensures.empty.0 c.in_ok-placing.ensures.empty.1);
    }

fit_next : (i : ℕ) (ds : List code.PDef) (d : code.PDef) → drop i ds ≡ d ∷ drop (i + 1) ds → list_all fits_def (map pdef_of (drop i ds)) ≡ true → (fits_def (pdef_of d) ≡ true) × (list_all fits_def (map pdef_of (drop (i + 1) ds)) ≡ true)
fit_next i ds d e h = both_true (fits_def (pdef_of d)) (list_all fits_def (map pdef_of (drop (i + 1) ds))) (ap (λ xs. list_all fits_def (map pdef_of xs)) (sym e) ∙ h)

pub place-requires-clause-fits : goal.place-requires-clause-fits
place-requires-clause-fits c =
    let ds = c.args.defs.now in
    let i : ℕ = c.loop-def.def-index in
    let d = c.def-item.result in
    (fit_next i ds d (left_next i ds d c.loop-def-test.true c.def-item.is) c.loop-def.invariant.fits).0

pub loop-def-preserved : goal.loop-def-preserved
loop-def-preserved c =
    let E = environment_of c.args.env.now in
    let ds = c.args.defs.now in
    let i : ℕ = c.loop-def.def-index in
    let d = c.def-item.result in
    let next : drop i ds ≡ d ∷ drop (i + 1) ds = left_next i ds d c.loop-def-test.true c.def-item.is in
    let before : length c.loop-def.placing.places ≡ i = c.loop-def.invariant.many in
    record {
      sound = c.in_ok-place.ensures.sound;
      many = c.in_ok-place.ensures.many ∙ ap (λ n. n + 1) before;
      fits = (fit_next i ds d next c.loop-def.invariant.fits).1;
      left = ap (λ s. place_all sha256 E s (map pdef_of (drop (i + 1) ds))) c.in_ok-place.ensures.placed
          ∙ ap (λ xs. place_all sha256 E (state_of E c.loop-def.placing) (map pdef_of xs)) (sym next) ∙ c.loop-def.invariant.left;
    }

pub returns-clause-placed : goal.returns-clause-placed
returns-clause-placed c =
    let E = environment_of c.args.env.now in
    let ds = c.args.defs.now in
    ap (λ xs. place_all sha256 E (state_of E c.loop-def.placing) (map pdef_of xs)) (sym (drop_all c.loop-def.def-index ds c.loop-def-test.false)) ∙ c.loop-def.invariant.left

pub returns-clause-numbers : goal.returns-clause-numbers
returns-clause-numbers c =
    let E = environment_of c.args.env.now in
    let ds = c.args.defs.now in
    numbers_of E c.loop-def.placing (places sha256 E (map pdef_of ds)) c.loop-def.invariant.sound
    (ap (λ xs. place_all sha256 E (state_of E c.loop-def.placing) (map pdef_of xs)) (sym (drop_all c.loop-def.def-index ds c.loop-def-test.false)) ∙ c.loop-def.invariant.left)

pub returns-clause-few : goal.returns-clause-few
returns-clause-few c =
    let few = c.loop-def.invariant.sound.few in
    let many : length c.loop-def.placing.places ≡ c.loop-def.def-index = c.loop-def.invariant.many in
    omega (arith, few, many)
