use Rattle.std.proofs.Common.{◌≡◌, refl, ◌∙◌, ap, ap₂, [], length, arith}
use Rattle.std.proofs.lemmas.List.{length-map}
use Rattle.sha2.specs.Sha256.{sha256}
use Rattle.ac_terms.specs.Read.{environment_of, entry_of, def_of_code}
use Rattle.ac_rules.specs.Packets.{put}
use Rattle.ac_admit_placing.specs.Placed.{state_of}
use Rattle.ac_admit_placing.specs.inner.Keys.{is_short}
use Rattle.ac_admit_placing.specs.inner.Maps.{key_found}
use Rattle.ac_admit_placing.proofs.StateLaws.{behind, put_sound, put_state}
use Rattle.ac_admit_placing.proofs.placing.Placing.put.Goals as goal

pub returns-in_ok-stands-in-Ok-clause-sound : goal.returns-in_ok-stands-in-Ok-clause-sound
returns-in_ok-stands-in-Ok-clause-sound c =
    let E = environment_of c.args.site.env.now in
    let many : length E ≡ length c.args.site.env.now.entries = length-map c.args.site.env.now.entries entry_of in
    let n = c.in-Ok.ensures in
    let s = c.in_ok-stands-in-Ok.ensures in
    put_sound E c.args.self.now c.stands.new.self c.requires.sound c.args.def c.in-Ok.name c.target-to.result c.is_unresolved.result _ _ (ap is_short c.target-to.ensures ∙ c.requires.short) refl (omega (arith, many))
    (behind _ _ _ _ n.more (s.more ∙ c.in_ok-push-in-Ok.ensures.ok)) (behind _ _ _ _ n.numbers s.numbers) (behind _ _ _ _ n.places s.places) (λ k. ap (λ ks. key_found ks k) s.keys ∙ n.keys k)

pub returns-in_ok-stands-in-Ok-clause-put : goal.returns-in_ok-stands-in-Ok-clause-put
returns-in_ok-stands-in-Ok-clause-put c =
    let E = environment_of c.args.site.env.now in
    let many : length E ≡ length c.args.site.env.now.entries = length-map c.args.site.env.now.entries entry_of in
    let n = c.in-Ok.ensures in
    let s = c.in_ok-stands-in-Ok.ensures in
    put_state E c.args.self.now c.stands.new.self c.requires.sound c.args.def c.in-Ok.name c.target-to.result c.is_unresolved.result [] _ n.name (omega (arith, many))
    (behind _ _ _ _ n.more (s.more ∙ c.in_ok-push-in-Ok.ensures.ok)) (behind _ _ _ _ n.places s.places)
    ∙ ap₂ (put sha256 (state_of E c.args.self.now) (def_of_code c.args.def)) c.target-to.ensures c.is_unresolved.ensures
