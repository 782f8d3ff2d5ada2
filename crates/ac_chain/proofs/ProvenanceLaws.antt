-- Where each string that is read in a chain is native, what stands inside the seals that its strings bring was sealed before.
use Rattle.std.proofs.Common.{◌≡◌, ◌∙◌, ◌≤◌, refl, sym, ap, ap₂, subst, ℕ, Bool, true, false, IsTrue, List, [], ◌∷◌, ◌++◌, length, map, None}
use mathlib.Core.Bool.{true≢false}
use Rattle.std.specs.Prelude.{IfOk, Result, Ok, Err}
use Rattle.std.specs.List.{list_all}
use Rattle.ac_types.specs.Types.{Bytes}
use Rattle.ac_terms.specs.Terms.{Value}
use Rattle.ac_rules.specs.Views.{Mode, Coloured}
use Rattle.ac_rules.specs.declared.loaded.Loaded.{Loaded}
use Rattle.ac_meaning.specs.Worlds.{Crossing}
use Rattle.ac_meaning.specs.Writes.{Channel, written}
use Rattle.ac_meaning.specs.Acts.{Outcome, writes_of, crossings_of}
use Rattle.ac_load_rules.specs.Accepting.{Shelved, IsShelf}
use Rattle.ac_load.proofs.Loaded.{loads_ready}
use Rattle.ac_colours.specs.Births.{Event, events, crossed, crossings_in}
use Rattle.ac_colours.specs.Chains.{Programs, AreLoadable, SeparateRun, first_state, HappensIn, EndAs, journals_of, AreRunsOf, IsChain, joined, AreReadNatively}
use Rattle.ac_colours.proofs.Chains.{made_before_of}
use Rattle.ac_colours.proofs.Crossed.{crossed_both, program_tells}
use Rattle.ac_colours.proofs.Journals.{native}
use Rattle.ac_chain.specs.declared.chained.Chained.{Chained}
use Rattle.ac_chain.specs.declared.chained.ChainPart.{ChainPart}
use Rattle.ac_chain.specs.declared.chained.ChainFault.{ChainFault}
use Rattle.ac_chain.specs.Natives.{made_by}
use Rattle.ac_chain.specs.Clashes.{first_program_clash}
use Rattle.ac_chain.specs.ChainTexts.{programs_of, LoadAs}
use Rattle.ac_chain.specs.ChainMeaning.{RunInTurn, Runs, AreParts}
use Rattle.ac_chain.specs.Endings.{AreAllNative, NoneIsForeign, Provenance, HasProvenance}
use Rattle.ac_chain.specs.inner.Running.{AllRun}
use Rattle.ac_chain.proofs.Apart.{HaveOwnText, one_text}
use Rattle.ac_chain.proofs.NativeLaws.{AreMadeIn, made_later, all_made}
use Rattle.ac_chain.proofs.LoadLaws.{one_list}

-- programs of texts that load are loadable
loadable : (texts : List Bytes) (shelf : List Shelved) (ps : Programs) → IsShelf shelf → length shelf ≤ 256 → LoadAs texts shelf ps → AreLoadable ps
loadable [] shelf [] is few h = tt
loadable [] shelf (p ∷ ps) is few h = absurd h
loadable (t ∷ ts) shelf [] is few h = absurd h
loadable (t ∷ ts) shelf (p ∷ ps) is few h =
    let ready = loads_ready t shelf p.0 p.1 h.0.0 is few h.0.1 in
    (h.0.0, ready.program, ready.fits, loadable ts shelf ps is few h.1)

-- and each by itself has one text for a name
own_text : (texts : List Bytes) (shelf : List Shelved) (ps : Programs) → IsShelf shelf → length shelf ≤ 256 → LoadAs texts shelf ps → HaveOwnText ps
own_text [] shelf [] is few h = tt
own_text [] shelf (p ∷ ps) is few h = absurd h
own_text (t ∷ ts) shelf [] is few h = absurd h
own_text (t ∷ ts) shelf (p ∷ ps) is few h = (record { same = (loads_ready t shelf p.0 p.1 h.0.0 is few h.0.1).program.coherent.one_text }, own_text ts shelf ps is few h.1)

-- programs that run in turn, as runs with all that happens in them
record AsRuns (N : ℕ) (told : Bool) (ps : Programs) (left : Bytes) (os : List (Outcome Value)) : Type 0 where
  runs : List SeparateRun
  are_runs : AreRunsOf N ps runs
  they_end : EndAs runs os
  all : List Event
  happens : HappensIn runs all
  chained : IsTrue told → IsChain N ps left all
  tells : crossed all ≡ joined (journals_of os)

as_runs : (N : ℕ) (told : Bool) (ps : Programs) (left : Bytes) (os : List (Outcome Value)) → AreLoadable ps → RunInTurn Coloured N told ps left os → AsRuns N told ps left os
as_runs N told [] left [] l r = record { runs = []; are_runs = refl; they_end = refl; all = []; happens = refl; chained = λ t. refl; tells = refl }
as_runs N told [] left (o ∷ os) l r = absurd r
as_runs N told (p ∷ ps) left [] l r = absurd r
as_runs N told (p ∷ ps) left (o ∷ os) l r =
    let x = r.0 in
    let k : ℕ = x.ends.0 in
    let it : SeparateRun = record { program = p; steps = N; input = x.input; sends = true } in
    let mine : List Event = events N k (first_state it) in
    let rest = as_runs N told ps (written Channel (writes_of o)) os l.3 r.1 in
    record {
      runs = it ∷ rest.runs;
      are_runs = (it, rest.runs, refl, refl, refl, refl, rest.are_runs);
      they_end = (o, os, x.ends, refl, rest.they_end);
      all = mine ++ rest.all;
      happens = (k, o, rest.all, x.ends.1, refl, rest.happens);
      chained = λ t. subst (λ input. IsChain N (p ∷ ps) input (mine ++ rest.all)) (sym (x.is_input t)) (k, o, rest.all, x.ends.1, refl, rest.chained t);
      tells = crossed_both mine rest.all ∙ ap₂ (λ a b. a ++ b) (sym (program_tells p.0 p.1 l.0 l.1 x.input true N k) ∙ ap crossings_in x.ends.1) rest.tells;
    }

read_natively : (made : List Bytes) (earlier : List Crossing) (os : List (Outcome Value)) → NoneIsForeign made os → AreMadeIn made earlier → AreReadNatively earlier (map crossings_of os)
read_natively made earlier [] none h = tt
read_natively made earlier (o ∷ os) none h = (
  all_made made earlier (crossings_of o) h none.0,
  read_natively (made_by made (crossings_of o)) (earlier ++ crossings_of o) os none.1 (made_later made earlier (crossings_of o) h),
)

none_foreign : (N : ℕ) (told : Bool) (made : List Bytes) (os : List (Outcome Value)) (parts : List ChainPart) → AreParts N told made os parts → AreAllNative parts → NoneIsForeign made os
none_foreign N told made [] [] r all = tt
none_foreign N told made [] (part ∷ parts) r all = absurd r
none_foreign N told made (o ∷ os) [] r all = absurd r
none_foreign N told made (o ∷ os) (part ∷ parts) r all = (
  ap (list_all (λ (b : Bool). b)) (sym r.0.native) ∙ all.0,
  none_foreign N told (made_by made (crossings_of o)) os parts r.1 all.1,
)

module _ (texts : List Bytes) (shelf : List Shelved) (N : ℕ) (told : Bool) (is : IsShelf shelf) (few : length shelf ≤ 256) where
  -- of a chain that runs, where no string is foreign
  pub runs_provenance : (r : Runs Coloured texts shelf N told) → NoneIsForeign [] r.ends → Provenance N told r.programs r.ends
  runs_provenance r none =
      let l = loadable texts shelf r.programs is few r.load in
      let own = own_text texts shelf r.programs is few r.load in
      let x = as_runs N told r.programs [] r.ends l r.run in
      let n = native x.all (journals_of r.ends) x.tells (read_natively [] [] r.ends none (λ s h. absurd (nothing s h))) in
      record {
        runs = x.runs;
        are_runs = x.are_runs;
        they_end = x.they_end;
        all = x.all;
        happens = x.happens;
        chained = x.chained;
        births = made_before_of N r.programs x.runs x.all l (one_text 0 r.programs r.apart own) x.are_runs x.happens n;
      }
    where
      nothing : (s : Bytes) → false ≡ true → ⊥
      nothing s h = true≢false (sym h)

  -- of one whose parts are all native
  provenance : (ls : List Loaded) (parts : List ChainPart) (old new : Bytes) → LoadAs texts shelf (programs_of ls) → first_program_clash 0 (programs_of ls) ≡ None
      → AllRun Coloured N told (programs_of ls) parts old new → AreAllNative parts → (ps : Programs) → LoadAs texts shelf ps → HasProvenance N told ps parts
  provenance ls parts old new load apart run all_native ps load' =
      let r : Runs Coloured texts shelf N told = record { programs = programs_of ls; load = load; apart = apart; ends = run.ends; run = run.run } in
      subst (λ qs. HasProvenance N told qs parts) (one_list texts shelf (programs_of ls) ps load load') (record {
        ends = run.ends;
        are_parts = run.are_parts;
        provenance = runs_provenance r (none_foreign N told [] run.ends parts run.are_parts all_native);
      })

  pub all_provenance : (ls : List Loaded) (old new : Bytes) → LoadAs texts shelf (programs_of ls) → first_program_clash 0 (programs_of ls) ≡ None → (r : Result Chained ChainFault)
      → IfOk r (λ x. (mode : Mode) → AllRun mode N told (programs_of ls) x.parts old new) → IfOk r (λ x. AreAllNative x.parts → (ps : Programs) → LoadAs texts shelf ps → HasProvenance N told ps x.parts)
  all_provenance ls old new load apart (Ok x) h = λ native ps load'. provenance ls x.parts old new load apart (h Coloured) native ps load'
  all_provenance ls old new load apart (Err f) h = tt
