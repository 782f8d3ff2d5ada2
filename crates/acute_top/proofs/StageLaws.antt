-- What a call has done with files and input, stage by stage.
use Rattle.std.proofs.Common.{◌≡◌, ◌<◌, ◌≤◌, ◌+◌, ◌^◌, ℕ, List, length, IsTrue, Option, Some, None, refl, sym, ◌∙◌, subst, arith}
use Rattle.std.proofs.lemmas.List.{length-drop}
use Rattle.std.proofs.Math.Logic.{∥∥₁_map}
use Rattle.ac_types.proofs.FirstLaws.{some_eq}
use Rattle.ac_outside.specs.Outside.{Contents, ReadsFrom, or_empty}
use Rattle.ac_outside.specs.declared.traits.Got.TheVariants as got
use Rattle.acute_words.specs.Form.{Text}
use Rattle.acute_words.specs.Commands.{ChannelName, ProgramFiles, Request, run, file}
use Rattle.acute_files.proofs.Turns.{texts_none}
use Rattle.acute_top.specs.Requests.{files_loaded, list_named}
use Rattle.acute_top.specs.Stages.{Stage, AtTexts, AtFile, InRun, ReadsTexts, Uses, not_used, then_read, then_written, UsesFiles, Touches}
use Rattle.acute_top.specs.Traits.{FilesOf}
use Rattle.acute_top.specs.inner.RunCommands.{TouchesBehind}
use Rattle.acute_top.specs.inner.Runs.{IsPlaceIn, UsesSince}

module _ {F : Type 0} (f : FilesOf F) where
  -- where nothing is read
  pub no_texts : (r : Option Request) (a : F) → ReadsTexts f r a a
  no_texts None a = refl
  no_texts (Some r) a = texts_none f (files_loaded r) (list_named r) a

  pub no_use : (from to : Option ChannelName) (a : F) → UsesFiles f from to a a
  no_use from to a = λ places. ∣ not_used ∣₁

  -- a run behind its texts
  pub touches_run : {I : Type 0} (p : ProgramFiles) (steps : ℕ) (from to : Option ChannelName) (stage : Stage) (a b c : F) (old new : I) → ReadsTexts f (Some (run p steps from to)) a b → TouchesBehind f from to stage b c old new → Touches f (Some (run p steps from to)) stage a c old new
  touches_run p steps from to AtTexts a b c old new texts t = (t.0, subst (λ (x : F). ReadsTexts f (Some (run p steps from to)) a x) (sym t.1) texts)
  touches_run p steps from to AtFile a b c old new texts t = (t.0, (b, texts, t.1))
  touches_run p steps from to InRun a b d old new texts t = let made = t.1 in (t.0, (b, made.0, texts, made.1, made.2))

  -- at the start, at a read and at a write of a channel's file, and at the end
  pub since_start : (start : Option F) (from to : Option ChannelName) (was : Contents) (now : F) → start ≡ Some now → UsesSince f start from to was now
  since_start start from to was now at = λ a is places. ∣ subst (λ (x : F). Uses f from to a x) (some_eq (sym is ∙ at)) not_used ∣₁

  pub since_read : (start : Option F) (from to : Option ChannelName) (was : Contents) (name : Text) (a b : F) (place : ℕ) → from ≡ Some (file name) → (IsTrue f.told → IsPlaceIn from was place) → UsesSince f start from to was a → (place < 2 ^ 63 → f.reads name a b) → UsesSince f start from to was b
  since_read start from to was name a b place at within since reads = λ s is places.
      let have = places name at in
      let le = subst (λ (x : Option ChannelName). IsPlaceIn x was place) at (within have.0) in
      let short = have.1 in
      ∥∥₁_map (since s is places) (λ before. then_read name at before (reads (omega (arith, le, short))))

  pub since_write : (start : Option F) (from to : Option ChannelName) (was : Contents) (name : Text) (a b : F) → to ≡ Some (file name) → UsesSince f start from to was a → f.writes name a b → UsesSince f start from to was b
  since_write start from to was name a b at since writes = λ s is places. ∥∥₁_map (since s is places) (λ before. then_written name at before writes)

  pub since_all : (from to : Option ChannelName) (a b : F) → UsesSince f (Some a) from to (f.contents a) b → UsesFiles f from to a b
  since_all from to a b since = since a refl

-- the place at the start, and after a read
pub place_first : (from : Option ChannelName) (was : Contents) → IsPlaceIn from was 0
place_first from was = omega arith

place_in : (bytes : Option (List ℕ)) (place next n : ℕ) (buf : List ℕ) → place ≤ length (or_empty bytes) → ReadsFrom (got.Bytes n) bytes place buf → next ≤ place + n → next ≤ length (or_empty bytes)
place_in None place next n buf le r lt = absurd cc
place_in (Some bytes) place next n buf le r lt = let there = r.there in omega (arith, length-drop place bytes, le, lt, there)

pub next_place : (from : Option ChannelName) (name : Text) (was is : Contents) (place next n : ℕ) (buf : List ℕ) → from ≡ Some (file name) → is name ≡ was name → IsPlaceIn from was place → ReadsFrom (got.Bytes n) (is name) place buf → next ≤ place + n → IsPlaceIn from was next
next_place from name was is place next n buf at same =
    subst (λ (x : Option ChannelName). IsPlaceIn x was place → ReadsFrom (got.Bytes n) (is name) place buf → next ≤ place + n → IsPlaceIn x was next) (sym at)
    (λ le r lt. place_in (was name) place next n buf le (subst (λ (bytes : Option (List ℕ)). ReadsFrom (got.Bytes n) bytes place buf) same r) lt)
