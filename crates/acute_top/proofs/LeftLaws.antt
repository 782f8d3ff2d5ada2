-- What a run leaves of the standard stream that is its channel.
use Rattle.std.proofs.Common.{◌≡◌, ℕ, Bool, IsTrue, Option, Some, None, refl, sym, ap, subst}
use Rattle.ac_types.specs.Types.{Bytes}
use Rattle.ac_terms.specs.Terms.{Value}
use Rattle.ac_outside.specs.Outside.{Contents}
use Rattle.acute_words.specs.Commands.{ChannelName, standard, file}
use Rattle.ac_rules.specs.Views.{Mode}
use Rattle.ac_meaning.specs.Acts.{Outcome}
use Rattle.ac_run.specs.Sessions.{Session, HasInput, ProgramEnds, HasLeft}
use Rattle.ac_run.specs.declared.end.RunEnd.{RunEnd}
use Rattle.acute_top.specs.inner.Told.{left_in, stream_left}
use Rattle.acute_top.specs.inner.Runs.{StreamLeft}

-- the world of a run has left of it what the stream has
pub same_left : (from : Option ChannelName) (files : Contents) (input : Bytes) (place : ℕ) → stream_left from (left_in from files input place) ≡ stream_left from input
same_left None files input place = refl
same_left (Some standard) files input place = refl
same_left (Some (file name)) files input place = refl

-- a run with the input that its world has left
pub left_with : (from : Option ChannelName) (told : Bool) (s : Session) (before input after : Bytes) (r : RunEnd) → HasInput told before input
    → (IsTrue told → (mode : Mode) (o : Outcome Value) → ProgramEnds mode s before o → HasLeft r o before after) → StreamLeft from told s input r (stream_left from after)
left_with from told s before input after r same left is t mode o ends =
    subst (HasLeft r o input) (sym (ap (λ (f : Option ChannelName). stream_left f after) is))
    (subst (λ (i : Bytes). HasLeft r o i after) (same t) (left t mode o (subst (λ (i : Bytes). ProgramEnds mode s i o) (sym (same t)) ends)))

-- a run without a channel to read from
pub left_without : (told : Bool) (s : Session) (input after : Bytes) (r : RunEnd) → StreamLeft None told s input r after
left_without told s input after r is = absurd cc
