-- Programs that run in turn, one more at a time; and what comes where one of them stops.
use Rattle.std.proofs.Common.{append-nil, ◌≡◌, ◌∙◌, refl, sym, ap, subst, ℕ, Bool, IsTrue, List, [], ◌∷◌, ◌++◌, append_assoc}
use Rattle.std.specs.Prelude.{OnErr, Result, Ok, Err}
use Rattle.std.proofs.lemmas.Grind.{flat_map-append}
use Rattle.std.proofs.lemmas.List.{map-append}
use Rattle.ac_types.specs.Types.{Bytes}
use Rattle.ac_types.specs.ReadTypes.{typ_of}
use Rattle.ac_terms.specs.Terms.{Expr, Value}
use Rattle.ac_terms.specs.Defs.{Environment}
use Rattle.ac_terms.specs.Read.{environment_of, expr_of}
use Rattle.ac_rules.specs.Views.{Mode}
use Rattle.ac_rules.specs.declared.loaded.Loaded.{Loaded}
use Rattle.ac_outside.specs.Outside.{Extends}
use Rattle.ac_meaning.specs.Loads.{IsLoaded}
use Rattle.ac_meaning.specs.Writes.{Console, Channel, written}
use Rattle.ac_meaning.specs.Acts.{Outcome, writes_of, crossings_of}
use Rattle.ac_colours.specs.Chains.{Programs}
use Rattle.ac_chain.specs.declared.chained.ChainPart.{ChainPart}
use Rattle.ac_chain.specs.Natives.{made_by}
use Rattle.ac_chain.specs.ChainTexts.{programs_of}
use Rattle.ac_chain.specs.ChainMeaning.{RunsOn, RunInTurn, IsChainPart, AreParts, console_of}
use Rattle.ac_chain.specs.inner.Made.{Strings, Has}
use Rattle.ac_chain.specs.inner.Running.{AreLoaded, HasRunOn, HasStoppedOn, AllRun, AllStopped, last_sent}
use Rattle.ac_chain.proofs.RunLaws.{comes_to_end}

-- those that are left are loaded too
pub loaded_behind : (xs ys : List Loaded) → AreLoaded (xs ++ ys) → AreLoaded ys
loaded_behind [] ys h = h
loaded_behind (x ∷ xs) ys h = loaded_behind xs ys h.1

-- of all programs the next is loaded
pub next_loaded : (all ys : List Loaded) (l : Loaded) (ls : List Loaded) → all ≡ ys ++ l ∷ ls → AreLoaded all → IsLoaded (environment_of l.env) (expr_of l.main) (typ_of l.ty)
next_loaded all ys l ls is loaded = (loaded_behind ys (l ∷ ls) (subst AreLoaded is loaded)).0

-- what the last of some programs has sent, and the strings that were made when it has ended
abbrev left_by : Bytes → List (Outcome Value) → Bytes
left_by left [] = left
left_by left (o ∷ os) = left_by (written Channel (writes_of o)) os

abbrev made_in : List Bytes → List (Outcome Value) → List Bytes
made_in made [] = made
made_in made (o ∷ os) = made_in (made_by made (crossings_of o)) os

module _ (mode : Mode) (N : ℕ) (told : Bool) where
  -- more programs run behind some
  run_behind : (ps qs : Programs) (left : Bytes) (os us : List (Outcome Value)) → RunInTurn mode N told ps left os → RunInTurn mode N told qs (left_by left os) us → RunInTurn mode N told (ps ++ qs) left (os ++ us)
  run_behind [] qs left [] us r s = s
  run_behind [] qs left (o ∷ os) us r s = absurd r
  run_behind (p ∷ ps) qs left [] us r s = absurd r
  run_behind (p ∷ ps) qs left (o ∷ os) us r s = (r.0, run_behind ps qs (written Channel (writes_of o)) os us r.1 s)

  parts_behind : (made : List Bytes) (os : List (Outcome Value)) (parts : List ChainPart) (o : Outcome Value) (part : ChainPart) → AreParts N told made os parts → IsChainPart N told (made_in made os) o part → AreParts N told made (os ++ o ∷ []) (parts ++ part ∷ [])
  parts_behind made [] [] o part r s = (s, tt)
  parts_behind made [] (x ∷ parts) o part r s = absurd r
  parts_behind made (u ∷ os) [] o part r s = absurd r
  parts_behind made (u ∷ os) (x ∷ parts) o part r s = (r.0, parts_behind (made_by made (crossings_of u)) os parts o part r.1 s)

  made_behind : (made : List Bytes) (os : List (Outcome Value)) (o : Outcome Value) → made_in made (os ++ o ∷ []) ≡ made_by (made_in made os) (crossings_of o)
  made_behind made [] o = refl
  made_behind made (u ∷ os) o = made_behind (made_by made (crossings_of u)) os o

  -- what the parts have sent is what the ends have
  sent_by : (made : List Bytes) (left sent : Bytes) (os : List (Outcome Value)) (parts : List ChainPart) → AreParts N told made os parts → IsTrue told → sent ≡ left → last_sent sent parts ≡ left_by left os
  sent_by made left sent [] [] r t e = e
  sent_by made left sent [] (x ∷ parts) r t e = absurd r
  sent_by made left sent (o ∷ os) [] r t e = absurd r
  sent_by made left sent (o ∷ os) (x ∷ parts) r t e = sent_by (made_by made (crossings_of o)) (written Channel (writes_of o)) x.sent.0 os parts r.1 t (r.0.sent t)

  -- a run with this left to read is one with that, where both are the same
  moved : (p : Environment × Expr) (sent left : Bytes) (o : Outcome Value) → (IsTrue told → sent ≡ left) → RunsOn mode N told p sent o → RunsOn mode N told p left o
  moved p sent left o same r = record { input = r.input; is_input = λ t. sym (same t) ∙ r.is_input t; ends = r.ends }

  -- the rest runs, whatever it has to read
  rest_runs : (ls : List Loaded) (left : Bytes) → AreLoaded ls → (os : List (Outcome Value)) × RunInTurn mode N told (programs_of ls) left os
  rest_runs [] left loaded = ([], tt)
  rest_runs (l ∷ ls) left loaded =
      let e = comes_to_end mode N told (environment_of l.env, expr_of l.main) left loaded.0.program.coherent in
      let rest = rest_runs ls (written Channel (writes_of e.0)) loaded.1 in
      (e.0 ∷ rest.0, (e.1, rest.1))

  -- some programs have run, and the others have still to
  pub record SoFar (ps : Programs) (parts : List ChainPart) (made : Strings) (old new : Bytes) : Type 0 where
    pub ends : List (Outcome Value)
    pub run : RunInTurn mode N told ps [] ends
    pub are_parts : AreParts N told [] ends parts
    pub has : Has made (made_in [] ends)
    pub printed : IsTrue told → new ≡ old ++ console_of ends

  pub none_yet : (made : Strings) (old : Bytes) → Has made [] → SoFar [] [] made old old
  none_yet made old has = record { ends = []; run = tt; are_parts = tt; has = has; printed = λ t. sym (append-nil old) }

  pub one_more : (ps : Programs) (p : Environment × Expr) (parts : List ChainPart) (part : ChainPart) (made more : Strings) (old now new : Bytes) → SoFar ps parts made old now → HasRunOn mode N told p (last_sent [] parts) part made more now new
      → SoFar (ps ++ p ∷ []) (parts ++ part ∷ []) more old new
  one_more ps p parts part made more old now new so r =
      let same = λ (t : IsTrue told). sent_by [] [] [] so.ends parts so.are_parts t refl in
      record {
        ends = so.ends ++ r.last ∷ [];
        run = run_behind ps (p ∷ []) [] so.ends (r.last ∷ []) so.run (moved p (last_sent [] parts) (left_by [] so.ends) r.last same r.runs, tt);
        are_parts = parts_behind [] so.ends parts r.last part so.are_parts (r.part (made_in [] so.ends) so.has);
        has = subst (Has more) (sym (made_behind [] so.ends r.last)) (r.made (made_in [] so.ends) so.has);
        printed = λ t. r.printed t ∙ ap (λ b. b ++ written Console (writes_of r.last)) (so.printed t) ∙ more_printed so.ends r.last old;
      }
    where
      more_printed : (os : List (Outcome Value)) (o : Outcome Value) (old : Bytes) → (old ++ console_of os) ++ written Console (writes_of o) ≡ old ++ console_of (os ++ o ∷ [])
      more_printed os o old =
          append_assoc old (console_of os) (written Console (writes_of o))
          ∙ ap (λ b. old ++ b) (ap (λ b. console_of os ++ b) (sym (append-nil (written Console (writes_of o)))) ∙ sym (flat_map-append (λ (x : Outcome Value). written Console (writes_of x)) os (o ∷ [])))

  pub all_run : (ps : Programs) (parts : List ChainPart) (made : Strings) (old new : Bytes) → SoFar ps parts made old new → AllRun mode N told ps parts old new
  all_run ps parts made old new so = record { ends = so.ends; run = so.run; are_parts = so.are_parts; printed = so.printed }

  -- a prefix of what all print was printed, where one of them has stopped
  pub stopped_at : (ps : Programs) (l : Loaded) (ls : List Loaded) (parts : List ChainPart) (made : Strings) (old now new : Bytes) → AreLoaded ls → SoFar ps parts made old now
      → HasStoppedOn mode N told (environment_of l.env, expr_of l.main) (last_sent [] parts) now new → AllStopped mode N told (ps ++ programs_of (l ∷ ls)) old new
  stopped_at ps l ls parts made old now new loaded so s =
      let p : Environment × Expr = (environment_of l.env, expr_of l.main) in
      let same = λ (t : IsTrue told). sent_by [] [] [] so.ends parts so.are_parts t refl in
      let rest = rest_runs ls (written Channel (writes_of s.last)) loaded in
      record {
        ends = so.ends ++ s.last ∷ rest.0;
        run = run_behind ps (p ∷ programs_of ls) [] so.ends (s.last ∷ rest.0) so.run (moved p (last_sent [] parts) (left_by [] so.ends) s.last same s.runs, rest.1);
        printed = λ t. prefix so.ends s.last rest.0 old now new (so.printed t) (s.printed t);
      }
    where
      prefix : (os : List (Outcome Value)) (o : Outcome Value) (us : List (Outcome Value)) (old now new : Bytes) → now ≡ old ++ console_of os → Extends now new (written Console (writes_of o)) → Extends old new (console_of (os ++ o ∷ us))
      prefix os o us old now new so e = record {
        front = console_of os ++ e.front;
        rest = e.rest ++ console_of us;
        split =
            flat_map-append (λ (x : Outcome Value). written Console (writes_of x)) os (o ∷ us)
            ∙ ap (λ b. console_of os ++ (b ++ console_of us)) e.split
            ∙ ap (λ b. console_of os ++ b) (append_assoc e.front e.rest (console_of us))
            ∙ sym (append_assoc (console_of os) e.front (e.rest ++ console_of us));
        new_is = e.new_is ∙ ap (λ b. b ++ e.front) so ∙ append_assoc old (console_of os) e.front;
      }

  -- nothing more was printed where some have run and memory runs out
  pub stopped_behind : (ps : Programs) (ls : List Loaded) (parts : List ChainPart) (made : Strings) (old new : Bytes) → AreLoaded ls → SoFar ps parts made old new → AllStopped mode N told (ps ++ programs_of ls) old new
  stopped_behind ps ls parts made old new loaded so =
      let rest = rest_runs ls (left_by [] so.ends) loaded in
      record {
        ends = so.ends ++ rest.0;
        run = run_behind ps (programs_of ls) [] so.ends rest.0 so.run rest.1;
        printed = λ t. record {
          front = console_of so.ends;
          rest = console_of rest.0;
          split = flat_map-append (λ (x : Outcome Value). written Console (writes_of x)) so.ends rest.0;
          new_is = so.printed t;
        };
      }

  -- of all programs some have run
  abbrev read : Loaded → Environment × Expr
  read l = (environment_of l.env, expr_of l.main)

  pub next_run : (ys : List Loaded) (l : Loaded) (parts : List ChainPart) (part : ChainPart) (made more : Strings) (old now new : Bytes) → SoFar (programs_of ys) parts made old now → HasRunOn mode N told (read l) (last_sent [] parts) part made more now new
      → SoFar (programs_of (ys ++ l ∷ [])) (parts ++ part ∷ []) more old new
  next_run ys l parts part made more old now new so r =
      subst (λ ps. SoFar ps (parts ++ part ∷ []) more old new) (sym (map-append read ys (l ∷ []))) (one_more (programs_of ys) (read l) parts part made more old now new so r)

  pub stops_at : (all ys : List Loaded) (l : Loaded) (ls : List Loaded) (parts : List ChainPart) (made : Strings) (old now new : Bytes) → all ≡ ys ++ l ∷ ls → AreLoaded all → SoFar (programs_of ys) parts made old now → HasStoppedOn mode N told (read l) (last_sent [] parts) now new
      → AllStopped mode N told (programs_of all) old new
  stops_at all ys l ls parts made old now new is loaded so s =
      subst (λ ps. AllStopped mode N told ps old new) (sym (ap programs_of is ∙ map-append read ys (l ∷ ls)))
      (stopped_at (programs_of ys) l ls parts made old now new (loaded_behind ys (l ∷ ls) (subst AreLoaded is loaded)).1 so s)

  pub stops_behind : (all ys ls : List Loaded) (parts : List ChainPart) (made : Strings) (old new : Bytes) → all ≡ ys ++ ls → AreLoaded all → SoFar (programs_of ys) parts made old new → AllStopped mode N told (programs_of all) old new
  stops_behind all ys ls parts made old new is loaded so =
      subst (λ ps. AllStopped mode N told ps old new) (sym (ap programs_of is ∙ map-append read ys ls)) (stopped_behind (programs_of ys) ls parts made old new (loaded_behind ys ls (subst AreLoaded is loaded)) so)

  pub runs_all : (all ys ls : List Loaded) (parts : List ChainPart) (made : Strings) (old new : Bytes) → all ≡ ys ++ ls → ls ≡ [] → SoFar (programs_of ys) parts made old new → AllRun mode N told (programs_of all) parts old new
  runs_all all ys ls parts made old new is none so =
      subst (λ xs. AllRun mode N told (programs_of xs) parts old new) (sym (is ∙ ap (λ l. ys ++ l) none ∙ append-nil ys)) (all_run (programs_of ys) parts made old new so)

-- what holds holds where a result is an error
pub on_err : {A E : Type 0} (r : Result A E) (P : Type 0) → P → OnErr r P
on_err (Ok x) P h = tt
on_err (Err e) P h = h
