-- What a fault leaves on the console is a prefix of what the program prints.
use Rattle.std.proofs.Common.{◌≡◌, ◌∙◌, ◌⊎◌, inl, inr, refl, sym, ap, Bool, IsTrue, List, ◌∷◌, ◌++◌, append_assoc}
use Rattle.std.proofs.lemmas.Grind.{flat_map-append}
use Rattle.ac_types.specs.Types.{Bytes}
use Rattle.ac_outside.specs.Outside.{Extends}
use Rattle.ac_meaning.specs.Writes.{Write, Print, Send, Console, piece, written}
use Rattle.ac_run.specs.Sessions.{Streams, with_writes, Begun, StopsIn, StopsBehind}

-- what some writes add, and others behind them
split : (before after : List Write) → written Console (before ++ after) ≡ written Console before ++ written Console after
split before after = flat_map-append (piece Console) before after

pub behind : (told : Bool) (all : List Write) (old new : Streams) → StopsBehind told all old new → IsTrue told → Extends old.console new.console (written Console all)
behind told all old new s t = record {
  front = written Console s.before;
  rest = written Console s.after;
  split = ap (written Console) s.order ∙ split s.before s.after;
  new_is = ap (λ (x : Streams). x.console) (s.made t);
}

in_write : (before after : List Write) (w : Write) (old new : Streams) → Begun w (with_writes before old) new → Extends old.console new.console (written Console before ++ (piece Console w ++ written Console after))
in_write before after (Print s) old new b = record {
  front = written Console before ++ b.0.front;
  rest = b.0.rest ++ written Console after;
  split =
      ap (λ (x : Bytes). written Console before ++ (x ++ written Console after)) b.0.split
      ∙ ap (λ (x : Bytes). written Console before ++ x) (append_assoc b.0.front b.0.rest (written Console after))
      ∙ sym (append_assoc (written Console before) b.0.front (b.0.rest ++ written Console after));
  new_is = b.0.new_is ∙ append_assoc old.console (written Console before) b.0.front;
}
in_write before after (Send s) old new b = record { front = written Console before; rest = written Console after; split = refl; new_is = b.0 }

pub inside : (told : Bool) (all : List Write) (old new : Streams) → StopsIn told all old new → IsTrue told → Extends old.console new.console (written Console all)
inside told all old new s t =
    let e = in_write s.before s.after s.write old new (s.begun t) in
    record { front = e.front; rest = e.rest; split = ap (written Console) s.order ∙ split s.before (s.write ∷ s.after) ∙ e.split; new_is = e.new_is }

pub somewhere : (told : Bool) (all : List Write) (old new : Streams) → StopsIn told all old new ⊎ StopsBehind told all old new → IsTrue told → Extends old.console new.console (written Console all)
somewhere told all old new (inl s) t = inside told all old new s t
somewhere told all old new (inr s) t = behind told all old new s t
