-- Entries that are taken off, one by one.
use Rattle.std.proofs.Common.{◌≡◌, sym, ap, ◌∙◌, ℕ, ◌<◌, ◌≤◌, ◌+◌, List, [], ◌∷◌, ◌++◌, length, take, length-append, Option, Some, None, MatchOption}
use Rattle.std.proofs.lemmas.List.{take-append-le, take_all}
use native.Mathlib.Omega.{arith}
use Rattle.ac_terms.specs.declared.def.Entry.{Entry}
use Rattle.ac_terms.specs.Entries.{Entries}

pub cut_next : (many : ℕ) (old new : Entries) (all : List Entry) (o : Option Entry) → MatchOption o ((old.entries ≡ []) × (new ≡ old)) (λ e. old.entries ≡ new.entries ++ e ∷ []) →
    many < length old.entries → take many old.entries ≡ all → take many new.entries ≡ all
cut_next many old new all None is more h = let none = ap length is.0 in absurd (omega (arith, none, more))
cut_next many old new all (Some e) is more h =
    let longer = ap length is ∙ length-append new.entries (e ∷ []) in
    sym (take-append-le many new.entries (e ∷ []) (omega (arith, longer, more))) ∙ ap (take many) (sym is) ∙ h

pub cut_last : (many : ℕ) (new : List Entry) (all : List Entry) → length new ≤ many → take many new ≡ all → new ≡ all
cut_last many new all short h = sym (take_all many new short) ∙ h

pub cut_less : (many : ℕ) (old new : List Entry) (o : Option Entry) → MatchOption o (length old ≡ 0) (λ e. length new + 1 ≡ length old) → many < length old → length new < length old
cut_less many old new None is more = absurd (omega (arith, is, more))
cut_less many old new (Some e) is more = omega (arith, is)
