-- The commands by their names.
use Rattle.std.proofs.Common.{◌≡◌, ◌∙◌, sym, ap, refl, codes, Bool, true, false, List, [], ◌∷◌, map, drop, Option, Some, None, String, string_bytes}
use Rattle.std.specs.Prelude.{if◌then◌else◌, option_and_then, option_map, slice_get}
use Rattle.std.specs.Str.{bytes_eq}
use Rattle.acute_words.specs.Form.{Given, Text}
use Rattle.acute_words.specs.Commands.{Request, command_by, command_of, words_of}
use Rattle.acute_words.specs.inner.Rules.{row}
use Rattle.acute_words.specs.declared.kinds.Kind.{Kind}
use Rattle.acute_words.specs.declared.kinds.Kind.TheVariants as kind
use Rattle.acute_words.specs.inner.ByKind.{asked_of, form_of, kind_named}

-- what the command of this kind asks for by its words
abbrev pub asked_by : List Text → Kind → Option Request
asked_by rest k = words_of (form_of k) (asked_of k) rest

-- what the command of a name asks for is what the one of its kind does
by_kind : (name : Text) (rest : List Text) → command_by name rest ≡ option_and_then (asked_by rest) (kind_named name)
by_kind name rest =
    go (bytes_eq name (codes "run")) (bytes_eq name (codes "names")) (bytes_eq name (codes "code")) (bytes_eq name (codes "make")) (bytes_eq name (codes "check")) (bytes_eq name (codes "chain")) (bytes_eq name (codes "audit")) (bytes_eq name (codes "pipe"))
  where
    go : (run names code make check chain audit pipe : Bool)
        → (if run then asked_by rest kind.Run else if names then asked_by rest kind.Names else if code then asked_by rest kind.Code else if make then asked_by rest kind.Make else if check then asked_by rest kind.Check else if chain then asked_by rest kind.Chain else if audit then asked_by rest kind.Audit else if pipe then asked_by rest kind.Pipe else None)
        ≡ option_and_then (asked_by rest) (if run then Some kind.Run else if names then Some kind.Names else if code then Some kind.Code else if make then Some kind.Make else if check then Some kind.Check else if chain then Some kind.Chain else if audit then Some kind.Audit else if pipe then Some kind.Pipe else None)
    go true names code make check chain audit pipe = refl
    go false true code make check chain audit pipe = refl
    go false false true make check chain audit pipe = refl
    go false false false true check chain audit pipe = refl
    go false false false false true chain audit pipe = refl
    go false false false false false true audit pipe = refl
    go false false false false false false true pipe = refl
    go false false false false false false false true = refl
    go false false false false false false false false = refl

-- what words ask for, by the kind of the first of them
pub of_first : {Z : Type 0} (ws : List (String Z)) (x : String Z) (name : Text) (k : Option Kind) → Some x ≡ slice_get ws 0 → name ≡ string_bytes x → k ≡ kind_named name
    → option_and_then (asked_by (drop 1 (map string_bytes ws))) k ≡ command_of (map string_bytes ws)
of_first {Z} [] x name k first is named = absurd (cc)
of_first {Z} (y ∷ ys) x name k first is named =
    let same : x ≡ y = cc in
    let rest = map string_bytes ys in
    ap (option_and_then (asked_by rest)) (named ∙ ap kind_named (is ∙ ap (λ (s : String Z). string_bytes s) same)) ∙ sym (by_kind (string_bytes y) rest)

-- nothing is asked for where the words aren't taken
pub none_asked : (o : Option Given) (of : Given → Option Request) → None ≡ option_map (map row) o → None ≡ option_and_then of o
none_asked None of e = refl
none_asked (Some g) of e = absurd (cc)
