-- Pages that grow, and what is on them.
use Rattle.std.proofs.Common.{◌≡◌, refl, sym, subst, ap, ◌∙◌, [], ◌++◌, ◌⊎◌, inl, inr, Option, Some, None, IfSome, append_assoc}
use Rattle.std.specs.Prelude.{option_map}
use Rattle.ac_types.specs.Types.{Bytes}
use Rattle.lens_explain.specs.Verdicts.{SaysInLines, SaysInJson, verdict_words, json_words}
use Rattle.lens_explain.specs.declared.explained.TextVerdict.{TextVerdict}
use Rattle.lens_explain.specs.inner.Pages.{Adds}

-- where bytes were added, some were
pub put_adds : (old new : Option Bytes) (bytes : Bytes) → (new ≡ None) ⊎ (new ≡ option_map (λ b. b ++ bytes) old) → Adds old new
put_adds old new bytes (inl h) = inl h
put_adds old new bytes (inr h) = inr (bytes, h)

-- what holds of a page to which bytes were added
pub grown : (P Q : Bytes → Type 0) (bytes : Bytes) → ((b : Bytes) → P b → Q (b ++ bytes)) → (old new : Option Bytes) → IfSome old P → (new ≡ None) ⊎ (new ≡ option_map (λ b. b ++ bytes) old) → IfSome new Q
grown P Q bytes f old new h (inl e) = subst (λ o. IfSome o Q) (sym e) tt
grown P Q bytes f None new h (inr e) = subst (λ o. IfSome o Q) (sym e) tt
grown P Q bytes f (Some b) new h (inr e) = subst (λ o. IfSome o Q) (sym e) (f b h)

-- the same where it isn't said which bytes
pub grown_by_some : (P Q : Bytes → Type 0) → ((b bytes : Bytes) → P b → Q (b ++ bytes)) → (old new : Option Bytes) → IfSome old P → Adds old new → IfSome new Q
grown_by_some P Q f old new h (inl e) = subst (λ o. IfSome o Q) (sym e) tt
grown_by_some P Q f old new h (inr e) = grown P Q e.0 (λ b. f b e.0) old new h (inr e.1)

-- nothing is said of a page
pub nothing_said : (page : Option Bytes) → IfSome page (λ b. b ≡ b)
nothing_said None = tt
nothing_said (Some b) = refl

-- lines say the verdict whose words were added, whatever stands in front and behind
pub lines_say : (v : TextVerdict) (words : Bytes) → words ≡ verdict_words v → (front before all : Option Bytes) → (before ≡ None) ⊎ (before ≡ option_map (λ b. b ++ words) front) → Adds before all → IfSome all (SaysInLines v)
lines_say v words is front before all put more =
    let Ends : Bytes → Type 0 = λ b. (file : Bytes) × (b ≡ file ++ verdict_words v) in
    let ends = grown (λ b. b ≡ b) Ends words (λ b h. (b, ap (λ w. b ++ w) is)) front before (nothing_said front) put in
    let says : (b rest : Bytes) → Ends b → SaysInLines v (b ++ rest) = λ b rest h.
    record { file = h.0; place = []; rest = rest; is_said = ap (λ x. x ++ rest) h.1 ∙ append_assoc h.0 (verdict_words v) rest } in
    grown_by_some Ends (SaysInLines v) says before all ends more

-- JSON says the verdict with whose words it begins
pub json_says : (v : TextVerdict) (words : Bytes) → words ≡ json_words v → (empty before all : Option Bytes) → empty ≡ Some [] → (before ≡ None) ⊎ (before ≡ option_map (λ b. b ++ words) empty) → Adds before all → IfSome all (SaysInJson v)
json_says v words is empty before all none put more =
    let begins = grown (λ b. b ≡ []) (λ b. b ≡ json_words v) words (λ b h. ap (λ x. x ++ words) h ∙ is) empty before (subst (λ o. IfSome o (λ b. b ≡ [])) (sym none) refl) put in
    let says : (b rest : Bytes) → b ≡ json_words v → SaysInJson v (b ++ rest) = λ b rest h. record { rest = rest; is_said = ap (λ x. x ++ rest) h } in
    grown_by_some (λ b. b ≡ json_words v) (SaysInJson v) says before all begins more
