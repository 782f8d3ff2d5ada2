-- What a word looks like to clap and to a form.
use Rattle.std.proofs.Common.{◌≡◌, ℕ, Bool, true, false, true≢false, refl, sym, [], ◌∷◌, Option, Some, None}
use Rattle.std.specs.Prelude.{◌==◌}
use Rattle.std.specs.List.{before_first}
use Rattle.std.specs.Str.{bytes_eq}
use Rattle.clap.specs.Lexer.{long_of, short_of}
use Rattle.acute_words.specs.Form.{Text, is_fit, look_of, named, plain, option_value}

-- to both the word is an option
pub record IsNamed (w n : Text) (v : Option Text) : Type 0 where
  pub look : look_of w ≡ named n v
  pub ends : bytes_eq w (45 ∷ 45 ∷ []) ≡ false
  pub long : long_of w ≡ Some (n, v)

-- to both the word is a plain one
pub record IsPlain (w : Text) : Type 0 where
  pub look : look_of w ≡ plain
  pub ends : bytes_eq w (45 ∷ 45 ∷ []) ≡ false
  pub long : long_of w ≡ None
  pub short : short_of w ≡ None

-- a word that may stand after a command's name, by what it is
pub data View (w : Text) : Type 0 where
  as_named : (n : Text) (v : Option Text) → IsNamed w n v → View w
  as_plain : IsPlain w → View w

-- a word that begins with two hyphens
pub view_hyphens : (x y : ℕ) (xs : Text) → (x == 45) ≡ true → (y == 45) ≡ true → is_fit (x ∷ y ∷ xs) ≡ true → View (x ∷ y ∷ xs)
view_hyphens x y [] e d fit = let bad : false ≡ true = rw (e, d) at fit in absurd (true≢false (sym bad))
view_hyphens x y (z ∷ zs) e d fit =
    as_named (before_first (λ c. c == 61) (z ∷ zs)) (option_value (z ∷ zs)) (record { look = rw (e, d) refl; ends = rw (e, d) refl; long = rw (e, d) refl })

-- a word that isn't refused is an option or plain, to both
pub view : (w : Text) → is_fit w ≡ true → View w
view [] fit = as_plain (record { look = refl; ends = refl; long = refl; short = refl })
view (x ∷ []) fit = go (x == 45) refl
  where
    go : (b : Bool) → (x == 45) ≡ b → View (x ∷ [])
    go true e = as_plain (record { look = rw e refl; ends = rw e refl; long = rw e refl; short = rw e refl })
    go false e = as_plain (record { look = rw e refl; ends = rw e refl; long = rw e refl; short = rw e refl })
view (x ∷ y ∷ xs) fit = go (x == 45) (y == 45) refl refl
  where
    go : (b c : Bool) → (x == 45) ≡ b → (y == 45) ≡ c → View (x ∷ y ∷ xs)
    go true true e d = view_hyphens x y xs e d fit
    go true false e d = let bad : false ≡ true = rw (e, d) at fit in absurd (true≢false (sym bad))
    go false c e d = as_plain (record { look = rw e refl; ends = rw e refl; long = rw e refl; short = rw e refl })
