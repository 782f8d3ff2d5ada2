-- What the parsers of expressions find, passed on by their callers.
use Rattle.std.proofs.Common.{◌<◌, ◌≤◌, List, length, Result, Ok, Err, refl, arith}
use Rattle.std.specs.Borrow.{Bor}
use Rattle.ac_syntax.specs.Signs.{Sign}
use Rattle.ac_syntax.specs.Trees.{Tree}
use Rattle.ac_syntax.specs.ReadSigns.{read_signs}
use Rattle.ac_syntax.specs.ReadTrees.{tree_of}
use Rattle.ac_syntax.specs.declared.sign.Sign as code
use Rattle.ac_syntax.specs.declared.stop.ParseError.{ParseError}
use Rattle.ac_syntax.proofs.OnStop.{on_syntax_more}
use Rattle.ac_parser_patterns.specs.declared.build.Parsed.{Parsed}
use Rattle.ac_parser_patterns.specs.Reading.{Measured, FindsOr}
use Rattle.ac_parser_patterns.specs.Pieces.{Made}
use Rattle.ac_parser_patterns.specs.Forms.{is_measured, MakesTree}
use Rattle.ac_parser_expressions.specs.inner.Levels.{Continued}
use Rattle.ac_parser_patterns.proofs.Passed.{made_read}

-- an expression that is made of these parts is read
pub parts_read : {A : Type 0} (R : List Sign → A → List Sign → Type 0) (make : A → Tree) (parts : A) (ts rest : List code.Sign) (N : Type 0) (r : Result (Parsed × Bor (List code.Sign)) ParseError) → MakesTree (make parts) rest r → length rest < length ts → R (read_signs ts) parts (read_signs rest)
    → FindsOr r (λ x. Measured (λ l s. Made R make l (tree_of x.0.tree) s) (is_measured x.0) ts x.1.now) N
parts_read R make parts ts rest N r o less p = made_read (Made R make) ts rest (make parts) N r o less (record { parts = parts; is = refl; read = p })

-- what is read goes on with an expression
pub continued : (R S : List Sign → Tree → List Sign → Type 0) (us ts : List code.Sign) {M N : Type 0} (r : Result (Parsed × Bor (List code.Sign)) ParseError) → FindsOr r (λ x. Measured (λ l s. R l (tree_of x.0.tree) s) (is_measured x.0) us x.1.now) M
    → length us ≤ length ts → ((e : Tree) (s : List Sign) → R (read_signs us) e s → S (read_signs ts) e s) → (M → N) → FindsOr r (λ x. Continued (λ l s. S l (tree_of x.0.tree) s) (is_measured x.0) ts x.1.now) N
continued R S us ts (Ok x) o least f g = record { tree = f _ _ o.tree; height = o.height; within = omega (arith, o.shorter, least) }
continued R S us ts (Err e) o least f g = on_syntax_more e g o

-- an expression that was gone on with is read
pub gone_on : (R S : List Sign → Tree → List Sign → Type 0) (us ts : List code.Sign) {M N : Type 0} (r : Result (Parsed × Bor (List code.Sign)) ParseError) → FindsOr r (λ x. Continued (λ l s. R l (tree_of x.0.tree) s) (is_measured x.0) us x.1.now) M
    → length us < length ts → ((e : Tree) (s : List Sign) → R (read_signs us) e s → S (read_signs ts) e s) → (M → N) → FindsOr r (λ x. Measured (λ l s. S l (tree_of x.0.tree) s) (is_measured x.0) ts x.1.now) N
gone_on R S us ts (Ok x) o less f g = record { tree = f _ _ o.tree; height = o.height; shorter = omega (arith, o.within, less) }
gone_on R S us ts (Err e) o less f g = on_syntax_more e g o
