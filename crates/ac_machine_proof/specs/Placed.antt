-- Tables in which the code of the definitions stands, as the scheme gives it.
use Rattle.std.specs.Prelude.{◌≡◌, ℕ, suc, ◌+◌, List, [], ◌∷◌, ◌++◌, Option, Some, None, slice_get}
use Rattle.ac_types.specs.Types.{Typ, TFun}
use Rattle.ac_terms.specs.Terms.{Home, In, Expr, Lam, Rec}
use Rattle.ac_terms.specs.Defs.{Environment}
use Rattle.ac_code.specs.Code as instr
use Rattle.ac_code.specs.Code.{Block, Code, field_code}
use Rattle.ac_generate.specs.Sizes.{lambdas}
use Rattle.ac_generate.specs.Generate.{code as code_at, blocks}
use Rattle.ac_generate.specs.Generated.{term_blocks}
use Rattle.ac_meaning.specs.References.{own_field}
use Rattle.ac_machine_proof.specs.Source.{IsOfSource}

-- a list stands in another from an address on
abbrev pub PlacedPart : {X : Type 0} → List X → ℕ → List X → Type 0
PlacedPart l p [] = Unit {0}
PlacedPart l p (x ∷ xs) = (slice_get l p ≡ Some x) × PlacedPart l (suc p) xs

module _ (K : Code) where
  -- block b is the own block of a term, and those of the term's lambdas stand before it
  pub record HasCode (c : Home) (e : Expr) (b : ℕ) : Type 0 where
    pub first : ℕ
    pub is : b ≡ first + lambdas e
    pub made : PlacedPart K.blocks first (term_blocks c e first)
    pub source : IsOfSource e

  -- a block holds the code of a function's body, and those of the body's lambdas stand in the table
  pub record HasBody (c : Home) (G : List Typ) (e : Expr) (is : List instr.Instr) : Type 0 where
    pub first : ℕ
    pub code : is ≡ code_at e 0 first ++ instr.Return ∷ []
    pub made : PlacedPart K.blocks first (blocks c G e first)
    pub source : IsOfSource e

  -- where a block was made from a lambda, it is that one's
  abbrev pub HasLambda : Home → Option Expr → List Typ → List instr.Instr → Type 0
  HasLambda c None G is = Unit {0}
  HasLambda c (Some (Lam T e)) G is = HasBody c (T ∷ G) e is
  HasLambda c (Some (Rec T U e)) G is = HasBody c (T ∷ TFun T U ∷ G) e is
  HasLambda c (Some e) G is = ⊥

  abbrev pub IsCompiled : Option Block → Type 0
  IsCompiled None = Unit {0}
  IsCompiled (Some b) = HasLambda b.home b.lambda b.context b.instrs

  -- the block of a field, where there is such a field
  abbrev pub HasField : ℕ → Option Expr → Option ℕ → Type 0
  HasField j None o = o ≡ None
  HasField j (Some e) None = ⊥
  HasField j (Some e) (Some b) = HasCode (In j) e b

-- every block of a lambda is as the scheme says, each field has its block, and no two fields have the same
pub record IsPlaced (E : Environment) (K : Code) : Type 0 where
  pub lambdas : (b : ℕ) → IsCompiled K (slice_get K.blocks b)
  pub fields : (j f : ℕ) → HasField K j (own_field E (In j) f) (field_code K j f)
  pub own : (i f j g b : ℕ) → field_code K i f ≡ Some b → field_code K j g ≡ Some b → (i ≡ j) × (f ≡ g)
