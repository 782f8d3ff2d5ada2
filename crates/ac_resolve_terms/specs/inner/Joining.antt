-- Terms that are made of parts, where memory served for each.
use Rattle.std.specs.Prelude.{◌≡◌, Option, Result, Ok}
use Rattle.ac_types.specs.declared.memory.Memory.{Memory}
use Rattle.ac_types.specs.declared.ty.Ty.{Ty}
use Rattle.ac_types.specs.ReadTypes.{typ_of}
use Rattle.ac_terms.specs.Terms.{Rec, Let, If, Marshal}
use Rattle.ac_terms.specs.Read.{expr_of}
use Rattle.ac_terms.specs.declared.term.Term.{Term}
use Rattle.ac_syntax.specs.Trees.{TypeTree}
use Rattle.ac_resolve_scopes.specs.Standard.{NamedPrimitive}
use Rattle.ac_resolve_scopes.specs.Scopes.{NameScope}
use Rattle.ac_resolve_scopes.specs.Written.{type_in, applied_tree}

-- a function with a name
pub record RecOf (S : NameScope) (T U : TypeTree) (body : Result Term Memory) (t : Term) : Type 0 where
  pub inner : Term
  pub was : body ≡ Ok inner
  pub is : expr_of t ≡ Rec (type_in S T) (type_in S U) (expr_of inner)

-- an application
pub record AppliedOf (p : Option NamedPrimitive) (f a : Result Term Memory) (t : Term) : Type 0 where
  pub function : Term
  pub argument : Term
  pub was_function : f ≡ Ok function
  pub was_argument : a ≡ Ok argument
  pub is : expr_of t ≡ applied_tree p (expr_of function) (expr_of argument)

-- a choice
pub record ChoiceOf (a b c : Result Term Memory) (t : Term) : Type 0 where
  pub test : Term
  pub so : Term
  pub otherwise : Term
  pub was_test : a ≡ Ok test
  pub was_so : b ≡ Ok so
  pub was_otherwise : c ≡ Ok otherwise
  pub is : expr_of t ≡ If (expr_of test) (expr_of so) (expr_of otherwise)

-- a term that is bound in a body
pub record LetOf (T : Result Ty Memory) (a b : Result Term Memory) (t : Term) : Type 0 where
  pub ty : Ty
  pub bound : Term
  pub body : Term
  pub was_ty : T ≡ Ok ty
  pub was_bound : a ≡ Ok bound
  pub was_body : b ≡ Ok body
  pub is : expr_of t ≡ Let (typ_of ty) (expr_of bound) (expr_of body)

-- a value that is marshalled under a mark
pub record MarshalOf (T : Result Ty Memory) (a b : Result Term Memory) (t : Term) : Type 0 where
  pub ty : Ty
  pub mark : Term
  pub value : Term
  pub was_ty : T ≡ Ok ty
  pub was_mark : a ≡ Ok mark
  pub was_value : b ≡ Ok value
  pub is : expr_of t ≡ Marshal (typ_of ty) (expr_of mark) (expr_of value)
