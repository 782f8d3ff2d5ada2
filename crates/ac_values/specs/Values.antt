-- What a number of a store stands for.
use Rattle.std.specs.Prelude.{ℕ, ℤ, Bool, List, [], ◌∷◌, get_or}
use Rattle.ac_types.specs.ReadNumbers.{bare_number, texted_number}
use Rattle.ac_values.specs.declared.node.Node.{Node}
use Rattle.ac_values.specs.declared.node.Value.{Value}
use Rattle.ac_values.specs.declared.node.Node.TheVariants.{Int, Bool as BoolNode, Str, Unit as UnitNode, Exn, ExnOf, Tuple, Nil, Cons, Absent, Present, Closure, EnvEnd, EnvCons}
use Rattle.ac_values.specs.Building.{built}

-- a machine value, or a list of them: MEnd, or MMore with the newest and the rest
mutual
  pub data MValue : Type 0 where
    MInt : ℤ → MValue
    MBool : Bool → MValue
    MStr : List ℕ → MValue
    MUnit : MValue
    MExn : ℕ → MValue
    MExnOf : ℕ → MValue → MValue
    MTuple : MValues → MValue
    MNil : MValue
    MCons : MValue → MValue → MValue
    MAbsent : MValue
    MPresent : MValue → MValue
    MClosure : ℕ → Bool → MValue → MValue
    MEnd : MValue
    MMore : MValue → MValue → MValue

  pub data MValues : Type 0 where
    nothing : MValues
    also : MValue → MValues → MValues

-- value k of a table
abbrev pub value_at : List MValue → ℕ → MValue
value_at ts k = get_or ts k MUnit

abbrev pub values_at : List MValue → List Value → MValues
values_at ts [] = nothing
values_at ts (v ∷ vs) = also (value_at ts v.0) (values_at ts vs)

-- the value of a node, whose parts are in the table
abbrev pub node_value : List MValue → Node → MValue
node_value ts (Int i) = MInt i
node_value ts (BoolNode b) = MBool b
node_value ts (Str s) = MStr s.0
node_value ts UnitNode = MUnit
node_value ts (Exn x) = MExn (bare_number x)
node_value ts (ExnOf x v) = MExnOf (texted_number x) (value_at ts v.0)
node_value ts (Tuple vs) = MTuple (values_at ts vs)
node_value ts Nil = MNil
node_value ts (Cons a b) = MCons (value_at ts a.0) (value_at ts b.0)
node_value ts Absent = MAbsent
node_value ts (Present a) = MPresent (value_at ts a.0)
node_value ts (Closure b r env) = MClosure b.0 r (value_at ts env.0)
node_value ts EnvEnd = MEnd
node_value ts (EnvCons a b) = MMore (value_at ts a.0) (value_at ts b.0)

-- the values of all nodes of a store, each made from those before it
unfoldable pub values : List Node → List MValue
values ns = built node_value [] ns

-- what a number stands for
abbrev pub stands_as : List Node → ℕ → MValue
stands_as ns k = value_at (values ns) k
