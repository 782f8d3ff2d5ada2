-- The values of the machine that stand for something.
use Rattle.std.specs.Prelude.{Option, Some, None, slice_get}
use Rattle.ac_code.specs.Code.{Block, Code}
use Rattle.ac_values.specs.Values.{MValue, MStr, MExnOf, MTuple, MCons, MPresent, MClosure, MEnd, MMore, MValues, nothing, also}

-- the text of an exception is a string; an environment is no value
abbrev pub IsText : MValue → Type 0
IsText (MStr s) = Unit {0}
IsText m = ⊥

abbrev pub IsThere : Option Block → Type 0
IsThere None = ⊥
IsThere (Some b) = Unit {0}

-- the block of a closure is in the table
module _ (K : Code) where
  abbrev mutual
    pub Valid : MValue → Type 0
    Valid (MExnOf k m) = IsText m
    Valid (MTuple ms) = AllValid ms
    Valid (MCons a b) = Valid a × Valid b
    Valid (MPresent a) = Valid a
    Valid (MClosure b r es) = IsThere (slice_get K.blocks b) × ValidEnv es
    Valid MEnd = ⊥
    Valid (MMore a b) = ⊥
    Valid m = Unit {0}

    pub AllValid : MValues → Type 0
    AllValid nothing = Unit {0}
    AllValid (also m ms) = Valid m × AllValid ms

    pub ValidEnv : MValue → Type 0
    ValidEnv (MMore a b) = Valid a × ValidEnv b
    ValidEnv m = Unit {0}
