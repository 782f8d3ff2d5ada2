-- The listing of blocks of code.
use Rattle.std.specs.Prelude.{ℕ, ◌+◌, Bool, true, false, List, [], ◌++◌, codes}
use Rattle.std.specs.Fmt.{decimal, signed_decimal}
use Rattle.hex.specs.Hex.{encode_lower}
use Rattle.ac_types.specs.Types.{Bytes, Typ, TInt, TBool, TStr, TUnit, TExn, TTuple, TList, TOpt, TFun, TAbs, TMine, Typs, no_types, typ}
use Rattle.ac_types.specs.Exceptions.{exception_name}
use Rattle.ac_types.specs.Primitives.{primitive_name}
use Rattle.ac_terms.specs.Terms.{Home, Main, In, Pattern, PWild, PVar, PInt, PBool, PStr, PUnit, PTuple, PNil, PCons, PAbsent, PPresent, PExn, PExnOf, Patterns, no_patterns, pattern'}
use Rattle.ac_code.specs.Code.{Instr, PushInt, PushBool, PushStr, PushUnit, PushNil, PushNone, MakeExn, MakeSome, MakeCons, MakeTuple, Var, Own, Ref, Closure, RecClosure, Constant, RecConstant, Apply, Return, Bind, Unbind, Drop, Jump, JumpIfNot, Test, NoMatch, Prim, Try, EndTry, Raise, Marshal, Unmarshal, Stop, Block, Code}
use Rattle.ac_text.specs.Literals.{literal}
use Rattle.ac_text.specs.NumberedLines.{lines_from}

abbrev pub truth_word : Bool → Bytes
truth_word true = codes "true"
truth_word false = codes "false"

-- types: those with parts stand in parentheses; an abstract type is 64 digits, a dot and its identifier. `parts_shown` has the first part behind some bytes, and each other behind ` * `
abbrev mutual
  pub type_shown : Typ → Bytes
  type_shown TInt = codes "int"
  type_shown TBool = codes "bool"
  type_shown TStr = codes "string"
  type_shown TUnit = codes "unit"
  type_shown TExn = codes "exn"
  type_shown (TTuple Ts) = codes "(" ++ parts_shown [] Ts ++ codes ")"
  type_shown (TList T) = codes "(" ++ type_shown T ++ codes " list)"
  type_shown (TOpt T) = codes "(" ++ type_shown T ++ codes " option)"
  type_shown (TFun T U) = codes "(" ++ type_shown T ++ codes " -> " ++ type_shown U ++ codes ")"
  type_shown (TAbs n t) = encode_lower n ++ codes "." ++ t
  type_shown (TMine t) = t

  pub parts_shown : Bytes → Typs → Bytes
  parts_shown front no_types = []
  parts_shown front (typ T Ts) = front ++ type_shown T ++ parts_shown (codes " * ") Ts

-- patterns: a variable is its type in parentheses
abbrev mutual
  pub pattern_shown : Pattern → Bytes
  pattern_shown PWild = codes "_"
  pattern_shown (PVar T) = codes "(" ++ type_shown T ++ codes ")"
  pattern_shown (PInt n) = signed_decimal n
  pattern_shown (PBool b) = truth_word b
  pattern_shown (PStr s) = literal s
  pattern_shown PUnit = codes "()"
  pattern_shown (PTuple ps) = codes "(" ++ patterns_shown [] ps ++ codes ")"
  pattern_shown PNil = codes "[]"
  pattern_shown (PCons p q) = codes "(" ++ pattern_shown p ++ codes " :: " ++ pattern_shown q ++ codes ")"
  pattern_shown PAbsent = codes "None"
  pattern_shown (PPresent p) = codes "(Some " ++ pattern_shown p ++ codes ")"
  pattern_shown (PExn k) = exception_name k
  pattern_shown (PExnOf k p) = codes "(" ++ exception_name k ++ codes " " ++ pattern_shown p ++ codes ")"

  pub patterns_shown : Bytes → Patterns → Bytes
  patterns_shown front no_patterns = []
  patterns_shown front (pattern' p ps) = front ++ pattern_shown p ++ patterns_shown (codes ", ") ps

-- instructions: the name and the operands. An exception is its number, a primitive its name
abbrev pub instr_shown : Instr → Bytes
instr_shown (PushInt n) = codes "PushInt " ++ signed_decimal n
instr_shown (PushBool b) = codes "PushBool " ++ truth_word b
instr_shown (PushStr s) = codes "PushStr " ++ literal s
instr_shown PushUnit = codes "PushUnit"
instr_shown PushNil = codes "PushNil"
instr_shown PushNone = codes "PushNone"
instr_shown (MakeExn k) = codes "MakeExn " ++ decimal k
instr_shown MakeSome = codes "MakeSome"
instr_shown MakeCons = codes "MakeCons"
instr_shown (MakeTuple n) = codes "MakeTuple " ++ decimal n
instr_shown (Var i) = codes "Var " ++ decimal i
instr_shown (Own f) = codes "Own " ++ decimal f
instr_shown (Ref j x) = codes "Ref " ++ decimal j ++ codes " " ++ x
instr_shown (Closure b) = codes "Closure " ++ decimal b
instr_shown (RecClosure b) = codes "RecClosure " ++ decimal b
instr_shown (Constant b) = codes "Constant " ++ decimal b
instr_shown (RecConstant b) = codes "RecConstant " ++ decimal b
instr_shown Apply = codes "Apply"
instr_shown Return = codes "Return"
instr_shown Bind = codes "Bind"
instr_shown (Unbind n) = codes "Unbind " ++ decimal n
instr_shown Drop = codes "Drop"
instr_shown (Jump a) = codes "Jump " ++ decimal a
instr_shown (JumpIfNot a) = codes "JumpIfNot " ++ decimal a
instr_shown (Test p a) = codes "Test " ++ pattern_shown p ++ codes " " ++ decimal a
instr_shown NoMatch = codes "NoMatch"
instr_shown (Prim k) = codes "Prim " ++ primitive_name k
instr_shown (Try a) = codes "Try " ++ decimal a
instr_shown EndTry = codes "EndTry"
instr_shown Raise = codes "Raise"
instr_shown (Marshal T) = codes "Marshal " ++ type_shown T
instr_shown (Unmarshal T) = codes "Unmarshal " ++ type_shown T
instr_shown Stop = codes "Stop"

-- the line of the instruction at this address
abbrev pub instr_line : ℕ → Instr → Bytes
instr_line address i = decimal address ++ codes " " ++ instr_shown i ++ codes "\n"

abbrev pub instr_lines : List Instr → Bytes
instr_lines is = lines_from instr_line 0 is

abbrev pub home_shown : Home → Bytes
home_shown Main = codes "main"
home_shown (In entry) = codes "entry " ++ decimal entry

-- the lines of the block of that number
abbrev pub block_lines : ℕ → Block → Bytes
block_lines number b = codes "block " ++ decimal number ++ codes " " ++ home_shown b.home ++ codes "\n" ++ instr_lines b.instrs

abbrev pub listing_of : Code → Bytes
listing_of K = lines_from block_lines 0 K.blocks
