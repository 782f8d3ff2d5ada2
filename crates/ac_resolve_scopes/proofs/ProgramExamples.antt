-- Whole programs, computed. Each text stands above its tree.
use Rattle.std.proofs.Common.{◌≡◌, refl}
use Rattle.std.specs.Prelude.{pos, true, false, [], ◌∷◌, codes, Some, None, Ok}
use Rattle.ac_types.specs.Primitives as primitives
use Rattle.ac_types.specs.Types.{Bytes, Typ, TInt, TStr, TUnit, TTuple, TList, TFun, TAbs, TMine, typs}
use Rattle.ac_types.specs.Sigs.{Signature, Number, One, Ranges, HereAlready}
use Rattle.ac_terms.specs.Terms.{PVar, PExnOf, Str, Unit', Cons, Tuple, Nil, Var, Ref, Lam, App, Let, Seq, Try, Prim, Marshal, Unmarshal, exprs, arms}
use Rattle.ac_terms.specs.Defs.{Def, AMark}
use Rattle.ac_syntax.specs.Trees.{TyInt, TyStr, TyUnit, TyLocal, TyOf, TyTuple, TyList, TyFun, type_trees, PatVar, PatExnOf, ExInt, ExStr, ExUnit, ExCons, ExTuple, ExNil, ExVar, ExOf, ExFun, ExApp, ExLet, ExSeq, ExTry, ExOp, ExMarshal, ExUnmarshal, trees, arm_trees, AbstractSpec, ValSpec, AbbrevField, ValField, WantsVersion, ModuleDef, ImportDef, MarkDef}
use Rattle.ac_resolve_scopes.specs.Surfaces.{Unbound, Repeated}
use Rattle.ac_resolve_scopes.proofs.Samples.{name, sig, abbreviation, program, typed, abstract, signature, field, a_module, an_import, one_function, number, refuses, means, adds, named, A, B, C, L, M, N, f, g, l, s, t, u, v, x, y, z}

abbrev make : Bytes
make = codes "make"

abbrev get : Bytes
get = codes "get"

abbrev counter_sig : Signature
counter_sig = signature (abstract t ∷ []) (typed make (TFun TInt (TMine t)) ∷ typed get (TFun (TMine t) TInt) ∷ [])

abbrev counter_module : Def
counter_module = a_module C counter_sig (typed t TInt ∷ []) (field make (TFun TInt TInt) (Lam TInt (Prim primitives.add (exprs (Var 0 ∷ number 1 ∷ [])))) ∷ field get (TFun TInt TInt) (Lam TInt (Var 0)) ∷ [])

abbrev list_module : Def
list_module = a_module L counter_sig (typed t TInt ∷ []) (field make (TFun TInt TInt) (Lam TInt (Var 0)) ∷ field get (TFun TInt TInt) (Lam TInt (Var 0)) ∷ [])

abbrev version_import : Def
version_import = an_import M (signature (abstract t ∷ []) (typed v (TMine t) ∷ [])) (Ranges (One 1 ∷ []) false) (typed t TInt ∷ []) (HereAlready ∷ [])

module _ (digest : Bytes → Bytes) where
  -- their types t from outside
  abbrev counter_t : Typ
  counter_t = TAbs (named digest [] counter_module) t

  abbrev list_t : Typ
  list_t = TAbs (named digest [] list_module) t

  abbrev import_t : Typ
  import_t = TAbs (named digest [] version_import) t

  -- a module with an abstract type, behind a mark
  --   mark "MK" module C : sig type t val make : int -> t val get : t -> int end = struct type t = int val make : int -> t = fun (x : int) -> x + 1 val get : t -> int = fun (x : t) -> x end C.get (C.make 4) + 1
  counter : adds digest [] (program (MarkDef 0 5 (codes "MK") ∷ ModuleDef 10 (name 17 C) (sig 21 (AbstractSpec (name 30 t) ∷ ValSpec (name 36 make) (TyFun 43 (TyInt 43) (TyLocal 50 t)) ∷ ValSpec (name 56 get) (TyFun 62 (TyLocal 62 t) (TyInt 67)) ∷ [])) None (AbbrevField (abbreviation (name 89 t) (TyInt 93)) ∷ ValField (name 101 make) (TyFun 108 (TyInt 108) (TyLocal 115 t)) (ExFun 119 (name 124 x) (TyInt 128) (ExOp 136 primitives.add (trees (ExVar 136 x ∷ ExInt 140 (pos 1) ∷ [])))) ∷ ValField (name 146 get) (TyFun 152 (TyLocal 152 t) (TyInt 157)) (ExFun 163 (name 168 x) (TyLocal 172 t) (ExVar 178 x)) ∷ []) ∷ []) (ExOp 184 primitives.add (trees (ExApp 184 (ExOf 184 (name 184 C) (name 186 get)) (ExApp 191 (ExOf 191 (name 191 C) (name 193 make)) (ExInt 198 (pos 4))) ∷ ExInt 203 (pos 1) ∷ [])))) ≡ Ok (AMark (codes "MK") ∷ counter_module ∷ [])
  counter = refl

  -- its values and its type in an expression
  --   mark "MK" module C : sig type t val make : int -> t val get : t -> int end = struct type t = int val make : int -> t = fun (x : int) -> x + 1 val get : t -> int = fun (x : t) -> x end let x : C.t = C.make 4 in C.get x
  counted : means digest [] (program (MarkDef 0 5 (codes "MK") ∷ ModuleDef 10 (name 17 C) (sig 21 (AbstractSpec (name 30 t) ∷ ValSpec (name 36 make) (TyFun 43 (TyInt 43) (TyLocal 50 t)) ∷ ValSpec (name 56 get) (TyFun 62 (TyLocal 62 t) (TyInt 67)) ∷ [])) None (AbbrevField (abbreviation (name 89 t) (TyInt 93)) ∷ ValField (name 101 make) (TyFun 108 (TyInt 108) (TyLocal 115 t)) (ExFun 119 (name 124 x) (TyInt 128) (ExOp 136 primitives.add (trees (ExVar 136 x ∷ ExInt 140 (pos 1) ∷ [])))) ∷ ValField (name 146 get) (TyFun 152 (TyLocal 152 t) (TyInt 157)) (ExFun 163 (name 168 x) (TyLocal 172 t) (ExVar 178 x)) ∷ []) ∷ []) (ExLet 184 (name 188 x) (TyOf 192 (name 192 C) (name 194 t)) (ExApp 198 (ExOf 198 (name 198 C) (name 200 make)) (ExInt 205 (pos 4))) (ExApp 210 (ExOf 210 (name 210 C) (name 212 get)) (ExVar 216 x)))) ≡ Ok (Let counter_t (App (Ref 1 make) (number 4)) (App (Ref 1 get) (Var 0)))
  counted = refl

  -- a value that is marshalled at it
  --   mark "MK" module C : sig type t val make : int -> t val get : t -> int end = struct type t = int val make : int -> t = fun (x : int) -> x + 1 val get : t -> int = fun (x : t) -> x end IO.send (marshal "MK" (C.make 4) : C.t)
  sent : means digest [] (program (MarkDef 0 5 (codes "MK") ∷ ModuleDef 10 (name 17 C) (sig 21 (AbstractSpec (name 30 t) ∷ ValSpec (name 36 make) (TyFun 43 (TyInt 43) (TyLocal 50 t)) ∷ ValSpec (name 56 get) (TyFun 62 (TyLocal 62 t) (TyInt 67)) ∷ [])) None (AbbrevField (abbreviation (name 89 t) (TyInt 93)) ∷ ValField (name 101 make) (TyFun 108 (TyInt 108) (TyLocal 115 t)) (ExFun 119 (name 124 x) (TyInt 128) (ExOp 136 primitives.add (trees (ExVar 136 x ∷ ExInt 140 (pos 1) ∷ [])))) ∷ ValField (name 146 get) (TyFun 152 (TyLocal 152 t) (TyInt 157)) (ExFun 163 (name 168 x) (TyLocal 172 t) (ExVar 178 x)) ∷ []) ∷ []) (ExApp 184 (ExOf 184 (name 184 (codes "IO")) (name 187 (codes "send"))) (ExMarshal 193 (ExStr 201 (codes "MK")) (ExApp 207 (ExOf 207 (name 207 C) (name 209 make)) (ExInt 214 (pos 4))) (TyOf 219 (name 219 C) (name 221 t))))) ≡ Ok (Prim primitives.send (exprs (Marshal counter_t (Str (codes "MK")) (App (Ref 1 make) (number 4)) ∷ [])))
  sent = refl

  -- one that is unmarshalled
  --   mark "MK" module C : sig type t val make : int -> t val get : t -> int end = struct type t = int val make : int -> t = fun (x : int) -> x + 1 val get : t -> int = fun (x : t) -> x end IO.print_int (C.get (unmarshal (IO.receive ()) as C.t))
  received : means digest [] (program (MarkDef 0 5 (codes "MK") ∷ ModuleDef 10 (name 17 C) (sig 21 (AbstractSpec (name 30 t) ∷ ValSpec (name 36 make) (TyFun 43 (TyInt 43) (TyLocal 50 t)) ∷ ValSpec (name 56 get) (TyFun 62 (TyLocal 62 t) (TyInt 67)) ∷ [])) None (AbbrevField (abbreviation (name 89 t) (TyInt 93)) ∷ ValField (name 101 make) (TyFun 108 (TyInt 108) (TyLocal 115 t)) (ExFun 119 (name 124 x) (TyInt 128) (ExOp 136 primitives.add (trees (ExVar 136 x ∷ ExInt 140 (pos 1) ∷ [])))) ∷ ValField (name 146 get) (TyFun 152 (TyLocal 152 t) (TyInt 157)) (ExFun 163 (name 168 x) (TyLocal 172 t) (ExVar 178 x)) ∷ []) ∷ []) (ExApp 184 (ExOf 184 (name 184 (codes "IO")) (name 187 (codes "print_int"))) (ExApp 198 (ExOf 198 (name 198 C) (name 200 get)) (ExUnmarshal 205 (ExApp 216 (ExOf 216 (name 216 (codes "IO")) (name 219 (codes "receive"))) (ExUnit 227)) (TyOf 234 (name 234 C) (name 236 t)))))) ≡ Ok (Prim primitives.print_int (exprs (App (Ref 1 get) (Unmarshal counter_t (Prim primitives.receive (exprs (Unit' ∷ [])))) ∷ [])))
  received = refl

  -- a function over an import and a module behind a mark
  --   module M : sig val y : int end version 1 = struct val y : int = 6 end import M : sig val y : int end version * by Here_Already mark "MK" module N : sig val z : int end = struct val z : int = 3 end IO.send (marshal "MK" (fun (u : unit) -> (M.y, N.z)) : unit -> int * int)
  two_definitions_in_a_function : means digest [] (program (ModuleDef 0 (name 7 M) (sig 11 (ValSpec (name 19 y) (TyInt 23) ∷ [])) (Some (Number 1 ∷ [])) (ValField (name 54 y) (TyInt 58) (ExInt 64 (pos 6)) ∷ []) ∷ ImportDef 70 (name 77 M) (sig 81 (ValSpec (name 89 y) (TyInt 93) ∷ [])) (WantsVersion (Ranges [] true)) None (HereAlready ∷ []) ∷ MarkDef 127 132 (codes "MK") ∷ ModuleDef 137 (name 144 N) (sig 148 (ValSpec (name 156 z) (TyInt 160) ∷ [])) None (ValField (name 181 z) (TyInt 185) (ExInt 191 (pos 3)) ∷ []) ∷ []) (ExApp 197 (ExOf 197 (name 197 (codes "IO")) (name 200 (codes "send"))) (ExMarshal 206 (ExStr 214 (codes "MK")) (ExFun 220 (name 225 u) (TyUnit 229) (ExTuple 238 (trees (ExOf 239 (name 239 M) (name 241 y) ∷ ExOf 244 (name 244 N) (name 246 z) ∷ [])))) (TyFun 252 (TyUnit 252) (TyTuple 260 (type_trees (TyInt 260 ∷ TyInt 266 ∷ []))))))) ≡ Ok (Prim primitives.send (exprs (Marshal (TFun TUnit (TTuple (typs (TInt ∷ TInt ∷ [])))) (Str (codes "MK")) (Lam TUnit (Tuple (exprs (Ref 1 y ∷ Ref 3 z ∷ [])))) ∷ [])))
  two_definitions_in_a_function = refl

  -- a field that is a value of another module
  --   module A : sig val f : int -> int end = struct val f : int -> int = fun (x : int) -> x + 1 end module B : sig type t val f : t -> t end = struct type t = int val f : t -> t = A.f end IO.send (marshal "MK" B.f : B.t -> B.t)
  value_of_another : adds digest [] (program (ModuleDef 0 (name 7 A) (sig 11 (ValSpec (name 19 f) (TyFun 23 (TyInt 23) (TyInt 30)) ∷ [])) None (ValField (name 51 f) (TyFun 55 (TyInt 55) (TyInt 62)) (ExFun 68 (name 73 x) (TyInt 77) (ExOp 85 primitives.add (trees (ExVar 85 x ∷ ExInt 89 (pos 1) ∷ [])))) ∷ []) ∷ ModuleDef 95 (name 102 B) (sig 106 (AbstractSpec (name 115 t) ∷ ValSpec (name 121 f) (TyFun 125 (TyLocal 125 t) (TyLocal 130 t)) ∷ [])) None (AbbrevField (abbreviation (name 150 t) (TyInt 154)) ∷ ValField (name 162 f) (TyFun 166 (TyLocal 166 t) (TyLocal 171 t)) (ExOf 175 (name 175 A) (name 177 f)) ∷ []) ∷ []) (ExApp 183 (ExOf 183 (name 183 (codes "IO")) (name 186 (codes "send"))) (ExMarshal 192 (ExStr 200 (codes "MK")) (ExOf 205 (name 205 B) (name 207 f)) (TyFun 211 (TyOf 211 (name 211 B) (name 213 t)) (TyOf 218 (name 218 B) (name 220 t)))))) ≡ Ok (one_function A f (Lam TInt (Prim primitives.add (exprs (Var 0 ∷ number 1 ∷ [])))) ∷ a_module B (signature (abstract t ∷ []) (typed f (TFun (TMine t) (TMine t)) ∷ [])) (typed t TInt ∷ []) (field f (TFun TInt TInt) (Ref 0 f) ∷ []) ∷ [])
  value_of_another = refl

  -- lists of an abstract type, through two functions
  --   mark "MK" module L : sig type t val make : int -> t val get : t -> int end = struct type t = int val make : int -> t = fun (x : int) -> x val get : t -> int = fun (x : t) -> x end let l : L.t list = L.make 1 :: L.make 2 :: ([] : L.t list) in let f : unit -> L.t list = fun (u : unit) -> l in let g : unit -> unit -> L.t list = fun (u : unit) -> f in g
  lists_of_it : means digest [] (program (MarkDef 0 5 (codes "MK") ∷ ModuleDef 10 (name 17 L) (sig 21 (AbstractSpec (name 30 t) ∷ ValSpec (name 36 make) (TyFun 43 (TyInt 43) (TyLocal 50 t)) ∷ ValSpec (name 56 get) (TyFun 62 (TyLocal 62 t) (TyInt 67)) ∷ [])) None (AbbrevField (abbreviation (name 89 t) (TyInt 93)) ∷ ValField (name 101 make) (TyFun 108 (TyInt 108) (TyLocal 115 t)) (ExFun 119 (name 124 x) (TyInt 128) (ExVar 136 x)) ∷ ValField (name 142 get) (TyFun 148 (TyLocal 148 t) (TyInt 153)) (ExFun 159 (name 164 x) (TyLocal 168 t) (ExVar 174 x)) ∷ []) ∷ []) (ExLet 180 (name 184 l) (TyList 188 (TyOf 188 (name 188 L) (name 190 t))) (ExCons 199 (ExApp 199 (ExOf 199 (name 199 L) (name 201 make)) (ExInt 206 (pos 1))) (ExCons 211 (ExApp 211 (ExOf 211 (name 211 L) (name 213 make)) (ExInt 218 (pos 2))) (ExNil 223 (TyList 229 (TyOf 229 (name 229 L) (name 231 t)))))) (ExLet 242 (name 246 f) (TyFun 250 (TyUnit 250) (TyList 258 (TyOf 258 (name 258 L) (name 260 t)))) (ExFun 269 (name 274 u) (TyUnit 278) (ExVar 287 l)) (ExLet 292 (name 296 g) (TyFun 300 (TyUnit 300) (TyFun 308 (TyUnit 308) (TyList 316 (TyOf 316 (name 316 L) (name 318 t))))) (ExFun 327 (name 332 u) (TyUnit 336) (ExVar 345 f)) (ExVar 350 g))))) ≡ Ok (Let (TList list_t) (Cons (App (Ref 1 make) (number 1)) (Cons (App (Ref 1 make) (number 2)) (Nil (TList list_t)))) (Let (TFun TUnit (TList list_t)) (Lam TUnit (Var 1)) (Let (TFun TUnit (TFun TUnit (TList list_t))) (Lam TUnit (Var 1)) (Var 0))))
  lists_of_it = refl

  -- a handler, and a sequence behind it
  --   import M : sig type t val v : t end version 1 like struct type t = int end by Here_Already try let f : unit -> M.t = unmarshal (IO.receive ()) as unit -> M.t in () with Resolve_failure (s : string) -> IO.print_string s end; IO.print_int 1
  handled : means digest [] (program (ImportDef 0 (name 7 M) (sig 11 (AbstractSpec (name 20 t) ∷ ValSpec (name 26 v) (TyLocal 30 t) ∷ [])) (WantsVersion (Ranges (One 1 ∷ []) false)) (Some (abbreviation (name 63 t) (TyInt 67) ∷ [])) (HereAlready ∷ []) ∷ []) (ExSeq 91 (trees (ExTry 91 (ExLet 95 (name 99 f) (TyFun 103 (TyUnit 103) (TyOf 111 (name 111 M) (name 113 t))) (ExUnmarshal 117 (ExApp 128 (ExOf 128 (name 128 (codes "IO")) (name 131 (codes "receive"))) (ExUnit 139)) (TyFun 146 (TyUnit 146) (TyOf 154 (name 154 M) (name 156 t)))) (ExUnit 161)) (arm_trees ((PatExnOf 169 9 (PatVar 185 (name 186 s) (TyStr 190)), ExApp 201 (ExOf 201 (name 201 (codes "IO")) (name 204 (codes "print_string"))) (ExVar 217 s)) ∷ [])) ∷ ExApp 224 (ExOf 224 (name 224 (codes "IO")) (name 227 (codes "print_int"))) (ExInt 237 (pos 1)) ∷ [])))) ≡ Ok (Seq (exprs (Try (Let (TFun TUnit import_t) (Unmarshal (TFun TUnit import_t) (Prim primitives.receive (exprs (Unit' ∷ [])))) Unit') (arms ((PExnOf 9 (PVar TStr), Prim primitives.print_string (exprs (Var 0 ∷ []))) ∷ [])) ∷ Prim primitives.print_int (exprs (number 1 ∷ [])) ∷ [])))
  handled = refl

  -- an argument that is unbound
  --   IO.print_int x
  unbound_argument : refuses digest [] (program [] (ExApp 0 (ExOf 0 (name 0 (codes "IO")) (name 3 (codes "print_int"))) (ExVar 13 x))) ≡ Some (Unbound 13)
  unbound_argument = refl

  -- one mark twice
  --   mark "A" mark "A" ()
  one_mark_twice : refuses digest [] (program (MarkDef 0 5 (codes "A") ∷ MarkDef 9 14 (codes "A") ∷ []) (ExUnit 18)) ≡ Some (Repeated 14)
  one_mark_twice = refl
