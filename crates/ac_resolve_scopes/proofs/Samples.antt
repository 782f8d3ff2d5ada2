-- Surfaces and definitions for examples, written short, and what is asked of them.
use Rattle.std.specs.Prelude.{ℕ, pos, pred, List, [], ◌∷◌, map, length, drop, slice_get, codes, Option, Some, None, option_map, unwrap_or, Result, Ok, Err}
use Rattle.ac_types.specs.Types.{Bytes, Typ, TInt, TFun}
use Rattle.ac_types.specs.Sigs.{Typed_name, Sig_type, Signature, MyName, Constraint, Resolve}
use Rattle.ac_terms.specs.Terms.{Expr, Int}
use Rattle.ac_terms.specs.Defs.{Environment, Entry, Field, Def, AModule, AnImport}
use Rattle.ac_terms.specs.Names.{name_by}
use Rattle.ac_syntax.specs.Trees.{NameAt, TypeTree, Tree, AbbrevTree, SpecTree, SigTree, DefTree, ProgramTree}
use Rattle.ac_resolve_scopes.specs.Surfaces.{SurfaceFault, surface_entries, surface_main, surface_fault}

-- trees
abbrev pub name : ℕ → Bytes → NameAt
name at word = record { at = at; word = word }

abbrev pub abbreviation : NameAt → TypeTree → AbbrevTree
abbreviation name ty = record { name = name; ty = ty }

abbrev pub sig : ℕ → List SpecTree → SigTree
sig at specs = record { at = at; specs = specs }

-- a program, and a module by itself
abbrev pub program : List DefTree → Tree → ProgramTree
program defs expr = record { defs = defs; expr = Some expr }

abbrev pub alone : DefTree → ProgramTree
alone d = record { defs = d ∷ []; expr = None }

-- definitions
abbrev pub number : ℕ → Expr
number n = Int (pos n)

abbrev pub typed : Bytes → Typ → Typed_name
typed name ty = record { name = name; ty = ty }

abbrev pub abstract : Bytes → Sig_type
abstract name = record { name = name; manifest = None }

abbrev pub manifest : Bytes → Typ → Sig_type
manifest name ty = record { name = name; manifest = Some ty }

abbrev pub signature : List Sig_type → List Typed_name → Signature
signature types vals = record { types = types; vals = vals }

abbrev pub field : Bytes → Typ → Expr → Field
field name ty term = record { name = name; ty = ty; term = term }

-- a module without a version
abbrev pub a_module : Bytes → Signature → List Typed_name → List Field → Def
a_module name sig types fields = AModule (record { name = name; version = MyName ∷ []; sig = sig; types = types; fields = fields })

abbrev pub an_import : Bytes → Signature → Constraint → List Typed_name → List Resolve → Def
an_import name sig constraint like by = AnImport (record { name = name; sig = sig; constraint = constraint; like = like; by = by })

-- a module with one value, an int or a function of ints
abbrev pub one_value : Bytes → Bytes → Expr → Def
one_value m x e = a_module m (signature [] (typed x TInt ∷ [])) [] (field x TInt e ∷ [])

abbrev pub one_function : Bytes → Bytes → Expr → Def
one_function m f e = a_module m (signature [] (typed f (TFun TInt TInt) ∷ [])) [] (field f (TFun TInt TInt) e ∷ [])

-- what is asked of a surface p behind the entries E: names are digests, which aren't computed
module _ (digest : Bytes → Bytes) where
  abbrev pub named : Environment → Def → Bytes
  named E d = unwrap_or (name_by digest E d) []

  abbrev pub refuses : Environment → ProgramTree → Option SurfaceFault
  refuses = surface_fault digest

  abbrev pub entries_behind : Environment → ProgramTree → Environment
  entries_behind = surface_entries digest

  -- where it isn't refused
  abbrev pub unless_refused : {A : Type 0} → Option SurfaceFault → A → Result A SurfaceFault
  unless_refused None a = Ok a
  unless_refused (Some f) a = Err f

  -- its term, the definitions that it adds, the last one, and their names
  abbrev pub means : Environment → ProgramTree → Result Expr SurfaceFault
  means E p = unless_refused (refuses E p) (surface_main digest E p)

  abbrev pub added : Environment → ProgramTree → List Entry
  added E p = drop (length E) (surface_entries digest E p)

  abbrev pub adds : Environment → ProgramTree → Result (List Def) SurfaceFault
  adds E p = unless_refused (refuses E p) (map (λ (e : Entry). e.def) (added E p))

  abbrev pub last : Environment → ProgramTree → Result (Option Def) SurfaceFault
  last E p = unless_refused (refuses E p) (option_map (λ (e : Entry). e.def) (slice_get (added E p) (pred (length (added E p)))))

  abbrev pub names : Environment → ProgramTree → Result (List (Option Bytes)) SurfaceFault
  names E p = unless_refused (refuses E p) (map (λ (e : Entry). e.name) (added E p))

-- identifiers
abbrev pub A : Bytes
A = codes "A"

abbrev pub B : Bytes
B = codes "B"

abbrev pub C : Bytes
C = codes "C"

abbrev pub I : Bytes
I = codes "I"

abbrev pub J : Bytes
J = codes "J"

abbrev pub K : Bytes
K = codes "K"

abbrev pub L : Bytes
L = codes "L"

abbrev pub M : Bytes
M = codes "M"

abbrev pub N : Bytes
N = codes "N"

abbrev pub S : Bytes
S = codes "S"

abbrev pub f : Bytes
f = codes "f"

abbrev pub g : Bytes
g = codes "g"

abbrev pub k : Bytes
k = codes "k"

abbrev pub l : Bytes
l = codes "l"

abbrev pub m : Bytes
m = codes "m"

abbrev pub n : Bytes
n = codes "n"

abbrev pub p : Bytes
p = codes "p"

abbrev pub q : Bytes
q = codes "q"

abbrev pub s : Bytes
s = codes "s"

abbrev pub t : Bytes
t = codes "t"

abbrev pub u : Bytes
u = codes "u"

abbrev pub v : Bytes
v = codes "v"

abbrev pub w : Bytes
w = codes "w"

abbrev pub x : Bytes
x = codes "x"

abbrev pub y : Bytes
y = codes "y"

abbrev pub z : Bytes
z = codes "z"
