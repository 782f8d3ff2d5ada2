-- The trees of the code as those of the definitions.
use Rattle.std.specs.Prelude.{ℕ, List, map, option_map}
use Rattle.ac_types.specs.declared.sig.Version as code_version
use Rattle.ac_types.specs.Sigs.{Atom}
use Rattle.ac_types.specs.ReadNumbers.{primitive_number, bare_number, texted_number}
use Rattle.ac_types.specs.ReadTypes.{atom_of, constraint_of, resolve_of}
use Rattle.ac_syntax.specs.declared.surface.SName.{SName}
use Rattle.ac_syntax.specs.declared.surface.SType.{SType}
use Rattle.ac_syntax.specs.declared.surface.STypeKind.{STypeKind}
use Rattle.ac_syntax.specs.declared.surface.STypeKind.TheOpen as code_type
use Rattle.ac_syntax.specs.declared.surface.STypeKind.TheFolds.{fold-SType, fold-STypeKind}
use Rattle.ac_syntax.specs.declared.surface.SPat.{SPat}
use Rattle.ac_syntax.specs.declared.surface.SPatKind.{SPatKind}
use Rattle.ac_syntax.specs.declared.surface.SPatKind.TheOpen as code_pat
use Rattle.ac_syntax.specs.declared.surface.SPatKind.TheFolds.{fold-SPat, fold-SPatKind}
use Rattle.ac_syntax.specs.declared.surface.SExpr.{SExpr}
use Rattle.ac_syntax.specs.declared.surface.SExprKind.{SExprKind}
use Rattle.ac_syntax.specs.declared.surface.SFun.{SFun}
use Rattle.ac_syntax.specs.declared.surface.SArm.{SArm}
use Rattle.ac_syntax.specs.declared.surface.SExprKind.TheOpen as code
use Rattle.ac_syntax.specs.declared.surface.SExprKind.TheFolds.{fold-SExpr, fold-SExprKind, fold-SFun, fold-SArm}
use Rattle.ac_syntax.specs.declared.surface.SAbbrev.{SAbbrev}
use Rattle.ac_syntax.specs.declared.surface.SSpec.{SSpec}
use Rattle.ac_syntax.specs.declared.surface.SSpec.TheVariants as code_spec
use Rattle.ac_syntax.specs.declared.surface.SSig.{SSig}
use Rattle.ac_syntax.specs.declared.surface.SField.{SField}
use Rattle.ac_syntax.specs.declared.surface.SField.TheVariants as code_field
use Rattle.ac_syntax.specs.declared.surface.SWants.{SWants}
use Rattle.ac_syntax.specs.declared.surface.SWants.TheVariants as code_wants
use Rattle.ac_syntax.specs.declared.surface.SDefKind.{SDefKind}
use Rattle.ac_syntax.specs.declared.surface.SDefKind.TheVariants as code_def
use Rattle.ac_syntax.specs.declared.surface.SDef.{SDef}
use Rattle.ac_syntax.specs.declared.surface.Surface.{Surface}
use Rattle.ac_syntax.specs.Trees.{NameAt, TypeTree, TyInt, TyBool, TyStr, TyUnit, TyExn, TyLocal, TyOf, TyTuple, TyList, TyOpt, TyFun, type_trees, PatTree, PatWild, PatVar, PatInt, PatBool, PatStr, PatUnit, PatTuple, PatNil, PatCons, PatAbsent, PatPresent, PatExn, PatExnOf, pat_trees, Tree, ExInt, ExBool, ExStr, ExUnit, ExExn, ExExnOf, ExTuple, ExNil, ExAbsent, ExPresent, ExCons, ExVar, ExOf, ExFun, ExRec, ExApp, ExLet, ExLetRec, ExIf, ExSeq, ExMatch, ExTry, ExRaise, ExAnd, ExOr, ExOp, ExMarshal, ExUnmarshal, trees, arm_trees, AbbrevTree, SpecTree, AbstractSpec, ManifestSpec, ValSpec, SigTree, FieldTree, AbbrevField, ValField, WantsTree, WantsVersion, WantsName, DefTree, ModuleDef, ImportDef, MarkDef, ProgramTree}

abbrev pub name_of : SName → NameAt
name_of x = record { at = x.at; word = x.word }

-- types: a kind is read to a tree once its place is known
abbrev pub type_kind_layer : code_type.STypeKind-F (ℕ → TypeTree) TypeTree → ℕ → TypeTree
type_kind_layer code_type.Int at = TyInt at
type_kind_layer code_type.Bool at = TyBool at
type_kind_layer code_type.Str at = TyStr at
type_kind_layer code_type.Unit at = TyUnit at
type_kind_layer code_type.Exn at = TyExn at
type_kind_layer (code_type.Local word) at = TyLocal at word
type_kind_layer (code_type.Of m x) at = TyOf at (name_of m) (name_of x)
type_kind_layer (code_type.Tuple parts) at = TyTuple at (type_trees parts)
type_kind_layer (code_type.List item) at = TyList at item
type_kind_layer (code_type.Opt item) at = TyOpt at item
type_kind_layer (code_type.Fun from to) at = TyFun at from to

abbrev pub type_layer : code_type.SType-F (ℕ → TypeTree) TypeTree → TypeTree
type_layer t = t.kind t.at

unfoldable pub type_tree_of : SType → TypeTree
type_tree_of = fold-SType (ℕ → TypeTree) TypeTree type_kind_layer type_layer

unfoldable pub type_kind_of : STypeKind → ℕ → TypeTree
type_kind_of = fold-STypeKind (ℕ → TypeTree) TypeTree type_kind_layer type_layer

-- patterns
abbrev pub pat_kind_layer : code_pat.SPatKind-F (ℕ → PatTree) PatTree → ℕ → PatTree
pat_kind_layer code_pat.Wild at = PatWild at
pat_kind_layer (code_pat.Var name ty) at = PatVar at (name_of name) (type_tree_of ty)
pat_kind_layer (code_pat.Int n) at = PatInt at n
pat_kind_layer (code_pat.Bool b) at = PatBool at b
pat_kind_layer (code_pat.Str text) at = PatStr at text.0
pat_kind_layer code_pat.Unit at = PatUnit at
pat_kind_layer (code_pat.Tuple parts) at = PatTuple at (pat_trees parts)
pat_kind_layer code_pat.Nil at = PatNil at
pat_kind_layer (code_pat.Cons head tail) at = PatCons at head tail
pat_kind_layer code_pat.Absent at = PatAbsent at
pat_kind_layer (code_pat.Present item) at = PatPresent at item
pat_kind_layer (code_pat.Exn exn) at = PatExn at (bare_number exn)
pat_kind_layer (code_pat.ExnOf exn item) at = PatExnOf at (texted_number exn) item

abbrev pub pat_layer : code_pat.SPat-F (ℕ → PatTree) PatTree → PatTree
pat_layer p = p.kind p.at

unfoldable pub pat_of : SPat → PatTree
pat_of = fold-SPat (ℕ → PatTree) PatTree pat_kind_layer pat_layer

unfoldable pub pat_kind_of : SPatKind → ℕ → PatTree
pat_kind_of = fold-SPatKind (ℕ → PatTree) PatTree pat_kind_layer pat_layer

-- a function with a name, as it stands in a `rec` or a `let rec`
pub record FunTree : Type 0 where
  pub name : NameAt
  pub argument : NameAt
  pub ty : TypeTree
  pub result : TypeTree
  pub body : Tree

-- expressions
abbrev pub expr_kind_layer : code.SExprKind-F (ℕ → Tree) (PatTree × Tree) Tree FunTree → ℕ → Tree
expr_kind_layer (code.Int n) at = ExInt at n
expr_kind_layer (code.Bool b) at = ExBool at b
expr_kind_layer (code.Str text) at = ExStr at text.0
expr_kind_layer code.Unit at = ExUnit at
expr_kind_layer (code.Exn exn) at = ExExn at (bare_number exn)
expr_kind_layer (code.ExnOf exn argument) at = ExExnOf at (texted_number exn) argument
expr_kind_layer (code.Tuple parts) at = ExTuple at (trees parts)
expr_kind_layer (code.Nil ty) at = ExNil at (type_tree_of ty)
expr_kind_layer (code.Absent ty) at = ExAbsent at (type_tree_of ty)
expr_kind_layer (code.Present item) at = ExPresent at item
expr_kind_layer (code.Cons head tail) at = ExCons at head tail
expr_kind_layer (code.Var word) at = ExVar at word
expr_kind_layer (code.Of m x) at = ExOf at (name_of m) (name_of x)
expr_kind_layer (code.Fun name ty body) at = ExFun at (name_of name) (type_tree_of ty) body
expr_kind_layer (code.Rec f) at = ExRec at f.name f.argument f.ty f.result f.body
expr_kind_layer (code.App function argument) at = ExApp at function argument
expr_kind_layer (code.Let name ty bound body) at = ExLet at (name_of name) (type_tree_of ty) bound body
expr_kind_layer (code.LetRec f body) at = ExLetRec at f.name f.argument f.ty f.result f.body body
expr_kind_layer (code.If test so otherwise) at = ExIf at test so otherwise
expr_kind_layer (code.Seq parts) at = ExSeq at (trees parts)
expr_kind_layer (code.Match of arms) at = ExMatch at of (arm_trees arms)
expr_kind_layer (code.Try of arms) at = ExTry at of (arm_trees arms)
expr_kind_layer (code.Raise exception ty) at = ExRaise at exception (type_tree_of ty)
expr_kind_layer (code.And a b) at = ExAnd at a b
expr_kind_layer (code.Or a b) at = ExOr at a b
expr_kind_layer (code.Op primitive parts) at = ExOp at (primitive_number primitive) (trees parts)
expr_kind_layer (code.Marshal mark value ty) at = ExMarshal at mark value (type_tree_of ty)
expr_kind_layer (code.Unmarshal text ty) at = ExUnmarshal at text (type_tree_of ty)

abbrev pub arm_tree_layer : code.SArm-F (ℕ → Tree) (PatTree × Tree) Tree FunTree → PatTree × Tree
arm_tree_layer a = (pat_of a.pat, a.body)

abbrev pub expr_tree_layer : code.SExpr-F (ℕ → Tree) (PatTree × Tree) Tree FunTree → Tree
expr_tree_layer e = e.kind e.at

abbrev pub fun_layer : code.SFun-F (ℕ → Tree) (PatTree × Tree) Tree FunTree → FunTree
fun_layer f = record { name = name_of f.name; argument = name_of f.arg; ty = type_tree_of f.ty; result = type_tree_of f.result; body = f.body }

unfoldable pub tree_of : SExpr → Tree
tree_of = fold-SExpr (ℕ → Tree) (PatTree × Tree) Tree FunTree expr_kind_layer arm_tree_layer expr_tree_layer fun_layer

unfoldable pub expr_kind_of : SExprKind → ℕ → Tree
expr_kind_of = fold-SExprKind (ℕ → Tree) (PatTree × Tree) Tree FunTree expr_kind_layer arm_tree_layer expr_tree_layer fun_layer

unfoldable pub arm_tree_of : SArm → PatTree × Tree
arm_tree_of = fold-SArm (ℕ → Tree) (PatTree × Tree) Tree FunTree expr_kind_layer arm_tree_layer expr_tree_layer fun_layer

unfoldable pub fun_of : SFun → FunTree
fun_of = fold-SFun (ℕ → Tree) (PatTree × Tree) Tree FunTree expr_kind_layer arm_tree_layer expr_tree_layer fun_layer

-- signatures
abbrev pub abbrev_of : SAbbrev → AbbrevTree
abbrev_of x = record { name = name_of x.name; ty = type_tree_of x.ty }

abbrev pub spec_of : SSpec → SpecTree
spec_of (code_spec.Abstract name) = AbstractSpec (name_of name)
spec_of (code_spec.Manifest x) = ManifestSpec (abbrev_of x)
spec_of (code_spec.Val name ty) = ValSpec (name_of name) (type_tree_of ty)

abbrev pub sig_tree_of : SSig → SigTree
sig_tree_of s = record { at = s.at; specs = map spec_of s.specs }

-- definitions and programs
abbrev pub field_tree_of : SField → FieldTree
field_tree_of (code_field.Abbrev x) = AbbrevField (abbrev_of x)
field_tree_of (code_field.Val name ty body) = ValField (name_of name) (type_tree_of ty) (tree_of body)

abbrev pub version_of : code_version.Version → List Atom
version_of v = map atom_of v.atoms

abbrev pub wants_of : SWants → WantsTree
wants_of (code_wants.Ranges constraint) = WantsVersion (constraint_of constraint)
wants_of (code_wants.NameOf name) = WantsName (name_of name)

abbrev pub abbrevs_of : List SAbbrev → List AbbrevTree
abbrevs_of xs = map abbrev_of xs

abbrev pub def_kind_of : ℕ → SDefKind → DefTree
def_kind_of at (code_def.Module name sig version fields) = ModuleDef at (name_of name) (sig_tree_of sig) (option_map version_of version) (map field_tree_of fields)
def_kind_of at (code_def.Import name sig wants like by) = ImportDef at (name_of name) (sig_tree_of sig) (wants_of wants) (option_map abbrevs_of like) (map resolve_of by)
def_kind_of at (code_def.Mark text_at text) = MarkDef at text_at text.0

abbrev pub def_tree_of : SDef → DefTree
def_tree_of d = def_kind_of d.at d.kind

abbrev pub surface_of : Surface → ProgramTree
surface_of s = record { defs = map def_tree_of s.defs; expr = option_map tree_of s.expr }
