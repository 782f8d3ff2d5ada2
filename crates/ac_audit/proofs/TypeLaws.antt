-- A text is one type, or is refused for one kind of cause.
use Rattle.std.proofs.Common.{◌≡◌, sym, ap, ◌∙◌, subst, List, [], None}
use Rattle.ac_types.proofs.FirstLaws.{none≢some, some_eq}
use Rattle.ac_types.specs.Types.{Bytes, Typ}
use Rattle.ac_terms.specs.Defs.{Environment}
use Rattle.ac_lexer.specs.declared.tokens.Token.{Token}
use Rattle.ac_lexer.proofs.Unique as lexed
use Rattle.ac_syntax.specs.Signs.{Sign, signs}
use Rattle.ac_syntax.specs.Trees.{TypeTree, ProgramTree}
use Rattle.ac_syntax.specs.TypeForms.{IsType}
use Rattle.ac_syntax.specs.declared.fault.ParseFault.{ParseFault}
use Rattle.ac_syntax.specs.declared.fault.ParseFault.TheVariants as fault
use Rattle.ac_syntax.specs.Texts.{HasTree, Refused, unread, syntax, SameCause, same, both_syntax}
use Rattle.ac_syntax.proofs.UniqueTexts.{tree_and_refusal, one_refusal}
use Rattle.ac_syntax.proofs.UniqueTypes.{same_type}
use Rattle.ac_resolve_scopes.specs.Surfaces.{SurfaceFault}
use Rattle.ac_resolve_scopes.specs.Written.{type_in}
use Rattle.ac_resolve.specs.declared.fault.ScopeFault.{ScopeFault}
use Rattle.ac_resolve.specs.declared.fault.ScopeFault.TheVariants as scope
use Rattle.ac_load.specs.Kinds.{Says, parse_kind, scope_kind, fault_kind}
use Rattle.ac_load.specs.Loading.{SameKind, equal, two_places}
use Rattle.ac_load.specs.declared.kind.Kind.{Kind}
use Rattle.ac_audit.specs.TypeFaults.{RefusesTree}
use Rattle.ac_audit.specs.TypeTexts.{own_scope, type_fault, HasTypeTree, IsTypeText, RefusedTree, unread_type, no_type, RefusesType, no_tree, bad_names}
use Rattle.ac_audit.specs.inner.Faults.{IsTreeFault}

-- as a grammar of whole texts, which has no program's tree
abbrev TypeAlone : List Sign → ProgramTree → Type 0
TypeAlone ts p = (t : TypeTree) × IsType ts t []

abbrev no_program : ProgramTree
no_program = record { defs = []; expr = None }

has_type : (text : Bytes) (t : TypeTree) → HasTypeTree text t → HasTree TypeAlone text no_program
has_type text t h = record { tokens = h.tokens; read = h.read; is = (t, h.is) }

refused_so : (text : Bytes) (e : ParseFault) → RefusedTree text e → Refused TypeAlone text e
refused_so text e (unread_type u) = unread u
refused_so text e (no_type read none here) = syntax read (λ p h. none h.0 h.1) here

tree_or_refused : (text : Bytes) (t : TypeTree) (e : ParseFault) → HasTypeTree text t → RefusedTree text e → ⊥
tree_or_refused text t e h r = tree_and_refusal TypeAlone text no_program e (has_type text t h) (refused_so text e r)

one_tree : (text : Bytes) (t u : TypeTree) → HasTypeTree text t → HasTypeTree text u → t ≡ u
one_tree text t u x y =
    let same = lexed.same_tokens text y.tokens x.tokens y.read.lexed x.read.lexed in
    (same_type x.is (subst (λ (l : List Token). IsType (signs l) u []) same y.is)).tree

pub one_text : (E : Environment) (text : Bytes) (T U : Typ) → IsTypeText E text T → IsTypeText E text U → T ≡ U
one_text E text T U x y = x.means ∙ ap (type_in (own_scope E)) (one_tree text x.tree y.tree x.has y.has) ∙ sym y.means

pub text_or_refused : (E : Environment) (text : Bytes) (T : Typ) (kind : Kind) → IsTypeText E text T → RefusesType E text kind → ⊥
text_or_refused E text T kind x (no_tree {e = e} r) = tree_or_refused text x.tree e x.has r
text_or_refused E text T kind x (bad_names {tree = t} h q) = none≢some (sym x.sound ∙ ap (type_fault (own_scope E)) (one_tree text x.tree t x.has h) ∙ q)

same_fault : {e f : ParseFault} → SameCause e f → SameKind (parse_kind e) (parse_kind f)
same_fault same = equal
same_fault both_syntax = two_places

same_scope : (f g : SurfaceFault) → f ≡ g → SameKind (scope_kind f) (scope_kind g)
same_scope f g e = subst (λ (h : SurfaceFault). SameKind (scope_kind f) (scope_kind h)) e equal

pub one_kind : (E : Environment) (text : Bytes) (a b : Kind) → RefusesType E text a → RefusesType E text b → SameKind a b
one_kind E text a b (no_tree {e = e} r) (no_tree {e = f} q) = same_fault (one_refusal TypeAlone text e f (refused_so text e r) (refused_so text f q))
one_kind E text a b (no_tree {e = e} r) (bad_names {tree = t} h q) = absurd (tree_or_refused text t e h r)
one_kind E text a b (bad_names {tree = t} h p) (no_tree {e = e} r) = absurd (tree_or_refused text t e h r)
one_kind E text a b (bad_names {f = f} {tree = t} h p) (bad_names {f = g} {tree = u} k q) =
    same_scope f g (some_eq (sym p ∙ ap (type_fault (own_scope E)) (one_tree text t u h k) ∙ q))

-- the kinds of the code's faults
pub no_tree_there : (E : Environment) (text : Bytes) (e : ParseFault) → IsTreeFault text e → Says (parse_kind e) (RefusesType E text (parse_kind e))
no_tree_there E text (fault.TooLong len) r = no_tree r
no_tree_there E text (fault.Lexical at) r = no_tree r
no_tree_there E text (fault.TooDeep at) r = no_tree r
no_tree_there E text (fault.Syntax at) r = no_tree r
no_tree_there E text fault.Memory r = tt

pub bad_names_there : (E : Environment) (text : Bytes) (t : TypeTree) (f : ScopeFault) → HasTypeTree text t → RefusesTree (own_scope E) t f → Says (fault_kind f) (RefusesType E text (fault_kind f))
bad_names_there E text t (scope.Unbound at) h r = bad_names h r
bad_names_there E text t (scope.Repeated at) h r = absurd r
bad_names_there E text t (scope.TooMany count) h r = bad_names h r
bad_names_there E text t scope.Memory h r = tt
