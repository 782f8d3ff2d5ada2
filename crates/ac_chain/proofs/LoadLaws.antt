-- Texts that load one after the other, and the first that doesn't.
use Rattle.std.proofs.Common.{◌≡◌, ◌∙◌, refl, sym, ap, ap₂, subst, ℕ, suc, ◌+◌, ◌<◌, List, [], ◌∷◌, ◌++◌, length, take, drop, get_or, arith, add-one}
use Rattle.std.proofs.Math.Seq.{take-suc}
use Rattle.std.proofs.lemmas.List.{map-append, length-map, take-append-drop, length-take-le, get_or_default}
use Rattle.ac_types.specs.Types.{Bytes, Typ}
use Rattle.ac_types.specs.ReadTypes.{typ_of}
use Rattle.ac_types.specs.declared.text.Text.{Text}
use Rattle.ac_terms.specs.Terms.{Expr}
use Rattle.ac_terms.specs.Defs.{Environment}
use Rattle.ac_terms.specs.Read.{bytes_of, environment_of, entry_of, expr_of}
use Rattle.ac_rules.specs.declared.loaded.Loaded.{Loaded}
use Rattle.ac_meaning.specs.Loads.{IsLoaded}
use Rattle.ac_load_rules.specs.Accepting.{Shelved}
use Rattle.ac_load_rules.proofs.OneAnswer.{one_result}
use Rattle.sha2.specs.Sha256.{sha256}
use Rattle.ac_load.specs.Loading.{Loads, Rejects}
use Rattle.ac_load.specs.Kinds.{Says}
use Rattle.ac_load.specs.declared.kind.Kind.{Kind}
use Rattle.ac_load.specs.declared.kind.Kind.TheVariants.{TooLong, Lexical, TooDeep, Syntax, Unbound, Repeated, TooMany, IllTyped, Signature, NotValuable, LikeMissing, Unresolved, Clash, Memory}
use Rattle.ac_load.specs.declared.kind.Refusal.{Refusal}
use Rattle.ac_colours.specs.Chains.{Programs}
use Rattle.ac_chain.specs.declared.chained.ChainFault.{ChainFault}
use Rattle.ac_chain.specs.declared.chained.ChainFault.TheVariants as fault
use Rattle.ac_chain.specs.ChainTexts.{texts_of, programs_of, LoadAs, RejectsFirst}
use Rattle.ac_chain.specs.inner.Running.{AreFew, AreLoaded, IsRefusal, refused_as, refused}
use Rattle.ac_chain.proofs.Lists.{left_next}

load_behind : (ts : List Bytes) (shelf : List Shelved) (ps : Programs) (t : Bytes) (E : Environment) (e : Expr) (T : Typ) → LoadAs ts shelf ps → Loads t shelf E e T → LoadAs (ts ++ t ∷ []) shelf (ps ++ (E, e) ∷ [])
load_behind [] shelf [] t E e T h l = ((T, l), tt)
load_behind [] shelf (p ∷ ps) t E e T h l = absurd h
load_behind (s ∷ ts) shelf [] t E e T h l = absurd h
load_behind (s ∷ ts) shelf (p ∷ ps) t E e T h l = (h.0, load_behind ts shelf ps t E e T h.1 l)

-- the next text, in the list of all
next_text : (texts : List Text) (i : ℕ) (d : Text) → i < length texts → texts_of (take (i + 1) texts) ≡ texts_of (take i texts) ++ (get_or texts i d).0 ∷ []
next_text texts i d lt = ap (λ k. texts_of (take k texts)) (add-one i) ∙ ap texts_of (take-suc texts i d lt) ∙ map-append bytes_of (take i texts) (get_or texts i d ∷ [])

pub load_more : (texts : List Text) (shelf : List Shelved) (ls : List Loaded) (i : ℕ) (d : Text) (text : Bytes) (l : Loaded) → i < length texts → text ≡ (get_or texts i d).0 → LoadAs (texts_of (take i texts)) shelf (programs_of ls) → Loads text shelf (environment_of l.env) (expr_of l.main) (typ_of l.ty)
    → LoadAs (texts_of (take (i + 1) texts)) shelf (programs_of (ls ++ l ∷ []))
load_more texts shelf ls i d text l lt is h new =
    let more = load_behind (texts_of (take i texts)) shelf (programs_of ls) (get_or texts i d).0 (environment_of l.env) (expr_of l.main) (typ_of l.ty) h (subst (λ t. Loads t shelf (environment_of l.env) (expr_of l.main) (typ_of l.ty)) is new) in
    subst (λ ts. LoadAs ts shelf (programs_of (ls ++ l ∷ []))) (sym (next_text texts i d lt))
    (subst (LoadAs (texts_of (take i texts) ++ (get_or texts i d).0 ∷ []) shelf) (sym (map-append (λ (x : Loaded). (environment_of x.env, expr_of x.main)) ls (l ∷ []))) more)

pub loaded_more : (ls : List Loaded) (l : Loaded) → AreLoaded ls → IsLoaded (environment_of l.env) (expr_of l.main) (typ_of l.ty) → AreLoaded (ls ++ l ∷ [])
loaded_more [] l h new = (new, tt)
loaded_more (x ∷ ls) l h new = (h.0, loaded_more ls l h.1 new)

-- a refusal says that the text is the first
says_first : (k : Kind) (P : Type 0) (texts : List Bytes) (shelf : List Shelved) (program : ℕ) (r : Refusal) → (P → RejectsFirst texts shelf program r.part r.kind) → Says k P → IsRefusal texts shelf (refused_as k (fault.Refused program r))
says_first (TooLong len) P texts shelf program r f s = f s
says_first (Lexical at) P texts shelf program r f s = f s
says_first (TooDeep at) P texts shelf program r f s = f s
says_first (Syntax at) P texts shelf program r f s = f s
says_first (Unbound at) P texts shelf program r f s = f s
says_first (Repeated at) P texts shelf program r f s = f s
says_first (TooMany count) P texts shelf program r f s = f s
says_first (IllTyped def) P texts shelf program r f s = f s
says_first (Signature def spec) P texts shelf program r f s = f s
says_first (NotValuable def field) P texts shelf program r f s = f s
says_first (LikeMissing def spec) P texts shelf program r f s = f s
says_first (Unresolved def) P texts shelf program r f s = f s
says_first (Clash first second) P texts shelf program r f s = f s
says_first Memory P texts shelf program r f s = tt

first_rejected : (texts : List Text) (shelf : List Shelved) (ls : List Loaded) (i : ℕ) (d : Text) (part : ℕ) (kind : Kind) → i < length texts → LoadAs (texts_of (take i texts)) shelf (programs_of ls) → Rejects (get_or texts i d).0 shelf part kind → RejectsFirst (texts_of texts) shelf i part kind
first_rejected texts shelf ls i d part kind lt h r = record {
  before = texts_of (take i texts);
  text = (get_or texts i d).0;
  after = texts_of (drop (i + 1) texts);
  order = ap texts_of (sym (take-append-drop i texts)) ∙ map-append bytes_of (take i texts) (drop i texts) ∙ ap (λ ts. texts_of (take i texts) ++ texts_of ts) (left_next i texts (get_or texts i d) lt (get_or_default texts i d (get_or texts i d) lt));
  number = sym (length-map (take i texts) bytes_of ∙ length-take-le i texts (omega (arith, lt)));
  programs = programs_of ls;
  load = h;
  rejected = r;
}

pub is_refusal : (texts : List Text) (shelf : List Shelved) (ls : List Loaded) (i : ℕ) (d : Text) (text : Bytes) (r : Refusal) (f : ChainFault) → i < length texts → text ≡ (get_or texts i d).0 → LoadAs (texts_of (take i texts)) shelf (programs_of ls) → Says r.kind (Rejects text shelf r.part r.kind) → f ≡ refused i r → IsRefusal (texts_of texts) shelf f
is_refusal texts shelf ls i d text r f lt same h s is =
    subst (IsRefusal (texts_of texts) shelf) (sym is) (says_first r.kind (Rejects text shelf r.part r.kind) (texts_of texts) shelf i r (λ x. first_rejected texts shelf ls i d r.part r.kind lt h (subst (λ t. Rejects t shelf r.part r.kind) same x)) s)

-- as many programs as texts, each with few entries
pub as_many : (ts : List Bytes) (shelf : List Shelved) (ps : Programs) → LoadAs ts shelf ps → length ps ≡ length ts
as_many [] shelf [] h = refl
as_many [] shelf (p ∷ ps) h = absurd h
as_many (t ∷ ts) shelf [] h = absurd h
as_many (t ∷ ts) shelf (p ∷ ps) h = ap suc (as_many ts shelf ps h.1)

pub are_few : (ls : List Loaded) → AreLoaded ls → AreFew ls
are_few [] h = tt
are_few (l ∷ ls) h =
    let few = h.0.program.coherent.few in
    let long = length-map l.env.entries entry_of in
    (omega (arith, few, long), are_few ls h.1)

-- texts load as one list of programs
pub one_list : (ts : List Bytes) (shelf : List Shelved) (ps qs : Programs) → LoadAs ts shelf ps → LoadAs ts shelf qs → ps ≡ qs
one_list [] shelf [] [] h k = refl
one_list [] shelf [] (q ∷ qs) h k = absurd k
one_list [] shelf (p ∷ ps) qs h k = absurd h
one_list (t ∷ ts) shelf [] qs h k = absurd h
one_list (t ∷ ts) shelf (p ∷ ps) [] h k = absurd k
one_list (t ∷ ts) shelf (p ∷ ps) (q ∷ qs) h k =
    let one = one_result sha256 h.0.1 k.0.1 in
    ap₂ (λ (x : Environment × Expr) (xs : Programs). x ∷ xs) (ap₂ (λ (E : Environment) (e : Expr). (E, e)) one.0 one.1) (one_list ts shelf ps qs h.1 k.1)
