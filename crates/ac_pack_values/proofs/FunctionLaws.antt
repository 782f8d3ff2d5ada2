-- Functions, as they are packed.
use Rattle.std.proofs.Common.{◌≡◌, refl, sym, ap, ◌∙◌, Bool, true, false, ◌&&◌, List, [], Option, Some, None}
use Rattle.std.specs.Prelude.{pos}
use Rattle.ac_types.specs.Types.{Typ, TInt}
use Rattle.ac_types.specs.ReadNumbers.{texted_number}
use Rattle.ac_types.specs.declared.exceptions.TextExn.{TextExn}
use Rattle.ac_terms.specs.Terms.{Home, Main, Expr, Int, App, Lam, Rec, PValue, KUnit, KFun}
use Rattle.ac_terms.specs.Defs.{Environment}
use Rattle.ac_terms.specs.Bounds.{is_lambda, is_wanted}
use Rattle.ac_rules.specs.Views.{head}
use Rattle.ac_rules.specs.Typing.{is_function, is_function_home}
use Rattle.ac_rules.specs.Plain.{stays, may_travel, travelling}
use Rattle.ac_terms.proofs.TermForms.{term_forms}
use Rattle.ac_code.specs.Code.{Instr, Block, Code}
use Rattle.ac_values.specs.Values.{MValue, MStr, value_at, node_value}
use Rattle.ac_values.specs.declared.node.Value.{Value}
use Rattle.ac_values.specs.declared.node.Node.TheVariants as node
use Rattle.ac_meaning.specs.BareTerms.{bare_term, unpacked}
use Rattle.ac_meaning.specs.BareReduction.{BareWritten, inst}
use Rattle.ac_meaning.specs.BarePacking.{bare_packed, bare_packed_term}
use Rattle.ac_meaning.proofs.BareInst.{inst_none}
use Rattle.ac_machine_meaning.specs.Stands.{senseless, exception_with, closed, closure_of, stands}
use Rattle.ac_pack_terms.proofs.WalkLaws.{wants_memory}

-- what is wanted is a lambda
pub wanted_lambda : (e : Expr) (r : Bool) → is_wanted e r ≡ true → is_lambda e ≡ true
wanted_lambda (Lam T e) r q = refl
wanted_lambda (Rec T U e) r q = refl
wanted_lambda e r q = absurd cc

module _ (E : Environment) where
  travelling_by : (h : Home) (l : Expr) (T : Typ) (b : Bool) → may_travel E h l T ≡ b → travelling E h l T ≡ (elim b [ true ↦ KFun h l | false ↦ stays ])
  travelling_by h l T b e = ap (λ (x : Bool). elim x as (λ y. PValue) [ true ↦ KFun h l | false ↦ stays ]) e

  pub stays_behind : (h : Home) (l : Expr) (T : Typ) → may_travel E h l T ≡ false → stays ≡ travelling E h l T
  stays_behind h l T e = sym (travelling_by h l T false e)

  -- what stands for nothing stays behind
  and_false : (a : Bool) → (a && false) ≡ false
  and_false true = refl
  and_false false = refl

  senseless_stays : (T : Typ) → stays ≡ bare_packed E senseless T
  senseless_stays T = stays_behind Main (Lam TInt (App (Int (pos 0)) (Int (pos 0)))) T (and_false (is_function (head E T) && is_function_home E Main))

  unwanted : (h : Home) (l : Expr) (G : List Typ) (r : Bool) (es : List Typ → BareWritten) → is_wanted l r ≡ false → senseless ≡ closed h (Some l) G r es
  unwanted h (Lam T e) G true es q = refl
  unwanted h (Lam T e) G false es q = absurd cc
  unwanted h (Rec T U e) G true es q = absurd cc
  unwanted h (Rec T U e) G false es q = refl
  unwanted h l G r es q = refl

  wanted : (h : Home) (l : Expr) (G : List Typ) (r : Bool) (es : List Typ → BareWritten) (T : Typ) → is_wanted l r ≡ true → travelling E h (bare_packed_term E (inst 0 (es G) (bare_term h l))) T ≡ bare_packed E (closed h (Some l) G r es) T
  wanted h (Lam U e) G true es T q = absurd cc
  wanted h (Lam U e) G false es T q = refl
  wanted h (Rec U W e) G true es T q = refl
  wanted h (Rec U W e) G false es T q = absurd cc
  wanted h l G r es T q = absurd cc

  -- a closure by its block
  pub no_block : (b : Option Block) (r : Bool) (es : List Typ → BareWritten) (T : Typ) → b ≡ None → stays ≡ bare_packed E (closure_of b r es) T
  no_block None r es T e = senseless_stays T
  no_block (Some b) r es T e = absurd cc

  pub no_lambda : (b : Option Block) (h : Home) (G : List Typ) (xs : List Instr) (r : Bool) (es : List Typ → BareWritten) (T : Typ) → b ≡ Some (record { home = h; lambda = None; context = G; instrs = xs }) → stays ≡ bare_packed E (closure_of b r es) T
  no_lambda b h G xs r es T e = senseless_stays T ∙ ap (λ (x : Option Block). bare_packed E (closure_of x r es) T) (sym e)

  pub other_lambda : (b : Option Block) (h : Home) (l : Expr) (G : List Typ) (xs : List Instr) (r : Bool) (es : List Typ → BareWritten) (T : Typ) → b ≡ Some (record { home = h; lambda = Some l; context = G; instrs = xs }) → is_wanted l r ≡ false → stays ≡ bare_packed E (closure_of b r es) T
  other_lambda b h l G xs r es T e q = senseless_stays T ∙ ap (λ w. bare_packed E w T) (unwanted h l G r es q) ∙ ap (λ (x : Option Block). bare_packed E (closure_of x r es) T) (sym e)

  pub its_lambda : (b : Option Block) (k : Block) (l : Expr) (r : Bool) (es : List Typ → BareWritten) (T : Typ) → b ≡ Some k → k.lambda ≡ Some l → is_wanted l r ≡ true →
      travelling E k.home (bare_packed_term E (inst 0 (es k.context) (bare_term k.home l))) T ≡ bare_packed E (closure_of b r es) T
  its_lambda b k l r es T e m q =
      wanted k.home l k.context r es T q ∙ ap (λ (o : Option Expr). bare_packed E (closed k.home o k.context r es) T) (sym m) ∙ ap (λ (x : Option Block). bare_packed E (closure_of x r es) T) (sym e)

  -- an exception is packed alike at each type
  pub exception_anywhere : (K : Code) (ts : List MValue) (x : TextExn) (v : Value) (T U : Typ) → bare_packed E (stands K (node_value ts (node.ExnOf x v))) T ≡ bare_packed E (stands K (node_value ts (node.ExnOf x v))) U
  exception_anywhere K ts x v T U = by (value_at ts v.0)
    where
      by : (m : MValue) → bare_packed E (exception_with (texted_number x) m) T ≡ bare_packed E (exception_with (texted_number x) m) U
      by (MStr s) = refl
      by m = sym (senseless_stays T) ∙ senseless_stays U

  -- a function of a packed value, which has captured nothing
  pub packed_function : (h : Home) (l : Expr) (T : Typ) → is_lambda l ≡ true → travelling E h (bare_packed_term E (inst 0 [] (bare_term h l))) T ≡ bare_packed E (unpacked (KFun h l)) T
  packed_function h (Lam U e) T q = ap (λ b. travelling E h (Lam U (bare_packed_term E b)) T) (inst_none (bare_term h e) 1)
  packed_function h (Rec U W e) T q = ap (λ b. travelling E h (Rec U W (bare_packed_term E b)) T) (inst_none (bare_term h e) 2)
  packed_function h l T q = absurd cc

  pub no_function : (h : Home) (l : Expr) (T : Typ) → is_lambda l ≡ false → KUnit ≡ bare_packed E (unpacked (KFun h l)) T
  no_function h (Lam U e) T q = absurd cc
  no_function h (Rec U W e) T q = absurd cc
  no_function h l T q = refl

pub ruleset form_laws = (term_forms)

pub ruleset function_laws = (wants_memory, stays_behind)

pub ruleset closure_laws = (wants_memory, wanted_lambda, no_block, no_lambda, other_lambda)

pub ruleset packed_function_laws = (wants_memory, no_function)
