-- The steps of the parsers of definitions and programs, over lists of signs.
use Rattle.std.proofs.Common.{◌≡◌, ℕ, List, [], ◌∷◌, ◌++◌, Some, None, refl, sym, ◌∙◌, ap, subst, append_assoc, append-nil, arith}
use Rattle.ac_types.specs.Types.{Bytes}
use Rattle.ac_syntax.specs.Signs.{Sign, Str, Fixed, here}
use Rattle.ac_syntax.specs.ReadSigns.{read_signs}
use Rattle.ac_syntax.specs.declared.sign.Sign as code
use Rattle.ac_syntax.specs.Trees.{Tree, DefTree, MarkDef, ProgramTree}
use Rattle.ac_syntax.specs.Expressions.{IsExpr}
use Rattle.ac_syntax.specs.Programs.{ParsesDef, module_, import_version, import_name, mark, ParsesProgram, main, definition, IsProgram, program, IsModule, module_alone}
use Rattle.ac_syntax.specs.PartParsing.{SymbolAt, NoSymbol}
use Rattle.ac_syntax.specs.declared.sign.Symbol.{Symbol}
use Rattle.ac_syntax.specs.declared.sign.Symbol.TheVariants.{Comma, Import, Mark, Module}
use Rattle.ac_syntax.proofs.UniqueTypes.{tail_eq}
use Rattle.ac_syntax.proofs.UniqueExpressions.{same_expr}
use Rattle.ac_syntax.proofs.Fronts.{begins_not}
use Rattle.ac_parser_patterns.specs.Reading.{Nothing}
use Rattle.ac_parser.specs.inner.ProgramParsing.{TextAt, NoText, OnlyRead, NoRead, Anything, NoComma, NothingGoesOn, DefsSoFar, NoProgramTree}
use Rattle.ac_syntax.proofs.Depth.{head_eq}
use Rattle.ac_parser.proofs.Lists.{none_at}
use Rattle.ac_parser.proofs.VersionSteps.{nothing_is_none}

def_at : {r s t : List Sign} {d : DefTree} → r ≡ s → ParsesDef s d t → ParsesDef r d t
def_at {r} {s} {t} {d} e p = subst (λ (u : List Sign). ParsesDef u d t) (sym e) p

expr_at : {r s t : List Sign} {e : Tree} → r ≡ s → IsExpr s e t → IsExpr r e t
expr_at {r} {s} {t} {e} is p = subst (λ (u : List Sign). IsExpr u e t) (sym is) p

-- marks

text_eq : {a b : ℕ} {w v : Bytes} {r s : List Sign} → Str a w ∷ r ≡ Str b v ∷ s → (a ≡ b) × (w ≡ v)
text_eq e = let h = head_eq e in (ap (λ (x : Sign). elim x [ Str c u ↦ c | _ ↦ 0 ]) h, ap (λ (x : Sign). elim x [ Str c u ↦ u | _ ↦ [] ]) h)

mark_only : {at b : ℕ} {text : Bytes} {ts rest other : List Sign} {d : DefTree} → TextAt b text ts rest → ParsesDef (Fixed at Mark ∷ ts) d other → (d ≡ MarkDef at b text) × (other ≡ rest)
mark_only is mark = let e = text_eq is in (let x = e.0 in let y = e.1 in cc, tail_eq is)

untexted : {at : ℕ} {ts other : List Sign} {d : DefTree} → NoText ts → ParsesDef (Fixed at Mark ∷ ts) d other → ⊥
untexted none (mark {b = b} {text = text} {ts = us}) = none b text us refl

module _ (at : ℕ) (ts : List Sign) where
  pub no_mark : NoText ts → NoRead ParsesDef NoComma (Fixed at Mark ∷ ts)
  no_mark none d end p next = untexted none p

  pub mark_read : (b : ℕ) (text : Bytes) (rest : List Sign) → TextAt b text ts rest → OnlyRead ParsesDef NoComma (Fixed at Mark ∷ ts) (MarkDef at b text) rest
  mark_read b text rest is = record {
    reads = def_at (ap (λ (l : List Sign). Fixed at Mark ∷ l) is) mark;
    only = λ d other p next. mark_only is p;
  }

-- the definition at the front

pub begins_with : (s : Symbol) (ts us : List Sign) (at : ℕ) → SymbolAt s ts us → at ≡ here ts → ts ≡ Fixed at s ∷ us
begins_with s ts us at x is = x.is ∙ ap (λ (n : ℕ). Fixed n s ∷ us) (sym (is ∙ ap here x.is))

module_no_expr : {a : ℕ} {ts : List Sign} (e : Tree) (rest : List Sign) → IsExpr (Fixed a Module ∷ ts) e rest → ⊥
module_no_expr e rest p = begins_not p.parses (omega arith)

import_no_expr : {a : ℕ} {ts : List Sign} (e : Tree) (rest : List Sign) → IsExpr (Fixed a Import ∷ ts) e rest → ⊥
import_no_expr e rest p = begins_not p.parses (omega arith)

mark_no_expr : {a : ℕ} {ts : List Sign} (e : Tree) (rest : List Sign) → IsExpr (Fixed a Mark ∷ ts) e rest → ⊥
mark_no_expr e rest p = begins_not p.parses (omega arith)

comma_no_expr : {a : ℕ} {ts : List Sign} (e : Tree) (rest : List Sign) → IsExpr (Fixed a Comma ∷ ts) e rest → ⊥
comma_no_expr e rest p = begins_not p.parses (omega arith)

module _ (ts us : List Sign) (at : ℕ) where
  pub no_module : ts ≡ Fixed at Module ∷ us → NoRead ParsesDef NoComma (Fixed at Module ∷ us) → NothingGoesOn ts
  no_module is none = record { no_def = none_at ParsesDef NoComma is none; no_expr = λ e rest p. module_no_expr e rest (expr_at (sym is) p) }

  pub no_import : ts ≡ Fixed at Import ∷ us → NoRead ParsesDef NoComma (Fixed at Import ∷ us) → NothingGoesOn ts
  no_import is none = record { no_def = none_at ParsesDef NoComma is none; no_expr = λ e rest p. import_no_expr e rest (expr_at (sym is) p) }

  pub no_mark_there : ts ≡ Fixed at Mark ∷ us → NoRead ParsesDef NoComma (Fixed at Mark ∷ us) → NothingGoesOn ts
  no_mark_there is none = record { no_def = none_at ParsesDef NoComma is none; no_expr = λ e rest p. mark_no_expr e rest (expr_at (sym is) p) }

pub no_def_word : (ts : List Sign) → NoSymbol Module ts → NoSymbol Import ts → NoSymbol Mark ts → NoRead ParsesDef Anything ts
no_def_word ts m i k d rest (module_ {a = a} σ v p) next = m _ (record { at = a; is = refl })
no_def_word ts m i k d rest (import_version {a = a} σ v c l p) next = i _ (record { at = a; is = refl })
no_def_word ts m i k d rest (import_name {a = a} σ p) next = i _ (record { at = a; is = refl })
no_def_word ts m i k d rest (mark {a = a}) next = k _ (record { at = a; is = refl })

def_no_expr : {P : Type 0} {ts r s : List Sign} {d : DefTree} {e : Tree} → ParsesDef ts d r → IsExpr ts e s → P
def_no_expr (module_ σ v p) q = absurd (module_no_expr _ _ q)
def_no_expr (import_version σ v c l p) q = absurd (import_no_expr _ _ q)
def_no_expr (import_name σ p) q = absurd (import_no_expr _ _ q)
def_no_expr mark q = absurd (mark_no_expr _ _ q)

comma_is_no_module : {P : Type 0} {a b : ℕ} {r s : List Sign} → Fixed a Module ∷ r ≡ Fixed b Comma ∷ s → P
comma_is_no_module e = cc

comma_is_no_import : {P : Type 0} {a b : ℕ} {r s : List Sign} → Fixed a Import ∷ r ≡ Fixed b Comma ∷ s → P
comma_is_no_import e = cc

comma_is_no_mark : {P : Type 0} {a b : ℕ} {r s : List Sign} → Fixed a Mark ∷ r ≡ Fixed b Comma ∷ s → P
comma_is_no_mark e = cc

-- nothing of a program begins with a comma
program_no_comma : {ts : List Sign} {ds : List DefTree} {e : Tree} → ParsesProgram ts ds e → NoComma ts
program_no_comma (main p) rest c = comma_no_expr _ _ (expr_at (sym c.is) p)
program_no_comma (definition (module_ σ v p) q) rest c = comma_is_no_module c.is
program_no_comma (definition (import_version σ v x l p) q) rest c = comma_is_no_import c.is
program_no_comma (definition (import_name σ p) q) rest c = comma_is_no_import c.is
program_no_comma (definition mark q) rest c = comma_is_no_mark c.is

-- programs

program_at : {r s : List Sign} {ds : List DefTree} {e : Tree} → r ≡ s → ParsesProgram s ds e → ParsesProgram r ds e
program_at {ds = ds} {e = e} is p = subst (λ (u : List Sign). ParsesProgram u ds e) (sym is) p

pub no_defs_yet : (ts : List Sign) → DefsSoFar ts [] ts
no_defs_yet ts = record { back = λ ds e p. p; forth = λ ds e p. record { left = ds; is = refl; parses = p } }

record OtherDefs (d : DefTree) (later : List Sign) (ds : List DefTree) (e : Tree) : Type 0 where
  others : List DefTree
  is : ds ≡ d ∷ others
  parses : ParsesProgram later others e

def_forth : {rest later : List Sign} {d : DefTree} {ds : List DefTree} {e : Tree} → OnlyRead ParsesDef NoComma rest d later → ParsesProgram rest ds e → OtherDefs d later ds e
def_forth o (main p) = def_no_expr o.reads p
def_forth o (definition {ds = others} c q) =
    let i = o.only _ _ c (program_no_comma q) in
    record { others = others; is = ap (λ (x : DefTree). x ∷ others) i.0; parses = program_at (sym i.1) q }

nothing_none : {ts : List Sign} {ds : List DefTree} {e : Tree} → NothingGoesOn ts → ParsesProgram ts ds e → ⊥
nothing_none none (main p) = none.no_expr _ _ p
nothing_none none (definition c q) = none.no_def _ _ c (program_no_comma q)

no_main : {ts : List Sign} {ds : List DefTree} {e : Tree} → NoRead ParsesDef Anything ts → Nothing IsExpr ts → ParsesProgram ts ds e → ⊥
no_main none absent (main p) = absent _ _ p
no_main none absent (definition c q) = none _ _ c tt

more_none : {ts rest : List Sign} {ds : List DefTree} {e f : Tree} → NoRead ParsesDef Anything ts → IsExpr ts f rest → (rest ≡ [] → ⊥) → ParsesProgram ts ds e → ⊥
more_none none q more (main p) = more (same_expr q p).1
more_none none q more (definition c r) = none _ _ c tt

program_parts : {ts : List Sign} {p : ProgramTree} {P : Type 0} → IsProgram ts p → ((ds : List DefTree) (e : Tree) → ParsesProgram ts ds e → P) → P
program_parts (program q) f = f _ _ q

module _ (ts : List Sign) (done : List DefTree) (rest : List Sign) (so : DefsSoFar ts done rest) where
  pub next_def : (d : DefTree) (later : List Sign) → OnlyRead ParsesDef NoComma rest d later → DefsSoFar ts (done ++ d ∷ []) later
  next_def d later o = record {
    back = λ ds e p. subst (λ (l : List DefTree). ParsesProgram ts l e) (sym (append_assoc done (d ∷ []) ds)) (so.back (d ∷ ds) e (definition o.reads p));
    forth = λ ds e p.
        let l = so.forth ds e p in
        let f = def_forth o l.parses in
        record { left = f.others; is = l.is ∙ ap (λ (m : List DefTree). done ++ m) f.is ∙ sym (append_assoc done (d ∷ []) f.others); parses = f.parses };
  }

  pub stuck : NothingGoesOn rest → NoProgramTree IsProgram ts
  stuck none p is = program_parts is (λ ds e q. nothing_none none (so.forth ds e q).parses)

  module _ (none : NoRead ParsesDef Anything rest) where
    pub no_expression : Nothing IsExpr rest → NoProgramTree IsProgram ts
    no_expression absent p is = program_parts is (λ ds e q. no_main none absent (so.forth ds e q).parses)

    pub more_behind : (f : Tree) (end : List Sign) → IsExpr rest f end → (end ≡ [] → ⊥) → NoProgramTree IsProgram ts
    more_behind f end x more p is = program_parts is (λ ds e q. more_none none x more (so.forth ds e q).parses)

  pub program_read : (e : Tree) (end : List Sign) → IsExpr rest e end → end ≡ [] → IsProgram ts (record { defs = done; expr = Some e })
  program_read e end x is =
      let whole = so.back [] e (main (subst (λ (l : List Sign). IsExpr rest e l) is x)) in
      subst (λ (l : List DefTree). IsProgram ts (record { defs = l; expr = Some e })) (append-nil done) (program whole)

-- the rest is the signs of the code
pub end_at : (signs rest : List code.Sign) → rest ≡ signs → NoRead ParsesDef Anything (read_signs signs) → NoRead ParsesDef Anything (read_signs rest)
end_at signs rest is none = none_at ParsesDef Anything (ap read_signs is) none

pub so_far_at : (ts : List Sign) (done : List DefTree) (signs rest : List code.Sign) → rest ≡ signs → DefsSoFar ts done (read_signs signs) → DefsSoFar ts done (read_signs rest)
so_far_at ts done signs rest is so = subst (λ (l : List code.Sign). DefsSoFar ts done (read_signs l)) (sym is) so

-- modules alone

module_is : {a : ℕ} {ts : List Sign} {d : DefTree} → ParsesDef (Fixed a Module ∷ ts) d [] → IsModule (Fixed a Module ∷ ts) (record { defs = d ∷ []; expr = None })
module_is (module_ σ v p) = module_alone (module_ σ v p)

module_begins : {ts : List Sign} {p : ProgramTree} {P : Type 0} → IsModule ts p → ((a : ℕ) (us : List Sign) → ts ≡ Fixed a Module ∷ us → P) → P
module_begins (module_alone (module_ {a = a} σ v p)) f = f a _ refl

module_def : {ts : List Sign} {p : ProgramTree} {P : Type 0} → IsModule ts p → ((d : DefTree) → ParsesDef ts d [] → P) → P
module_def (module_alone p) f = f _ p

nothing_no_comma : NoComma []
nothing_no_comma rest c = nothing_is_none c.is

pub no_module_word : (ts : List Sign) → NoSymbol Module ts → NoProgramTree IsModule ts
no_module_word ts none p is = module_begins is (λ a us e. none us (record { at = a; is = e }))

module _ (ts us : List Sign) (at : ℕ) (is : ts ≡ Fixed at Module ∷ us) where
  pub no_module_tree : NoRead ParsesDef NoComma (Fixed at Module ∷ us) → NoProgramTree IsModule ts
  no_module_tree none p m = module_def m (λ d q. none d [] (def_at (sym is) q) nothing_no_comma)

  module _ (d : DefTree) (end : List Sign) (o : OnlyRead ParsesDef NoComma (Fixed at Module ∷ us) d end) where
    pub module_and_more : (end ≡ [] → ⊥) → NoProgramTree IsModule ts
    module_and_more more p m = module_def m (λ c q. more (sym (o.only c [] (def_at (sym is) q) nothing_no_comma).1))

    pub module_tree : end ≡ [] → IsModule ts (record { defs = d ∷ []; expr = None })
    module_tree e =
        subst (λ (l : List Sign). IsModule l (record { defs = d ∷ []; expr = None })) (sym is)
        (module_is (subst (λ (l : List Sign). ParsesDef (Fixed at Module ∷ us) d l) e o.reads))
