-- The equations of the forms whose writing has many steps, with an equation for each step.
use Rattle.std.proofs.Common.{◌≡◌, ℕ, ◌+◌, List, [], ◌∷◌, ◌++◌, reverse, Result, Ok, Err, OnOk, refl, sym, ap, ap₂, ◌∙◌}
use Rattle.ac_types.specs.Types.{Typ, TFun}
use Rattle.ac_terms.specs.Terms.{Home, Pattern, Expr, Lam, Rec, If, Match, Try, Arms, KFun}
use Rattle.ac_terms.specs.Parts.{pattern_types}
use Rattle.ac_code.specs.Code as instr
use Rattle.ac_code.specs.Code.{Instr}
use Rattle.ac_generate.specs.Sizes.{variable_count, unbind}
use Rattle.ac_generate.specs.inner.Drafts.{Draft, address, count, put, put_all, set_at, jumps_at, block_begun, block_ended, wrote, wrote_arm, wrote_arms, arm_end, ends, wrote_value}
use Rattle.ac_generate.proofs.DraftLaws.{wrote_Rec, wrote_KLam, wrote_KRec}
use Rattle.ac_generate.proofs.JumpLaws.{open_jump, wrote_If, wrote_Match, wrote_Try, wrote_one_arm, arm_address}

pub on_ok : {A E P Q : Type 0} (r : Result A E) → (P → Q) → OnOk r P → OnOk r Q
on_ok (Ok a) f h = f h
on_ok (Err e) f h = tt

-- a block begins, its body is written, it ends, and its number is put
module _ (h : Home) (H : List Typ) (e : Expr) (d b w x new : Draft) (before : List Instr) (k : ℕ) (make : ℕ → Instr) where
  framed : (G : List Typ) (l : Expr) (H' G' : List Typ) (l' : Expr) → H' ≡ H → G' ≡ G → l' ≡ l → before ≡ d.instrs → b ≡ block_begun d → w ≡ wrote h H' e b → k ≡ count w → x ≡ block_ended h l' G' before w → new ≡ put (make k) x →
      new ≡ put (make (count (wrote h H e (block_begun d)))) (block_ended h l G d.instrs (wrote h H e (block_begun d)))
  framed G l H' G' l' eH eG el eb hb hw hk hx hn =
      let wd : w ≡ wrote h H e (block_begun d) = hw ∙ ap₂ (λ (K : List Typ) (y : Draft). wrote h K e y) eH hb in
      hn ∙ ap₂ (λ (n : ℕ) (y : Draft). put (make n) y) (hk ∙ ap count wd)
      (hx ∙ ap₂ (λ (m : Expr) (K : List Typ). block_ended h m K before w) el eG ∙ ap₂ (λ (bi : List Instr) (y : Draft). block_ended h l G bi y) eb wd)

pub rec_written : (c : Home) (G : List Typ) (T U : Typ) (e t : Expr) (H' : List Typ) (d b w x new : Draft) (before : List Instr) (k : ℕ) → t ≡ Rec T U e → H' ≡ T ∷ TFun T U ∷ G → before ≡ d.instrs → b ≡ block_begun d → w ≡ wrote c H' e b → k ≡ count w → x ≡ block_ended c t G before w → new ≡ put (instr.RecClosure k) x → new ≡ wrote c G t d
rec_written c G T U e t H' d b w x new before k is eH eb hb hw hk hx hn =
    framed c (T ∷ TFun T U ∷ G) e d b w x new before k instr.RecClosure G (Rec T U e) H' G t eH refl is eb hb hw hk hx hn
    ∙ sym (wrote_Rec c G T U e d) ∙ ap (λ (l : Expr). wrote c G l d) (sym is)

pub packed_lam_written : (h : Home) (T : Typ) (e t : Expr) (H' G' : List Typ) (d b w x new : Draft) (before : List Instr) (k : ℕ) → t ≡ Lam T e → H' ≡ T ∷ [] → G' ≡ [] → before ≡ d.instrs → b ≡ block_begun d → w ≡ wrote h H' e b → k ≡ count w → x ≡ block_ended h t G' before w → new ≡ put (instr.Constant k) x → new ≡ wrote_value (KFun h t) d
packed_lam_written h T e t H' G' d b w x new before k is eH eG eb hb hw hk hx hn =
    framed h (T ∷ []) e d b w x new before k instr.Constant [] (Lam T e) H' G' t eH eG is eb hb hw hk hx hn
    ∙ sym (wrote_KLam h T e d) ∙ ap (λ (l : Expr). wrote_value (KFun h l) d) (sym is)

pub packed_rec_written : (h : Home) (T U : Typ) (e t : Expr) (H' G' : List Typ) (d b w x new : Draft) (before : List Instr) (k : ℕ) → t ≡ Rec T U e → H' ≡ T ∷ TFun T U ∷ [] → G' ≡ [] → before ≡ d.instrs → b ≡ block_begun d → w ≡ wrote h H' e b → k ≡ count w → x ≡ block_ended h t G' before w → new ≡ put (instr.RecConstant k) x → new ≡ wrote_value (KFun h t) d
packed_rec_written h T U e t H' G' d b w x new before k is eH eG eb hb hw hk hx hn =
    framed h (T ∷ TFun T U ∷ []) e d b w x new before k instr.RecConstant [] (Rec T U e) H' G' t eH eG is eb hb hw hk hx hn
    ∙ sym (wrote_KRec h T U e d) ∙ ap (λ (l : Expr). wrote_value (KFun h l) d) (sym is)

pub if_written : (c : Home) (G : List Typ) (t a b e : Expr) (d d1 d2 d3 d4 d6 d7 new : Draft) (k1 k2 second end : ℕ) → e ≡ If t a b → d1 ≡ wrote c G t d → k1 ≡ address d1 → d2 ≡ put open_jump d1 → d3 ≡ wrote c G a d2 → k2 ≡ address d3 → d4 ≡ put open_jump d3 → second ≡ address d4 → d6 ≡ wrote c G b d4 → end ≡ address d6 →
    d7 ≡ set_at k1 (instr.JumpIfNot second) d6 → new ≡ set_at k2 (instr.Jump end) d7 → new ≡ wrote c G e d
if_written c G t a b e d d1 d2 d3 d4 d6 d7 new k1 k2 second end is h1 q1 h2 h3 q2 h4 qs h6 qe h7 hn =
    hn ∙ ap₂ (λ (k n : ℕ). set_at k (instr.Jump n) d7) q2 qe
    ∙ ap (set_at (address d3) (instr.Jump (address d6))) (h7 ∙ ap₂ (λ (k n : ℕ). set_at k (instr.JumpIfNot n) d6) q1 qs)
    ∙ wrote_If c G t a b d d1 d3 d4 d6 h1 (h3 ∙ ap (wrote c G a) h2) h4 h6 ∙ ap (λ (x : Expr). wrote c G x d) (sym is)

pub match_written : (c : Home) (G : List Typ) (a e : Expr) (cases : Arms) (d d1 d2 d3 new : Draft) (addresses : List ℕ) → e ≡ Match a cases → d1 ≡ wrote c G a d → d2 ≡ wrote_arms c G cases d1 → addresses ≡ ends cases (address d1) → d3 ≡ put instr.NoMatch d2 → new ≡ jumps_at addresses (address d3) d3 → new ≡ wrote c G e d
match_written c G a e cases d d1 d2 d3 new addresses is h1 h2 hp h3 hn =
    hn ∙ ap (λ (ks : List ℕ). jumps_at ks (address d3) d3) hp ∙ wrote_Match c G a cases d d1 d3 h1 (h3 ∙ ap (put instr.NoMatch) h2) ∙ ap (λ (x : Expr). wrote c G x d) (sym is)

pub try_written : (c : Home) (G : List Typ) (a e : Expr) (cases : Arms) (d d1 d2 d3 d4 d5 d6 d7 d8 new : Draft) (k1 k2 handler end : ℕ) (addresses : List ℕ) → e ≡ Try a cases → k1 ≡ address d → d1 ≡ put open_jump d → d2 ≡ wrote c G a d1 → d3 ≡ put instr.EndTry d2 → k2 ≡ address d3 → d4 ≡ put open_jump d3 → handler ≡ address d4 →
    d5 ≡ wrote_arms c G cases d4 → addresses ≡ ends cases (address d4) → d6 ≡ put instr.Raise d5 → end ≡ address d6 → d7 ≡ jumps_at addresses (address d6) d6 → d8 ≡ set_at k2 (instr.Jump end) d7 → new ≡ set_at k1 (instr.Try handler) d8 → new ≡ wrote c G e d
try_written c G a e cases d d1 d2 d3 d4 d5 d6 d7 d8 new k1 k2 handler end addresses is q1 h1 h2 h3 q2 h4 qh h5 hp h6 qe h7 h8 hn =
    hn ∙ ap₂ (λ (k n : ℕ). set_at k (instr.Try n) d8) q1 qh
    ∙ ap (set_at (address d) (instr.Try (address d4))) (
    h8 ∙ ap₂ (λ (k n : ℕ). set_at k (instr.Jump n) d7) q2 qe
    ∙ ap (set_at (address d3) (instr.Jump (address d6))) (h7 ∙ ap (λ (ks : List ℕ). jumps_at ks (address d6) d6) hp)
    )
    ∙ wrote_Try c G a cases d d3 d4 d6 (h3 ∙ ap (put instr.EndTry) (h2 ∙ ap (wrote c G a) h1)) h4 (h6 ∙ ap (put instr.Raise) h5) ∙ ap (λ (x : Expr). wrote c G x d) (sym is)

module _ (c : Home) (G H' : List Typ) (q : Pattern) (b : Expr) (d d1 d2 d3 : Draft) (variables : ℕ) (eH : H' ≡ reverse (pattern_types q) ++ G) (en : variables ≡ variable_count q) (h1 : d1 ≡ put open_jump d) (h2 : d2 ≡ wrote c H' b d1) (h3 : d3 ≡ put_all (unbind variables) d2) where
  body_written : d3 ≡ put_all (unbind (variable_count q)) (wrote c (reverse (pattern_types q) ++ G) b (put open_jump d))
  body_written = h3 ∙ ap₂ (λ (n : ℕ) (y : Draft). put_all (unbind n) y) en (h2 ∙ ap₂ (λ (K : List Typ) (y : Draft). wrote c K b y) eH h1)

  pub arm_written : (d4 new : Draft) (k next : ℕ) → k ≡ address d → d4 ≡ put open_jump d3 → next ≡ address d4 → new ≡ set_at k (instr.Test q next) d4 → new ≡ wrote_arm c G q b d
  arm_written d4 new k next qk h4 qn hn = hn ∙ ap₂ (λ (m n : ℕ). set_at m (instr.Test q n) d4) qk qn ∙ wrote_one_arm c G q b d d3 d4 body_written h4

  pub arm_ended : (end : ℕ) → end ≡ address d3 → end ≡ arm_end q b (address d)
  arm_ended end he = he ∙ ap address body_written ∙ arm_address c G q b d
