-- A table of code with more blocks behind those of another.
use Rattle.std.proofs.Common.{◌≡◌, ℕ, zero, suc, List, [], ◌∷◌, ◌++◌, Some, refl, sym, ap, ◌∙◌, subst, append_assoc}
use Rattle.std.specs.Prelude.{slice_get}
use Rattle.ac_types.proofs.FirstLaws.{none≢some}
use Rattle.ac_code.specs.Code.{Block, Code}

pub got_left : {X : Type 0} (l ys : List X) (p : ℕ) (x : X) → slice_get l p ≡ Some x → slice_get (l ++ ys) p ≡ Some x
got_left [] ys p x e = absurd (none≢some e)
got_left (z ∷ l) ys zero x e = e
got_left (z ∷ l) ys (suc p) x e = got_left l ys p x e

-- the blocks of one table stand in another, and others behind them
abbrev pub Ext : Code → Code → Type 0
Ext K L = (more : List Block) × (L.blocks ≡ K.blocks ++ more)

pub ext_refl : (K : Code) → Ext K K
ext_refl K = ([], sym (by K.blocks))
  where
    by : (bs : List Block) → bs ++ [] ≡ bs
    by [] = refl
    by (b ∷ bs) = ap (λ l. b ∷ l) (by bs)

pub ext_on : (K L M : Code) → Ext K L → Ext L M → Ext K M
ext_on K L M a b = (a.0 ++ b.0, b.1 ∙ ap (λ l. l ++ b.0) a.1 ∙ append_assoc K.blocks a.0 b.0)

module _ (K L : Code) (ext : Ext K L) where
  pub block_stays : (b : ℕ) (B : Block) → slice_get K.blocks b ≡ Some B → slice_get L.blocks b ≡ Some B
  block_stays b B e = subst (λ bs. slice_get bs b ≡ Some B) (sym ext.1) (got_left K.blocks ext.0 b B e)
