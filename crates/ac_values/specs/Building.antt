-- A table that is made from a list, each entry from those before it.
use Rattle.std.specs.Prelude.{List, [], ◌∷◌, ◌++◌}

-- the table after the items
abbrev pub built : {A B : Type 0} → (List B → A → B) → List B → List A → List B
built make bs [] = bs
built make bs (a ∷ as') = built make (bs ++ make bs a ∷ []) as'
