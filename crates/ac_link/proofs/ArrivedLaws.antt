-- What an import by version of a packet is linked to where other entries have arrived.
use Rattle.std.proofs.Common.{◌≡◌, sym, ap, ◌∙◌, ℕ, false, ◌++◌, take, drop}
use Rattle.std.proofs.lemmas.List.{take-append-drop}
use Rattle.ac_terms.specs.Defs.{Environment, Import}
use Rattle.ac_rules.specs.Links.{InPacket, is_exact, linked}
use Rattle.ac_rules.proofs.Rebinding.{rebinding}
use Rattle.ac_link.specs.Fronts.{DifferInArrived}

pub rebound : (E F : Environment) (i : Import) → DifferInArrived E F → is_exact i.constraint ≡ false → linked E i InPacket ≡ linked F i InPacket
rebound E F i d by_version =
    let k : ℕ = d.front in
    ap (λ (X : Environment). linked X i InPacket) (sym (take-append-drop k E))
    ∙ rebinding (take k E) (drop k E) (drop k F) i d.front_of_one.1 d.front_of_other.1 by_version
    ∙ ap (λ (X : Environment). linked (X ++ drop k F) i InPacket) d.same
    ∙ ap (λ (X : Environment). linked X i InPacket) (take-append-drop k F)
