use Rattle.std.proofs.Common.{◌≡◌, [], ◌++◌, drop, map}
use Rattle.ac_types.specs.Types.{typs}
use Rattle.ac_types.specs.ReadTypes.{typ_of}
use Rattle.acute_listings.specs.Listing.{parts_shown}
use Rattle.acute_listings.proofs.types.+ty.Given as goal

abbrev pub invariant-put_parts-loop-ty : goal.invariant-put_parts-loop-ty
invariant-put_parts-loop-ty l = l.text.0 ++ parts_shown l.front (typs (map typ_of (drop l.ty-index l.tys))) ≡ l.initial.text.0 ++ parts_shown [] (typs (map typ_of l.tys))
