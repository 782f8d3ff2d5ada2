-- Values by what they are read as.
use Rattle.std.proofs.Common.{◌≡◌, ℤ, true, Some, ap, refl}
use Rattle.ac_values.specs.Values.{MValue, MInt, MUnit, MNil, MAbsent}
use Rattle.ac_values.specs.ValueReaders.{int_in, is_unit, is_nil, is_absent}

pub known_int : (m : MValue) (n : ℤ) → int_in m ≡ Some n → m ≡ MInt n
known_int (MInt k) n e = let h : k ≡ n = cc in ap MInt h
known_int m n e = absurd (cc)

pub known_unit : (m : MValue) → is_unit m ≡ true → m ≡ MUnit
known_unit MUnit e = refl
known_unit m e = absurd (cc)

pub known_nil : (m : MValue) → is_nil m ≡ true → m ≡ MNil
known_nil MNil e = refl
known_nil m e = absurd (cc)

pub known_absent : (m : MValue) → is_absent m ≡ true → m ≡ MAbsent
known_absent MAbsent e = refl
known_absent m e = absurd (cc)
