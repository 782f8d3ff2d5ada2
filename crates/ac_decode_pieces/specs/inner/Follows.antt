-- What stands behind the head of a type.
use Rattle.ac_types.specs.Types.{Typ, TTuple, TList, TOpt, TFun, no_types, typ}
use Rattle.ac_types.specs.ReadTypes.{typ_of}
use Rattle.ac_terms.specs.PacketReading.{ReadsPart, give, one, two_parts_read, times}
use Rattle.ac_decode_pieces.specs.declared.types.TypeHead.{TypeHead}
use Rattle.ac_decode_pieces.specs.declared.types.TypeHead.TheVariants as head

-- its inner types are read so
abbrev pub type_follows : ReadsPart Typ → TypeHead → ReadsPart Typ
type_follows f (head.Leaf ty) = give (typ_of ty)
type_follows f (head.Tuple n) = one TTuple (times no_types typ f n)
type_follows f head.List = one TList f
type_follows f head.Opt = one TOpt f
type_follows f head.Fun = two_parts_read TFun f f
