-- Programs that exchange modules, computed: names are those of SHA-256.
use Rattle.std.proofs.Common.{◌≡◌, refl}
use Rattle.std.specs.Prelude.{ℕ, ℤ, pos, false, List, [], ◌∷◌, ◌++◌, flat_map, Option, Some, None, codes, unwrap_or}
use Rattle.std.specs.Int.{int_wrap}
use Rattle.std.specs.Fmt.{digits}
use Rattle.sha2.specs.Sha256.{sha256, digest_bytes, hash_after, compress, rounds, schedule, first_words}
use Rattle.ac_types.specs.Exceptions as exceptions
use Rattle.ac_types.specs.Primitives as primitives
use Rattle.ac_types.specs.Types.{Bytes, Typ, TInt, TStr, TUnit, TList, TFun, TAbs, TMine}
use Rattle.ac_types.specs.Sigs.{Signature, Number, MyName, Ranges, One, HereAlready}
use Rattle.ac_types.specs.Words.{is_reserved}
use Rattle.ac_terms.specs.Terms.{PVar, PTuple, PExnOf, patterns, Expr, Str, Unit', Tuple, Nil, Cons, Var, Own, Ref, Lam, App, Let, Match, Seq, Try, Prim, Marshal, Unmarshal, exprs, arms, KInt, Value, VStr}
use Rattle.ac_terms.specs.Defs.{Environment, Def, AModule, AnImport, Own'}
use Rattle.ac_terms.specs.Names.{name_by}
use Rattle.ac_terms.proofs.Samples.{number_module, any_m1, pair_type}
use Rattle.ac_rules.specs.Views.{Mode, Plain, Coloured}
use Rattle.ac_rules.proofs.Samples.{t}
use Rattle.ac_meaning.specs.Writes.{Console, written}
use Rattle.ac_meaning.specs.Worlds.{Exception, fresh, Made, with_crossing}
use Rattle.ac_meaning.specs.Acts.{State, At, Over, Returned, Raised, iter}
use Rattle.ac_outside.specs.Frames.{frame_of}
use Rattle.ac_terms.specs.Spelling.{packet_bytes}
use Rattle.ac_rules.specs.Packets.{Full}
use Rattle.ac_meaning.specs.Packing.{packing, landing, Sinks, received, of_cause, unmarshal_failure_exn, resolve_failure_exn}
use Rattle.ac_meaning.specs.Reduction.{step}
use Rattle.ac_meaning.proofs.Programs.{number, plus, print_int, print}
use Rattle.ac_meaning.proofs.PackingExamples.{a_mark, receive}

-- an own definition behind others, under its name
abbrev behind : Environment → Def → Option ℕ → Environment
behind E d link = E ++ record { def = d; name = name_by sha256 E d; seen = Own'; link = link } ∷ []

-- what was printed, and what was raised
abbrev said : State Expr Value → Option (Bytes × Option Exception)
said (Over (Returned v z)) = Some (written Console z.writes, None)
said (Over (Raised x z)) = Some (written Console z.writes, Some x)
said s = None

abbrev runs : Mode → Environment → List Bytes → Expr → Option (Bytes × Option Exception)
runs mode E input e = said (iter (step mode 9) 80 (At e (fresh E (flat_map frame_of input) false)))

-- the string that a run gives
abbrev string_of : State Expr Value → Bytes
string_of (Over (Returned (VStr s) z)) = s
string_of s = []

abbrev marshals : Environment → Typ → Expr → Bytes
marshals E T e = string_of (iter (step Coloured 9) 40 (At (Marshal T (Str (codes "MK")) e) (fresh E [] false)))

-- M1 of version 1, an import linked to it, a mark and M2
abbrev m1 : ℕ → ℤ → Def
m1 v n = AModule (number_module (codes "M1") (codes "y") (Number v ∷ []) n)

abbrev m2 : Def
m2 = AModule (number_module (codes "M2") (codes "z") (MyName ∷ []) (pos 3))

abbrev sends_pair : Environment
sends_pair = behind (behind (behind [] (m1 1 (pos 6)) None) any_m1 (Some 0) ++ a_mark (codes "MK") ∷ []) m2 None

abbrev pair_string : Bytes
pair_string =
    0x41 ∷ 0x43 ∷ 0x55 ∷ 0x50 ∷ 0x01 ∷ 0x00 ∷ 0x02 ∷
    0x02 ∷ 0x02 ∷ 0x4D ∷ 0x31 ∷ 0x00 ∷ 0x00 ∷ 0x00 ∷ 0x01 ∷ 0x01 ∷ 0x79 ∷ 0x01 ∷ 0x01 ∷ 0x00 ∷ 0x01 ∷ 0x00 ∷ 0x00 ∷ 0x01 ∷ 0x02 ∷
    0x01 ∷ 0x02 ∷ 0x4D ∷ 0x32 ∷ 0x01 ∷ 0x02 ∷ 0x00 ∷ 0x00 ∷ 0x00 ∷ 0x01 ∷ 0x01 ∷ 0x7A ∷ 0x01 ∷ 0x00 ∷ 0x00 ∷ 0x00 ∷ 0x01 ∷ 0x01 ∷ 0x7A ∷ 0x01 ∷ 0x01 ∷ 0x00 ∷ 0x00 ∷ 0x00 ∷ 0x00 ∷ 0x00 ∷ 0x00 ∷ 0x00 ∷ 0x03 ∷
    0x09 ∷ 0x04 ∷ 0x06 ∷ 0x02 ∷ 0x01 ∷ 0x01 ∷
    0x0A ∷ 0x00 ∷ 0x00 ∷ 0x0E ∷ 0x04 ∷ 0x06 ∷ 0x02 ∷ 0x0D ∷ 0x00 ∷ 0x00 ∷ 0x01 ∷ 0x79 ∷ 0x0D ∷ 0x00 ∷ 0x01 ∷ 0x01 ∷ 0x7A ∷ []

-- `marshal "MK" (fun (u : unit) -> (M1.y, M2.z)) : unit -> int * int`
abbrev pair_function : Expr
pair_function = Lam TUnit (Tuple (exprs (Ref 1 (codes "y") ∷ Ref 3 (codes "z") ∷ [])))

pub the_pair_is_sent :
    iter (step Coloured 0) 4 (At (Marshal pair_type (Str (codes "MK")) pair_function) (fresh sends_pair [] false)) ≡ Over (Returned (VStr pair_string) (with_crossing (Made pair_string) (fresh sends_pair [] false)))
unfolding packing
the_pair_is_sent = refl

-- `match (unmarshal (IO.receive ()) as unit -> int * int) () with ((a : int), (b : int)) -> IO.print_int a; IO.print_string ","; IO.print_int b end`
abbrev print_pair : Expr
print_pair =
    Match (App (Unmarshal pair_type receive) Unit') (arms (
    (PTuple (patterns (PVar TInt ∷ PVar TInt ∷ [])), Seq (exprs (print_int (Var 1) ∷ print (codes ",") ∷ print_int (Var 0) ∷ []))) ∷ []
    ))

pub the_pair_is_printed : runs Coloured (behind [] (m1 2 (pos 7)) None) (pair_string ∷ []) print_pair ≡ Some (codes "7,3", None)
unfolding int_wrap digits is_reserved sha256 digest_bytes hash_after compress rounds schedule first_words packing landing
the_pair_is_printed = refl

pub the_pair_is_printed_plain : runs Plain (behind [] (m1 2 (pos 7)) None) (pair_string ∷ []) print_pair ≡ Some (codes "7,3", None)
unfolding int_wrap digits is_reserved sha256 digest_bytes hash_after compress rounds schedule first_words packing landing
the_pair_is_printed_plain = refl

-- `module C : sig type t val make : int -> t val get : t -> int end = struct type t = int val make : int -> t = fun (x : int) -> x + n val get : t -> int = fun (x : t) -> x end`
abbrev text_c : ℕ → Def
text_c n = AModule (record {
  name = codes "C";
  version = MyName ∷ [];
  sig = record {
    types = record { name = t; manifest = None } ∷ [];
    vals = record { name = codes "make"; ty = TFun TInt (TMine t) } ∷ record { name = codes "get"; ty = TFun (TMine t) TInt } ∷ [];
  };
  types = record { name = t; ty = TInt } ∷ [];
  fields =
      record { name = codes "make"; ty = TFun TInt TInt; term = Lam TInt (plus (Var 0) (number n)) } ∷
      record { name = codes "get"; ty = TFun TInt TInt; term = Lam TInt (Var 0) } ∷ [];
})

abbrev c_name_of : ℕ → Bytes
c_name_of n = unwrap_or (name_by sha256 [] (text_c n)) []

abbrev c_type : ℕ → Typ
c_type n = TAbs (c_name_of n) t

-- `marshal "MK" (C.make 4) : C.t`, with C behind the mark and before it
abbrev four_made : ℕ → Expr
four_made c = App (Ref c (codes "make")) (number 4)

abbrev with_c : Bytes
with_c = marshals (behind (a_mark (codes "MK") ∷ []) (text_c 1) None) (c_type 1) (four_made 1)

abbrev without_c : Bytes
without_c = marshals (behind [] (text_c 1) None ++ a_mark (codes "MK") ∷ []) (c_type 1) (four_made 0)

-- `IO.print_int (C.get (unmarshal (IO.receive ()) as C.t))`
abbrev get_received : ℕ → Expr
get_received n = print_int (App (Ref 0 (codes "get")) (Unmarshal (c_type n) receive))

abbrev gets : Mode → ℕ → Bytes → Option (Bytes × Option Exception)
gets mode n s = runs mode (behind [] (text_c n) None) (s ∷ []) (get_received n)

pub another_c : gets Coloured 2 with_c ≡ Some ([], Some (unmarshal_failure_exn (codes "type")))
unfolding int_wrap digits is_reserved sha256 digest_bytes hash_after compress rounds schedule first_words packing landing
another_c = refl

pub another_c_cut : gets Coloured 2 without_c ≡ Some ([], Some (resolve_failure_exn (codes "C")))
unfolding int_wrap digits is_reserved sha256 digest_bytes hash_after compress rounds schedule first_words packing landing
another_c_cut = refl

pub the_same_c : gets Coloured 1 with_c ≡ Some (codes "5", None)
unfolding int_wrap digits is_reserved sha256 digest_bytes hash_after compress rounds schedule first_words packing landing
the_same_c = refl

pub the_same_c_cut : gets Coloured 1 without_c ≡ Some (codes "5", None)
unfolding int_wrap digits is_reserved sha256 digest_bytes hash_after compress rounds schedule first_words packing landing
the_same_c_cut = refl

pub the_same_c_plain : gets Plain 1 with_c ≡ Some (codes "5", None)
unfolding int_wrap digits is_reserved sha256 digest_bytes hash_after compress rounds schedule first_words packing landing
the_same_c_plain = refl

-- M, whose type t is T, and an import of it like int
abbrev m_sig : Signature
m_sig = record { types = record { name = t; manifest = None } ∷ []; vals = record { name = codes "v"; ty = TMine t } ∷ [] }

abbrev text_m : Typ → Expr → Def
text_m T e = AModule (record {
  name = codes "M";
  version = Number 1 ∷ [];
  sig = m_sig;
  types = record { name = t; ty = T } ∷ [];
  fields = record { name = codes "v"; ty = T; term = e } ∷ [];
})

abbrev like_int : Def
like_int = AnImport (record { name = codes "M"; sig = m_sig; constraint = Ranges (One 1 ∷ []) false; like = record { name = t; ty = TInt } ∷ []; by = HereAlready ∷ [] })

abbrev sends_v : Environment
sends_v = behind (behind [] (text_m TInt (number 3)) None) like_int (Some 0) ++ a_mark (codes "MK") ∷ []

abbrev import_type : Typ
import_type = TAbs (unwrap_or (name_by sha256 [] like_int) []) t

abbrev v_string : Bytes
v_string = marshals sends_v (TFun TUnit import_type) (Lam TUnit (Ref 1 (codes "v")))

abbrev five_string : Bytes
five_string = marshals sends_v TInt (number 5)

-- a receiver whose M represents t by string: `try let f : unit -> M.t = unmarshal (IO.receive ()) as unit -> M.t in () with Resolve_failure (s : string) -> IO.print_string s end; IO.print_int (unmarshal (IO.receive ()) as int)`
abbrev receives_v : Environment
receives_v = behind [] (text_m TStr (Str (codes "a"))) None

abbrev own_type : Typ
own_type = TFun TUnit (TAbs (unwrap_or (name_by sha256 [] (text_m TStr (Str (codes "a")))) []) t)

abbrev print_both : Expr
print_both = Seq (exprs (
    Try (Let own_type (Unmarshal own_type receive) Unit') (arms ((PExnOf exceptions.resolve_failure (PVar TStr), Prim primitives.print_string (exprs (Var 0 ∷ []))) ∷ [])) ∷
    print_int (Unmarshal TInt receive) ∷ []
    ))

pub no_link_then_five : runs Coloured receives_v (v_string ∷ five_string ∷ []) print_both ≡ Some (codes "M5", None)
unfolding int_wrap digits is_reserved sha256 digest_bytes hash_after compress rounds schedule first_words packing landing
no_link_then_five = refl

-- with M as the sender has it the import links, and t comes as the import's own
pub with_a_link : runs Coloured (behind [] (text_m TInt (number 7)) None) (v_string ∷ []) (Let (TFun TUnit import_type) (Unmarshal (TFun TUnit import_type) receive) Unit') ≡ Some ([], None)
unfolding int_wrap digits is_reserved sha256 digest_bytes hash_after compress rounds schedule first_words packing landing
with_a_link = refl

-- functions that capture: `let l : L.t list = L.mk 1 :: L.mk 2 :: ([] : L.t list) in let f : unit -> L.t list = fun (u : unit) -> l in let g : unit -> unit -> L.t list = fun (u : unit) -> f in marshal "MK" g : unit -> unit -> L.t list`. In the main program the list's items are sealed
abbrev text_l : Def
text_l = AModule (record {
  name = codes "L";
  version = MyName ∷ [];
  sig = record {
    types = record { name = t; manifest = None } ∷ [];
    vals = record { name = codes "mk"; ty = TFun TInt (TMine t) } ∷ record { name = codes "get"; ty = TFun (TMine t) TInt } ∷ [];
  };
  types = record { name = t; ty = TInt } ∷ [];
  fields = record { name = codes "mk"; ty = TFun TInt TInt; term = Lam TInt (Var 0) } ∷ record { name = codes "get"; ty = TFun TInt TInt; term = Lam TInt (Var 0) } ∷ [];
})

abbrev with_l : Environment
with_l = behind (a_mark (codes "MK") ∷ []) text_l None

abbrev l_list : Typ
l_list = TList (TAbs (unwrap_or (name_by sha256 [] text_l) []) t)

abbrev l_mk : ℕ → Expr
l_mk n = App (Ref 1 (codes "mk")) (number n)

abbrev capturing : Expr
capturing =
    Let l_list (Cons (l_mk 1) (Cons (l_mk 2) (Nil l_list)))
    (Let (TFun TUnit l_list) (Lam TUnit (Var 1)) (Let (TFun TUnit (TFun TUnit l_list)) (Lam TUnit (Var 1)) (Marshal (TFun TUnit (TFun TUnit l_list)) (Str (codes "MK")) (Var 0))))

abbrev captured_string : Bytes
captured_string =
    0x41 ∷ 0x43 ∷ 0x55 ∷ 0x50 ∷ 0x01 ∷ 0x00 ∷ 0x01 ∷ 0x01 ∷ 0x01 ∷ 0x4C ∷ 0x01 ∷ 0x02 ∷ 0x00 ∷ 0x01 ∷ 0x01 ∷ 0x74 ∷ 0x00 ∷ 0x00 ∷ 0x02 ∷ 0x02 ∷ 0x6D ∷ 0x6B ∷ 0x09 ∷ 0x01 ∷ 0x0B ∷ 0x01 ∷ 0x74 ∷ 0x03 ∷ 0x67 ∷ 0x65 ∷ 0x74 ∷ 0x09 ∷
    0x0B ∷ 0x01 ∷ 0x74 ∷ 0x01 ∷ 0x00 ∷ 0x01 ∷ 0x01 ∷ 0x74 ∷ 0x01 ∷ 0x00 ∷ 0x02 ∷ 0x02 ∷ 0x6D ∷ 0x6B ∷ 0x09 ∷ 0x01 ∷ 0x01 ∷ 0x0E ∷ 0x01 ∷ 0x0B ∷ 0x00 ∷ 0x00 ∷ 0x03 ∷ 0x67 ∷ 0x65 ∷ 0x74 ∷ 0x09 ∷ 0x01 ∷ 0x01 ∷ 0x0E ∷ 0x01 ∷ 0x0B ∷
    0x00 ∷ 0x00 ∷ 0x09 ∷ 0x04 ∷ 0x09 ∷ 0x04 ∷ 0x07 ∷ 0x0A ∷ 0x73 ∷ 0x62 ∷ 0xC7 ∷ 0x49 ∷ 0x13 ∷ 0xFA ∷ 0x2C ∷ 0x77 ∷ 0x40 ∷ 0x13 ∷ 0xAD ∷ 0xF6 ∷ 0x0C ∷ 0xFD ∷ 0xE0 ∷ 0x72 ∷ 0x64 ∷ 0x13 ∷ 0x34 ∷ 0x96 ∷ 0xD5 ∷ 0x4F ∷ 0x69 ∷ 0x30 ∷
    0xB0 ∷ 0xDE ∷ 0xCE ∷ 0x19 ∷ 0xED ∷ 0x0C ∷ 0xC1 ∷ 0x7D ∷ 0x01 ∷ 0x74 ∷ 0x0A ∷ 0x00 ∷ 0x00 ∷ 0x0E ∷ 0x04 ∷ 0x1A ∷ 0x09 ∷ 0x04 ∷ 0x07 ∷ 0x0A ∷ 0x73 ∷ 0x62 ∷ 0xC7 ∷ 0x49 ∷ 0x13 ∷ 0xFA ∷ 0x2C ∷ 0x77 ∷ 0x40 ∷ 0x13 ∷ 0xAD ∷ 0xF6 ∷
    0x0C ∷ 0xFD ∷ 0xE0 ∷ 0x72 ∷ 0x64 ∷ 0x13 ∷ 0x34 ∷ 0x96 ∷ 0xD5 ∷ 0x4F ∷ 0x69 ∷ 0x30 ∷ 0xB0 ∷ 0xDE ∷ 0xCE ∷ 0x19 ∷ 0xED ∷ 0x0C ∷ 0xC1 ∷ 0x7D ∷ 0x01 ∷ 0x74 ∷ 0x0A ∷ 0x00 ∷ 0x00 ∷ 0x0E ∷ 0x04 ∷ 0x1A ∷ 0x07 ∷ 0x0A ∷ 0x73 ∷ 0x62 ∷
    0xC7 ∷ 0x49 ∷ 0x13 ∷ 0xFA ∷ 0x2C ∷ 0x77 ∷ 0x40 ∷ 0x13 ∷ 0xAD ∷ 0xF6 ∷ 0x0C ∷ 0xFD ∷ 0xE0 ∷ 0x72 ∷ 0x64 ∷ 0x13 ∷ 0x34 ∷ 0x96 ∷ 0xD5 ∷ 0x4F ∷ 0x69 ∷ 0x30 ∷ 0xB0 ∷ 0xDE ∷ 0xCE ∷ 0x19 ∷ 0xED ∷ 0x0C ∷ 0xC1 ∷ 0x7D ∷ 0x01 ∷ 0x74 ∷
    0x07 ∷ 0x00 ∷ 0x00 ∷ 0x00 ∷ 0x02 ∷ 0x01 ∷ 0x00 ∷ 0x00 ∷ 0x00 ∷ 0x00 ∷ 0x00 ∷ 0x00 ∷ 0x00 ∷ 0x01 ∷ 0x01 ∷ 0x00 ∷ 0x00 ∷ 0x00 ∷ 0x00 ∷ 0x00 ∷ 0x00 ∷ 0x00 ∷ 0x02 ∷ []

pub captures_are_sent : string_of (iter (step Coloured 9) 60 (At capturing (fresh with_l [] false))) ≡ captured_string
unfolding int_wrap digits is_reserved sha256 digest_bytes hash_after compress rounds schedule first_words packing landing
captures_are_sent = refl

pub captures_are_sent_plain : string_of (iter (step Plain 9) 60 (At capturing (fresh with_l [] false))) ≡ captured_string
unfolding int_wrap digits is_reserved sha256 digest_bytes hash_after compress rounds schedule first_words packing landing
captures_are_sent_plain = refl

-- what is read of it is sent on as it came: `marshal "MK" (unmarshal (IO.receive ()) as unit -> unit -> L.t list) : unit -> unit -> L.t list`
pub captures_are_sent_on :
    string_of (iter (step Coloured 9) 60 (At (Marshal (TFun TUnit (TFun TUnit l_list)) (Str (codes "MK")) (Unmarshal (TFun TUnit (TFun TUnit l_list)) receive)) (fresh with_l (frame_of captured_string) false))) ≡ captured_string
unfolding int_wrap digits is_reserved sha256 digest_bytes hash_after compress rounds schedule first_words packing landing
captures_are_sent_on = refl

-- the other causes of a refusal
abbrev reading_itself : Def
reading_itself = AModule (record (number_module (codes "M") (codes "y") (MyName ∷ []) (pos 1)) { fields = record { name = codes "y"; ty = TInt; term = Own 0 } ∷ [] })

-- a field that refers to itself isn't well formed; an entry keeps the name of a packet's module with another text; and there are too many entries
pub an_ill_formed_definition : landing [] TInt (packet_bytes (record { defs = reading_itself ∷ []; ty = TInt; value = KInt (pos 5) })) ≡ Sinks (unmarshal_failure_exn (codes "definition"))
unfolding landing is_reserved sha256 digest_bytes hash_after compress rounds schedule first_words
an_ill_formed_definition = refl

abbrev with_the_name : Environment
with_the_name = record { def = text_c 2; name = name_by sha256 [] (text_c 1); seen = Own'; link = None } ∷ []

pub a_clash : received with_the_name TInt (Some (record { defs = text_c 1 ∷ []; ty = TInt; value = KInt (pos 5) })) ≡ Sinks (unmarshal_failure_exn (codes "clash"))
unfolding sha256 digest_bytes hash_after compress rounds schedule first_words
a_clash = refl

pub too_many_entries : of_cause [] (Full 65536) ≡ unmarshal_failure_exn (codes "full")
too_many_entries = refl
