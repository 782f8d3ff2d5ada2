use Rattle.std.proofs.Common.{◌∙◌, sym, ap, ap₂, length}
use Rattle.ac_types.specs.declared.ty.Ty.TheVariants as ty
use Rattle.ac_canon.proofs.TypeForms.{typ_of-Int, typ_of-Bool, typ_of-Str, typ_of-Unit, typ_of-Exn, typ_of-Tuple, typ_of-List, typ_of-Opt, typ_of-Fun, typ_of-Abs, typ_of-Mine, count_types}
use Rattle.ac_canon.proofs.Puts.{put_behind, put_third, put_type_as}
use Rattle.ac_canon.proofs.types.+ty.Goals as goal

pub put_type-returns-in-Int : goal.put_type-returns-in-Int
put_type-returns-in-Int t c = put_type_as _ _ _ _ _ _ c.in-Int.is typ_of-Int c.put_u8.ensures.ok

pub put_type-returns-in-Bool : goal.put_type-returns-in-Bool
put_type-returns-in-Bool t c = put_type_as _ _ _ _ _ _ c.in-Bool.is typ_of-Bool c.put_u8-in-Bool.ensures.ok

pub put_type-returns-in-Str : goal.put_type-returns-in-Str
put_type-returns-in-Str t c = put_type_as _ _ _ _ _ _ c.in-Str.is typ_of-Str c.put_u8-in-Str.ensures.ok

pub put_type-returns-in-Unit : goal.put_type-returns-in-Unit
put_type-returns-in-Unit t c = put_type_as _ _ _ _ _ _ c.in-Unit.is typ_of-Unit c.put_u8-in-Unit.ensures.ok

pub put_type-returns-in-Exn : goal.put_type-returns-in-Exn
put_type-returns-in-Exn t c = put_type_as _ _ _ _ _ _ c.in-Exn.is typ_of-Exn c.put_u8-in-Exn.ensures.ok

pub put_type-returns-in_ok-put_count_u8-in-Tuple : goal.put_type-returns-in_ok-put_count_u8-in-Tuple
put_type-returns-in_ok-put_count_u8-in-Tuple t c =
    let count = c.len.ensures ∙ sym (ap length c.as_slice.ensures) ∙ sym (count_types c.as_slice.result.now) in
    put_type_as _ _ _ _ _ _ (c.in-Tuple.is ∙ ap ty.Tuple (sym c.as_slice.ensures)) (typ_of-Tuple _)
    (put_third _ _ _ _ _ _ _ _ c.in_ok-put_u8-in-Tuple.ensures.ok (rw count at c.in_ok-put_count_u8-in-Tuple.ensures) c.put_types.ensures)

pub put_type-returns-in_ok-put_u8-in-List : goal.put_type-returns-in_ok-put_u8-in-List
put_type-returns-in_ok-put_u8-in-List t c =
    put_type_as _ _ _ _ _ _ (c.in-List.is ∙ ap ty.List (sym c.deref.ensures)) (typ_of-List _) (put_behind _ _ _ _ _ _ c.in_ok-put_u8-in-List.ensures.ok c.put_type.ensures)

pub put_type-returns-in_ok-put_u8-in-Opt : goal.put_type-returns-in_ok-put_u8-in-Opt
put_type-returns-in_ok-put_u8-in-Opt t c =
    put_type_as _ _ _ _ _ _ (c.in-Opt.is ∙ ap ty.Opt (sym c.deref-in-Opt.ensures)) (typ_of-Opt _) (put_behind _ _ _ _ _ _ c.in_ok-put_u8-in-Opt.ensures.ok c.put_type-in-Opt.ensures)

pub put_type-returns-in_ok-put_type-in-Fun : goal.put_type-returns-in_ok-put_type-in-Fun
put_type-returns-in_ok-put_type-in-Fun t c =
    put_type_as _ _ _ _ _ _ (c.in-Fun.is ∙ ap₂ ty.Fun (sym c.deref-in-Fun.ensures) (sym c.deref-in-Fun-2.ensures)) (typ_of-Fun _ _)
    (put_third _ _ _ _ _ _ _ _ c.in_ok-put_u8-in-Fun.ensures.ok c.in_ok-put_type-in-Fun.ensures c.put_type-in-Fun-2.ensures)

pub put_type-returns-in_ok-put_bytes-in-Abs : goal.put_type-returns-in_ok-put_bytes-in-Abs
put_type-returns-in_ok-put_bytes-in-Abs t c =
    put_type_as _ _ _ _ _ _ c.in-Abs.is (typ_of-Abs _ _)
    (put_third _ _ _ _ _ _ _ _ c.in_ok-put_u8-in-Abs.ensures.ok (rw c.as_slice-in-Abs.ensures at c.in_ok-put_bytes-in-Abs.ensures.ok) c.put_word.ensures)

pub put_type-returns-in_ok-put_u8-in-Mine : goal.put_type-returns-in_ok-put_u8-in-Mine
put_type-returns-in_ok-put_u8-in-Mine t c =
    put_type_as _ _ _ _ _ _ c.in-Mine.is (typ_of-Mine _) (put_behind _ _ _ _ _ _ c.in_ok-put_u8-in-Mine.ensures.ok c.put_word-in-Mine.ensures)
