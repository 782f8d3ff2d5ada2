use Rattle.std.proofs.Common.{refl, sym, ap, ◌∙◌}
use Rattle.ac_types.specs.Types.{same}
use Rattle.ac_types.specs.Sigs.{stand_in}
use Rattle.ac_types.specs.ReadTypes.{typ_of, sig_of}
use Rattle.ac_types.proofs.Equal.{unlike_lengths}
use Rattle.ac_rules.proofs.UnderLaws.{reads_tuple, reads_list, reads_option, reads_function, no_tuple, no_list, no_option, no_function, kept, at_forms, of_tuples, of_lists, of_options, of_functions, of_unlike}
use Rattle.ac_rules.proofs.under.+under.Goals as goal

pub are_under-returns-then-a-b : goal.are_under-returns-then-a-b
are_under-returns-then-a-b t c =
    sym (unlike_lengths (stand_in (sig_of c.args.target.now)) c.args.a.now c.args.b.now (λ e. c.if-a-b.true e))

pub is_under-returns-in-Tuple-a : goal.is_under-returns-in-Tuple-a
is_under-returns-in-Tuple-a t c =
    of_tuples (stand_in (sig_of c.args.target.now)) _ _ (reads_tuple c.in-Tuple-a.is c.as_slice-in-Tuple-a.ensures) (reads_tuple c.in-Tuple.is c.as_slice-in-Tuple-a-2.ensures) c.are_under.ensures

pub is_under-returns-in-List-a : goal.is_under-returns-in-List-a
is_under-returns-in-List-a t c =
    of_lists (stand_in (sig_of c.args.target.now)) _ _ (reads_list c.in-List-a.is c.deref.ensures) (reads_list c.in-List.is c.deref-in-List-a.ensures) c.is_under.ensures

pub is_under-returns-in-Opt-a : goal.is_under-returns-in-Opt-a
is_under-returns-in-Opt-a t c =
    of_options (stand_in (sig_of c.args.target.now)) _ _ (reads_option c.in-Opt-a.is c.deref-in-Opt-a.ensures) (reads_option c.in-Opt.is c.deref-in-Opt-a-2.ensures) c.is_under-in-Opt-a.ensures

pub is_under-returns-then-is_under : goal.is_under-returns-then-is_under
is_under-returns-then-is_under t c =
    of_functions (stand_in (sig_of c.args.target.now)) _ _ _ _ (reads_function c.in-Fun-a.is c.deref-in-Fun-a.ensures c.deref-then-is_under.ensures) (reads_function c.in-Fun.is c.deref-in-Fun-a-2.ensures c.deref-then-is_under-2.ensures)
    c.if-is_under.true c.is_under-in-Fun-a.ensures c.is_under-then-is_under.ensures

pub is_under-returns-else-is_under : goal.is_under-returns-else-is_under
is_under-returns-else-is_under t c =
    of_unlike (stand_in (sig_of c.args.target.now)) _ _ _ _ (reads_function c.in-Fun-a.is c.deref-in-Fun-a.ensures refl) (reads_function c.in-Fun.is c.deref-in-Fun-a-2.ensures refl)
    c.if-is_under.false c.is_under-in-Fun-a.ensures

pub is_under-returns-in_default-a : goal.is_under-returns-in_default-a
is_under-returns-in_default-a t c =
    at_forms (stand_in (sig_of c.args.target.now)) refl (reads_tuple c.in-Tuple.is refl) (no_tuple c.args.a.now c.in_default-a.not-Tuple _)

pub is_under-returns-in_default-a-2 : goal.is_under-returns-in_default-a-2
is_under-returns-in_default-a-2 t c =
    at_forms (stand_in (sig_of c.args.target.now)) refl (reads_list c.in-List.is refl) (no_list c.args.a.now c.in_default-a-2.not-List _)

pub is_under-returns-in_default-a-3 : goal.is_under-returns-in_default-a-3
is_under-returns-in_default-a-3 t c =
    at_forms (stand_in (sig_of c.args.target.now)) refl (reads_option c.in-Opt.is refl) (no_option c.args.a.now c.in_default-a-3.not-Opt _)

pub is_under-returns-in_default-a-4 : goal.is_under-returns-in_default-a-4
is_under-returns-in_default-a-4 t c =
    at_forms (stand_in (sig_of c.args.target.now)) refl (reads_function c.in-Fun.is refl refl) (no_function c.args.a.now c.in_default-a-4.not-Fun _ _)

pub is_under-returns-in_default : goal.is_under-returns-in_default
is_under-returns-in_default t c =
    c.same_types-in_default.ensures ∙ ap (same (typ_of c.args.a.now)) (kept c.args.b.now (stand_in (sig_of c.args.target.now)) c.in_default.not-Mine c.in_default.not-Tuple c.in_default.not-List c.in_default.not-Opt c.in_default.not-Fun)
