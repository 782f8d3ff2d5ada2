use Rattle.std.proofs.Common.{◌≡◌, ap, sym, refl, subst, arith, ◌<◌, ◌+◌, ℕ, List, length, map, get_or}
use Rattle.std.proofs.lemmas.List.{length-map}
use Rattle.ac_types.specs.ReadTypes.{typ_of}
use Rattle.ac_terms.specs.Read.{environment_of, entry_of, expr_of}
use Rattle.ac_terms.specs.declared.def.Entry.{Entry}
use Rattle.ac_load_rules.specs.Accepting.{nothing}
use Rattle.ac_load.specs.declared.shelf.ShelfEntry.{ShelfEntry}
use Rattle.ac_load.specs.Loading.{shelved, shelf_of}
use Rattle.ac_load.proofs.Loaded.{loads_ready}
use Rattle.ac_load.proofs.ShelfLaws.{Before, all_seen, sound_before, before_next, rejects_here, rejects_last, loads_last}
use Rattle.ac_load.proofs.loading.load.Goals as goal

pub loop-entry-init : goal.loop-entry-init
loop-entry-init c = record {
  part = refl;
  before = subst (λ (l : List Entry). Before (shelf_of c.args.shelf.now) 0 (map entry_of l)) (sym c.new-env.ensures) nothing;
}

pub module_behind-requires-clause-few : goal.module_behind-requires-clause-few
module_behind-requires-clause-few c =
    let s = (sound_before c.args.shelf.now.0 c.loop-entry.entry-index (environment_of c.loop-entry.env) c.requires.shelved c.requires.few c.loop-entry.invariant.before).few in
    let a = length-map c.loop-entry.env.entries entry_of in
    omega (arith, a, s)

pub module_behind-requires-clause-names : goal.module_behind-requires-clause-names
module_behind-requires-clause-names c =
    (sound_before c.args.shelf.now.0 c.loop-entry.entry-index (environment_of c.loop-entry.env) c.requires.shelved c.requires.few c.loop-entry.invariant.before).names

pub module_behind-requires-clause-counted : goal.module_behind-requires-clause-counted
module_behind-requires-clause-counted c =
    (sound_before c.args.shelf.now.0 c.loop-entry.entry-index (environment_of c.loop-entry.env) c.requires.shelved c.requires.few c.loop-entry.invariant.before).counted

pub returns-in-Err-clause-refused : goal.returns-in-Err-clause-refused
returns-in-Err-clause-refused c =
    let xs = c.args.shelf.now.0 in
    let i = c.loop-entry.entry-index in
    let same = c.as_slice-entry-items.ensures in
    rejects_here xs i c.entry-item.result
    (subst (λ (l : List ShelfEntry). i < length l) same c.loop-entry-test.true)
    (subst (λ (l : List ShelfEntry). c.entry-item.result ≡ get_or l i c.entry-item.result) same c.entry-item.is)
    c.args.program.now (environment_of c.loop-entry.env) c.in-Err.kind (c.loop-entry.part + 1) (ap (λ (k : ℕ). k + 1) c.loop-entry.invariant.part)
    c.loop-entry.invariant.before c.in-Err.ensures.refused

pub loop-entry-preserved : goal.loop-entry-preserved
loop-entry-preserved c =
    let xs = c.args.shelf.now.0 in
    let i = c.loop-entry.entry-index in
    let same = c.as_slice-entry-items.ensures in
    record {
      part = ap (λ (k : ℕ). k + 1) c.loop-entry.invariant.part;
      before =
          before_next xs i c.entry-item.result
          (subst (λ (l : List ShelfEntry). i < length l) same c.loop-entry-test.true)
          (subst (λ (l : List ShelfEntry). c.entry-item.result ≡ get_or l i c.entry-item.result) same c.entry-item.is)
          (environment_of c.loop-entry.env) (environment_of c.in-Ok.more) c.loop-entry.invariant.before c.in-Ok.ensures.taken;
    }

pub program_behind-requires-clause-few : goal.program_behind-requires-clause-few
program_behind-requires-clause-few c =
    let s = (sound_before c.args.shelf.now.0 c.loop-entry.entry-index (environment_of c.loop-entry.env) c.requires.shelved c.requires.few c.loop-entry.invariant.before).few in
    let a = length-map c.loop-entry.env.entries entry_of in
    omega (arith, a, s)

pub program_behind-requires-clause-names : goal.program_behind-requires-clause-names
program_behind-requires-clause-names c =
    (sound_before c.args.shelf.now.0 c.loop-entry.entry-index (environment_of c.loop-entry.env) c.requires.shelved c.requires.few c.loop-entry.invariant.before).names

pub program_behind-requires-clause-counted : goal.program_behind-requires-clause-counted
program_behind-requires-clause-counted c =
    (sound_before c.args.shelf.now.0 c.loop-entry.entry-index (environment_of c.loop-entry.env) c.requires.shelved c.requires.few c.loop-entry.invariant.before).counted

pub returns-in-Ok-program_behind-clause-accepted : goal.returns-in-Ok-program_behind-clause-accepted
returns-in-Ok-program_behind-clause-accepted c =
    let l = c.in-Ok-program_behind.loaded in
    loads_last c.args.shelf.now.0 c.loop-entry.entry-index (environment_of c.loop-entry.env) c.args.program.now
    (all_seen _ _ _ c.as_slice-entry-items.ensures c.loop-entry.auto.entry-index-end c.loop-entry-test.false) c.loop-entry.invariant.before
    (environment_of l.env) (expr_of l.main) (typ_of l.ty) c.in-Ok-program_behind.ensures.taken

pub returns-in-Ok-program_behind-clause-loaded : goal.returns-in-Ok-program_behind-clause-loaded
returns-in-Ok-program_behind-clause-loaded c =
    let l = c.in-Ok-program_behind.loaded in
    let a = length-map c.args.shelf.now.0 shelved in
    let few = c.requires.few in
    loads_ready c.args.program.now (shelf_of c.args.shelf.now) (environment_of l.env) (expr_of l.main) (typ_of l.ty) c.requires.shelved (omega (arith, a, few))
    (loads_last c.args.shelf.now.0 c.loop-entry.entry-index (environment_of c.loop-entry.env) c.args.program.now
    (all_seen _ _ _ c.as_slice-entry-items.ensures c.loop-entry.auto.entry-index-end c.loop-entry-test.false) c.loop-entry.invariant.before
    (environment_of l.env) (expr_of l.main) (typ_of l.ty) c.in-Ok-program_behind.ensures.taken)

pub returns-in-Err-program_behind-clause-refused : goal.returns-in-Err-program_behind-clause-refused
returns-in-Err-program_behind-clause-refused c =
    rejects_last c.args.shelf.now.0 c.loop-entry.entry-index (environment_of c.loop-entry.env) c.args.program.now
    (all_seen _ _ _ c.as_slice-entry-items.ensures c.loop-entry.auto.entry-index-end c.loop-entry-test.false) c.loop-entry.invariant.before
    c.in-Err-program_behind.kind c.in-Err-program_behind.ensures.refused
