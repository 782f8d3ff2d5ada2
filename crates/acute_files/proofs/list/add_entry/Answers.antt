use Rattle.std.proofs.Common.{◌∙◌, sym, arith, map}
use Rattle.acute_files.specs.ShelfLists.{listed_of}
use Rattle.acute_files.proofs.Lines.{too_many, twice, one_more, any_listed, map_length}
use Rattle.acute_files.proofs.list.add_entry.Goals as goal

pub returns-then-len-ge-MOST_SHELF_ENTRIES-clause-fits : goal.returns-then-len-ge-MOST_SHELF_ENTRIES-clause-fits
returns-then-len-ge-MOST_SHELF_ENTRIES-clause-fits c =
    let xs = c.args.entries.now in
    too_many (map listed_of xs) _ c.requires (omega (arith, map_length xs, c.len.ensures, c.if-len-ge-MOST_SHELF_ENTRIES.true))

pub returns-then-has_uri-clause-fits : goal.returns-then-has_uri-clause-fits
returns-then-has_uri-clause-fits c =
    let xs = c.args.entries.now in
    twice (map listed_of xs) _ c.requires (sym (any_listed c.args.uri.now xs) ∙ sym c.has_uri.ensures ∙ c.if-has_uri.true)

pub returns-clause-fits : goal.returns-clause-fits
returns-clause-fits c =
    let xs = c.args.entries.now in
    one_more (map listed_of xs) _ c.requires (omega (arith, map_length xs, c.len.ensures, c.if-len-ge-MOST_SHELF_ENTRIES.false)) (sym (any_listed c.args.uri.now xs) ∙ sym c.has_uri.ensures ∙ c.if-has_uri.false)
