use Rattle.std.proofs.Common.{◌≡◌, ◌++◌, drop, map}
use Rattle.ac_code.specs.ReadCode.{block_of, table_code}
use Rattle.ac_text.specs.NumberedLines.{lines_from}
use Rattle.acute_listings.specs.Listing.{block_lines, listing_of}
use Rattle.acute_listings.proofs.blocks.listing.Given as goal

abbrev pub invariant-loop-number : goal.invariant-loop-number
invariant-loop-number l = l.text.0 ++ lines_from block_lines l.number (drop l.number (map block_of l.table.blocks)) ≡ listing_of (table_code l.table)
