use Rattle.lens_explain.proofs.Pages.{lines_say}
use Rattle.lens_explain.proofs.heading.in_lines.Goals as goal

pub returns : goal.returns
returns c = lines_say _ _ c.words.ensures _ _ _ c.put-2.ensures c.put_page-2.ensures
