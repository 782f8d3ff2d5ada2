use Rattle.lens_explain.proofs.Pages.{put_adds}
use Rattle.lens_explain.proofs.heading.put_page.Goals as goal

pub returns-in-Some : goal.returns-in-Some
returns-in-Some c = put_adds _ _ _ c.put.ensures
