use Rattle.lens_explain.proofs.Pages.{json_says}
use Rattle.lens_explain.proofs.heading.in_json.Goals as goal

pub returns : goal.returns
returns c = json_says _ _ c.json_words.ensures _ _ _ c.new-page.ensures c.put.ensures c.put_page.ensures
