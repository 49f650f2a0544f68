use Rattle.ux_page.proofs.Tags.{text_stays_text}
use Rattle.ux_page.proofs.escape.text_stays_text.Goals as goal

pub returns : goal.returns
returns c = text_stays_text
