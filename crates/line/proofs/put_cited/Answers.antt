use Rattle.fields.proofs.Appends as appends
use Rattle.line.proofs.put_cited.Goals as goal

pub returns : goal.returns
returns c = appends.both c.put_byte-from.ensures (appends.same c.text_at.ensures c.put_text.ensures)
