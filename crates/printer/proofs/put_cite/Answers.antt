use Rattle.fields.proofs.Appends as appends
use Rattle.printer.proofs.put_cite.Goals as goal

pub returns : goal.returns
returns c = appends.both c.put_byte-a.ensures (appends.both (appends.same c.text_at-text.ensures c.put_text-b.ensures) c.put_byte.ensures)
