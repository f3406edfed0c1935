use lib.ListN.{length}
use Rattle.grammar.specs.Print.{printed}
use Rattle.grammar.specs.Bytes.{tree_at}
use Rattle.semantics.specs.Truth.{truth}
use Rattle.semantics.specs.Packages.{pakete}
use Rattle.line.specs.Lines.{figures, truth_name, format_said}
use Rattle.line.proofs.Texts.{five_written}
use Rattle.line.proofs.tree_lines.Goals as goal

pub returns : goal.returns
returns c = let e = tree_at c.args.tree.bytes.now 0 in five_written c.args.kind (printed e) (truth_name c.args.presence) (figures (length (pakete e))) (format_said c.args.value.now (truth c.args.value.now e) e) c.status_line-a.ensures c.tree_line-b.ensures c.presence_line-p.ensures c.pakete_line-n.ensures c.format_line.ensures
