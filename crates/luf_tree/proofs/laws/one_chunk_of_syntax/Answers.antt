use Rattle.luf_tree.proofs.SyntaxKept as law
use Rattle.luf_tree.proofs.laws.one_chunk_of_syntax.Goals as goal

pub returns : goal.returns
returns c = law.syntax_keeps
