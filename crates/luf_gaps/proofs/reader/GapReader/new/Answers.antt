use Rattle.std.proofs.Common.{[], ◌∙◌}
use Rattle.luf_tree.specs.SyntaxOf.{syntax_of}
use Rattle.luf_bare.specs.Dropped.{dropped_block}
use Rattle.luf_gaps.proofs.LeftLaws.{all_left}
use Rattle.luf_gaps.proofs.MaskReads.{mask_length}
use Rattle.luf_gaps.proofs.reader.GapReader.new.Goals as goal

pub invariant_of-result : goal.invariant_of-result
invariant_of-result c = (c.requires, mask_length (dropped_block (syntax_of c.args.c.now) []) c.tokens.result c.in_ok-dropped.dropped.items c.in_ok-dropped.ensures ∙ c.tokens.ensures.count)

pub returns : goal.returns
returns c = all_left c.args.src.now c.args.cut.now c.in_ok-dropped.dropped.items (dropped_block (syntax_of c.args.c.now) []) c.tokens.result c.tokens.ensures.count c.in_ok-dropped.ensures
