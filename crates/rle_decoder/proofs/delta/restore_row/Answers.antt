-- `restore_row`: the first row from the copy, any other from `resolve_scanline_delta`. Assumes nothing.
use Rattle.std.proofs.Common.{length, ◌∙◌, arith}
use Rattle.rle_format.proofs.Slice.{write_at_0}
use Rattle.rle_decoder.proofs.Copied.{copied_write_at}
use Rattle.rle_decoder.proofs.Restore.{restore_first, restore_below}
use Rattle.rle_decoder.proofs.delta.restore_row.Goals as goal

pub returns-then-start-eq0 : goal.returns-then-start-eq0
returns-then-start-eq0 c =
    let a = c.args in
    let wrote = copied_write_at a.dst.now c.copy_from_slice.new.self a.codes.now 0 (length a.codes.now) c.copy_from_slice.ensures.after (omega arith) in
    restore_first a.dst.now _ a.codes.now a.start c.if-start-eq0.true (wrote ∙ write_at_0 a.dst.now a.codes.now)

pub returns : goal.returns
returns c = restore_below c.args.dst.now c.resolve_scanline_delta.new.rows c.args.codes.now c.args.start c.if-start-eq0.false (omega arith) c.resolve_scanline_delta.ensures
