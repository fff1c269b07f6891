-- `resolve_scanline_delta`: the iterations of its loop. Assumes nothing.
use Rattle.std.proofs.Common.{◌≡◌, ℕ, ◌+◌, ◌%◌, length, get_or, sym, ap, ◌∙◌, arith, take_all}
use Rattle.rle_format.specs.Slice.{write_at}
use Rattle.rle_format.specs.Delta.{undo_delta}
use Rattle.rle_format.proofs.Slice.{write_at_nil}
use Rattle.rle_decoder.proofs.Restore.{below, length_below, below_more}
use Rattle.rle_decoder.proofs.delta.resolve_scanline_delta.Goals as goal

pub loop-i-init : goal.loop-i-init
loop-i-init c = sym (write_at_nil _ _)

pub loop-i-preserved : goal.loop-i-preserved
unfolding undo_delta
loop-i-preserved c =
    let l = c.loop-i in
    let a = c.args in
    let v : (get_or l.rows l.i 0 + c.transformed_delta.result) % 256 ≡ undo_delta (get_or l.rows l.i 0) (get_or a.codes.now l.i 0) =
    ap (λ (d : ℕ). (get_or l.rows l.i 0 + d) % 256) c.transformed_delta.ensures in
    below_more a.rows.now l.rows a.codes.now l.i _ c.requires (omega arith) l.invariant v

pub returns : goal.returns
unfolding below
returns c =
    let l = c.loop-i in
    let a = c.args in
    l.invariant ∙ ap (write_at a.rows.now (length a.codes.now)) (take_all l.i (below a.rows.now a.codes.now) (omega (arith, length_below a.rows.now a.codes.now (omega arith))))
