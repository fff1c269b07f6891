-- `encode_scanline`: a row without values has no segments; any other is `encode_row`'s, from the start of the slice on.
use Rattle.std.proofs.Common.{◌≡◌, ℕ, List, [], ◌∷◌, length, refl, sym, arith}
use borrow.Author.Tests.{eqb-true}
use Rattle.rle_format.specs.Answer.{counted, stop}
use Rattle.rle_format.specs.Slice.{overwrite}
use Rattle.rle_format.specs.Pack.{row_segments, write_segments}
use Rattle.rle_format.proofs.Slice.{overwrite_nil}
use Rattle.rle_format.proofs.WriteLoop.{wrote_from_0}
use Rattle.rle_scanline_encoder.proofs.encode_scanline.Goals as goal

no_values : (codes d : List ℕ) → length codes ≡ 0
    → (counted 0 ≡ (write_segments (row_segments codes) (length d)).answer) × (d ≡ overwrite d (write_segments (row_segments codes) (length d)).written)
unfolding row_segments write_segments stop
no_values [] d e = (refl, sym (overwrite_nil d))
no_values (x ∷ xs) d e = absurd (omega arith)

pub returns-then-is_empty : goal.returns-then-is_empty
returns-then-is_empty c =
    let w = no_values c.args.codes.now c.args.dst.now (eqb-true (length c.args.codes.now) 0 (sym c.if-is_empty.ensures)) in
    record { answer = w.0; slice = w.1 }

pub returns : goal.returns
returns c =
    let row = c.encode_row in
    let w = wrote_from_0 (row_segments c.args.codes.now) c.args.dst.now row.new.dst row.result (row.ensures.answer, row.ensures.slice) in
    record { answer = w.0; slice = w.1 }
